use Rattle.std.proofs.Common.{refl}
use Rattle.awk_builtins.proofs.Called.{grants_made}
use Rattle.awk_builtins.proofs.Granted.{met_now, owned_so}
use Rattle.awk_machine.specs.Pieces.{give}
use Rattle.awk_machine.specs.Builtins as builtin
use Rattle.awk_program.specs.declared.builtins.Builtin.TheVariants as b
use Rattle.awk_builtins.proofs.functions.substr_in.Goals as goal

pub returns-in-Ok : goal.returns-in-Ok
returns-in-Ok c = λ g w xs by e. owned_so g w _ c.args.place give
    (builtin.substr_of w.0.numbers c.args.args.now) _ c.owned.result
    (rw by at c.in-Ok.ensures.ok) c.owned.ensures.ok c.owned.ensures.err
    (grants_made g w c.args.place b.Substr xs c.args.args.now
    e (builtin.substr_of w.0.numbers c.args.args.now) (λ s same. rw same refl))

pub returns-in-Err : goal.returns-in-Err
returns-in-Err c = λ g w xs by e. rw c.at.ensures (met_now g w _ c.args.place give
    (builtin.substr_of w.0.numbers c.args.args.now) _
    (rw by at c.in-Err.ensures.err) (grants_made g w c.args.place b.Substr xs c.args.args.now e
    (builtin.substr_of w.0.numbers c.args.args.now)
    (λ s same. rw same refl)))
