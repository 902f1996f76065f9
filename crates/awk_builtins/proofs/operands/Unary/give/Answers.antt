use Rattle.std.proofs.Common.{ap, refl}
use Rattle.awk_program.specs.Program as p
use Rattle.awk_builtins.proofs.Granted.{given_or_lacks, given_so}
use Rattle.awk_store.proofs.Convfmt.{convfmt-so}
use Rattle.awk_store.specs.Kept.{by_convfmt}
use Rattle.awk_machine.specs.Advances.{held}
use Rattle.awk_machine.specs.Forms.{deliver}
use Rattle.awk_machine.specs.Streams.{seen}
use Rattle.awk_store.specs.Wholes.{Whole, base}
use Rattle.awk_builtins.proofs.Making.{gives_so}
use Rattle.awk_store.proofs.Acting.{acted}
use Rattle.awk_machine.specs.Pieces.{give}
use Rattle.awk_machine.specs.Operators as ops
use Rattle.awk_builtins.proofs.operands.Unary.give.Goals as goal

pub returns-in-Not-clause-task : goal.returns-in-Not-clause-task
returns-in-Not-clause-task g c = λ m x.
    rw (c.in-Not.is, c.truth_value.ensures, c.truth.ensures, c.numbers.ensures)
    (acted (gives_so m (c.args.store.now, c.args.streams.now) _ give _ (λ l hid d a. refl)))

pub returns-in-Signed-clause-task : goal.returns-in-Signed-clause-task
returns-in-Signed-clause-task g c = λ m x.
    rw (c.in-Signed.is, c.number_at.ensures, c.signed.ensures, c.numbers-in-Signed.ensures)
    (acted (given_so m (c.args.store.now, c.args.streams.now) _ c.in-Signed.place give
    (ops.signed c.args.store.now.numbers c.in-Signed.how c.args.value)
    (λ l hid d a. refl)))

pub returns-in-AsText-clause-task : goal.returns-in-AsText-clause-task
returns-in-AsText-clause-task g c = λ m x.
    let w : Whole = (c.args.store.now, c.args.streams.now) in
    rw (c.in-AsText.is, c.at.ensures)
    (acted (given_or_lacks m w _ c.in-AsText.place give (by_convfmt c.args.store.now c.args.value)
    c.as_text.result c.as_text.ensures.ok c.as_text.ensures.err
    (λ k hid d a. ap (λ r. held m (seen (base m w hid) d) (deliver c.in-AsText.place r k (seen (base m w hid) d)))
    (convfmt-so m w hid d a c.args.value))))

pub returns-in-Builtin-clause-task : goal.returns-in-Builtin-clause-task
returns-in-Builtin-clause-task g c = λ m x. rw c.in-Builtin.is (c.called.ensures.task m (p.more x p.none) refl)
