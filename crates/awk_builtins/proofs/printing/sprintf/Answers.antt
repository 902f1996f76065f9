use Rattle.std.proofs.Common.{ap}
use Rattle.awk_builtins.proofs.Called.{grants_by}
use Rattle.awk_builtins.proofs.Making.{text_so}
use Rattle.awk_builtins.proofs.Convfmt.{formatted-so}
use Rattle.awk_builtins.specs.Made.{as_text}
use Rattle.awk_builtins.specs.Shown.{formatted_by, formatted_text}
use Rattle.awk_machine.specs.Builtins.{Gives}
use Rattle.awk_machine.specs.Pieces.{give}
use Rattle.awk_program.specs.declared.builtins.Builtin.TheVariants as b
use Rattle.awk_store.specs.Wholes.{Whole}
use Rattle.awk_builtins.proofs.printing.sprintf.Goals as goal

pub returns : goal.returns
returns c = λ g t xs e.
    let w : Whole = (c.args.store.now, t) in
    rw c.text_at.ensures (text_so g w _ c.args.place give (formatted_by c.args.store.now c.args.values.now)
    c.text_of_format.result c.text_of_format.ensures.ok c.text_of_format.ensures.err
    (grants_by g w c.args.place b.Sprintf xs c.args.values.now e (formatted_text c.args.store.now c.args.values.now)
    (λ hid d a. ap (λ made. Gives (as_text made)) (formatted-so g w hid d a c.args.values.now))))
