use Rattle.awk_program.proofs.Views.{view-AsText}
use Rattle.awk_program.specs.View.{view}
use Rattle.awk_store.specs.Wholes.{names_in}
use Rattle.awk_builtins.proofs.Convfmt.{as_text_there}
use Rattle.awk_builtins.proofs.shown.operand_of.Goals as goal

pub returns-in-AsText : goal.returns-in-AsText
returns-in-AsText c = λ k val stays there g t.
    rw (c.in-AsText.is, view-AsText) (rw c.get.ensures at (as_text_there g (k, t) c.in-AsText.field-0
    (view (names_in g) c.get.result.now) val val (there g t) stays))
