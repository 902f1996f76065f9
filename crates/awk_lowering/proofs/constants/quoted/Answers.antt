use Rattle.std.proofs.Common.{refl}
use Rattle.awk_program.proofs.Views.{view-Text}
use Rattle.awk_lowering.proofs.constants.quoted.Goals as goal

pub returns-in-Ok : goal.returns-in-Ok
returns-in-Ok c =
    let h = rw (c.in-Ok.is, c.bytes.ensures) at c.unescape.ensures.ok in λ t. rw (view-Text, c.new.ensures, h) refl
