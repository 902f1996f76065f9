use Rattle.std.proofs.Common.{map}
use Rattle.awk_program.specs.Program as p
use Rattle.awk_program.specs.Program.{expressions_of}
use Rattle.awk_program.specs.View.{view}
use Rattle.awk_program.proofs.Views.{view-Builtin}
use Rattle.awk_text.specs.declared.place.Place.{Place}
use Rattle.awk_builtins.specs.AtHand.{IsThere}
use Rattle.awk_builtins.proofs.Rests.{some_for}
use Rattle.awk_builtins.proofs.at_hand.values.other_at_hand.Goals as goal

pub returns-in-Builtin : goal.returns-in-Builtin
returns-in-Builtin c =
    some_for {P = λ val. (q : Place)
    → IsThere (λ names. p.builtin q c.in-Builtin.which (expressions_of (map (view names) c.as_slice.result.now)))
    c.args.store.now val} c.called_there.result
    (λ val h g t. rw (c.in-Builtin.is, view-Builtin) (rw c.as_slice.ensures at (h c.in-Builtin.field-0 g t)))
    c.called_there.ensures
