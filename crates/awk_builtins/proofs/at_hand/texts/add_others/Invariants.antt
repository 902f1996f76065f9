use Rattle.std.proofs.Common.{◌≡◌, [], ◌∷◌, take}
use Rattle.awk_fields.specs.Rows.{joined}
use Rattle.awk_text.specs.declared.value.Value.{Value}
use Rattle.awk_builtins.specs.Lines.{held}
use Rattle.awk_builtins.specs.AtHand.{HoldsJoined}
use Rattle.awk_builtins.proofs.at_hand.texts.add_others.Given as goal

abbrev pub invariant-loop-x : goal.invariant-loop-x
invariant-loop-x l = (first : Value) → l.fn.line ≡ held (joined l.separator (first ∷ []))
    → HoldsJoined l.store (take l.x-index l.xs) l.separator first l.line
