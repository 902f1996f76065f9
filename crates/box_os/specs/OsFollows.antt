-- Which world of the system follows from which: only the open numbers are told.
use Rattle.std.specs.Prelude.{◌≡◌, ℕ, List, ◌++◌}
use Rattle.std.proofs.Common.{ap, sym, ◌∙◌}
use Rattle.box_world.specs.Calls.{Call, open_after, open_after-append}

abbrev pub Follows : List ℕ → List Call → List ℕ → Type 0
Follows old calls new = new ≡ open_after calls old

pub Follows-append : (u v w : List ℕ) (xs ys : List Call) → Follows u xs v → Follows v ys w → Follows u (xs ++ ys) w
Follows-append u v w xs ys p q = q ∙ ap (λ z. open_after ys z) p ∙ sym (open_after-append xs ys u)
