-- A slice from a place on.
use Rattle.std.proofs.Common.{length, length-drop, ◌-◌, ◌≡◌, ℕ, List, take, drop}
use Rattle.std.proofs.Math.Seq.{take-length}

-- `&xs[at..]` is the rest
pub rest_of : (at : ℕ) (xs : List ℕ) → take (length xs - at) (drop at xs) ≡ drop at xs
rest_of at xs = rw (← length-drop at xs) (take-length (drop at xs))
