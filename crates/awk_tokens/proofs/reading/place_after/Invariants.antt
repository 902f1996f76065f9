use Rattle.std.proofs.Common.{◌≡◌, List, ℕ, ◌++◌, take}
use Rattle.awk_tokens.specs.Places as places
use Rattle.awk_tokens.proofs.reading.place_after.Given as goal

abbrev pub invariant-loop-b : goal.invariant-loop-b
invariant-loop-b l = (front : List ℕ) → l.fn.place ≡ places.place_after front
    → l.end ≡ places.place_after (front ++ take l.b-index l.text)
