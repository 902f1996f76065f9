-- A text in pieces of 8 bytes, of which the last one may be shorter.
use Rattle.std.specs.Prelude.{ℕ, zero, suc, nat_le, if◌then◌else◌, List, [], ◌∷◌, length, take, drop}

-- the pieces of a text that has no more than 8 bytes for each of n, and 8 besides
unfoldable pub pieces_of : ℕ → List ℕ → List (List ℕ)
pieces_of zero text = text ∷ []
pieces_of (suc n) text = if nat_le (length text) 8 then text ∷ [] else take 8 text ∷ pieces_of n (drop 8 text)

abbrev pub pieces : List ℕ → List (List ℕ)
pieces text = pieces_of (length text) text
