-- What stands under texts: a list of pairs in which no text comes twice, in the order in which they were first put
-- there. Texts are compared byte by byte.
use Rattle.std.specs.Prelude.{ℕ, List, [], ◌∷◌, ◌++◌, if◌then◌else◌, is_some}
use Rattle.std.specs.Map.{lookup}
use Rattle.std.specs.Str.{bytes_eq}

-- the pairs once v is put under the text, in the place of what was there, or else at the end
abbrev pub with_text : {V : Type 0} → List ℕ → V → List (List ℕ × V) → List (List ℕ × V)
with_text text v [] = (text, v) ∷ []
with_text text v (p ∷ ps) = if bytes_eq text p.0 then (p.0, v) ∷ ps else p ∷ with_text text v ps

-- the pairs once something stands under the text: what is there stays, and else it is empty
abbrev pub with_new : List ℕ → List (List ℕ × List ℕ) → List (List ℕ × List ℕ)
with_new text ps = if is_some (lookup (bytes_eq text) ps) then ps else with_text text [] ps

-- the pairs once the bytes are added to what stands under the text. Where nothing does, they stay
abbrev pub with_more : List ℕ → List ℕ → List (List ℕ × List ℕ) → List (List ℕ × List ℕ)
with_more text bytes [] = []
with_more text bytes (p ∷ ps) = if bytes_eq text p.0 then (p.0, p.1 ++ bytes) ∷ ps else p ∷ with_more text bytes ps

-- a table of such pairs, and how many new texts it takes before it needs memory
pub record Table (V : Type 0) : Type 0 where
  pub pairs : List (List ℕ × V)
  pub room : ℕ
