-- What stands under texts: a list of pairs, in which no text comes twice. Texts are compared byte by byte.
use Rattle.std.specs.Prelude.{ℕ, List, [], ◌∷◌, if◌then◌else◌}
use Rattle.std.specs.Str.{bytes_eq}

-- the pairs once v is put under the text, in the place of what was there, or else at the end
abbrev pub with_text : {V : Type 0} → List ℕ → V → List (List ℕ × V) → List (List ℕ × V)
with_text text v [] = (text, v) ∷ []
with_text text v (p ∷ ps) = if bytes_eq text p.0 then (p.0, v) ∷ ps else p ∷ with_text text v ps
