-- Several texts as one script: in order, as if they were one, each a text whose last line has its end
-- (POSIX.1-2017 XCU awk, OPTIONS, `-f`).
use Rattle.std.specs.Prelude.{ℕ, List, [], ◌∷◌, ◌++◌, map}
use Rattle.std.specs.List.{flat_map}
use Rattle.awk_tokens.specs.Bytes.{Text}
use Rattle.awk_sources.specs.declared.source.Source.{Source}

abbrev pub texts_of : List Source → List Text
texts_of sources = map (λ source. source.text.items) sources

-- the first, and each other one behind a newline
abbrev pub joined : List Text → Text
joined [] = []
joined (text ∷ texts) = text ++ flat_map (λ other. 10 ∷ other) texts

-- what stands before the text that follows these
abbrev pub lead : List Text → Text
lead texts = flat_map (λ text. text ++ 10 ∷ []) texts
