-- How a line of a log is put together of its parts.
use Rattle.std.specs.Prelude.{◌≡◌, ℕ, ◌<◌, ◌^◌, ◌==◌, true, false, List, [], ◌∷◌, ◌++◌, None, Some, ◌⊎◌}
use Rattle.std.specs.List.{AllByRecursion}
use Rattle.std.specs.Fmt.{decimal}
use Rattle.awk_text.specs.declared.place.Place.{Place}
use Rattle.box_audit.specs.Audited.{outcome_word}
use Rattle.box_monitor.specs.Lines.{rule_word}

-- this byte is not in the text
abbrev pub HasNo : ℕ → List ℕ → Type 0
HasNo byte text = AllByRecursion (λ one. (one == byte) ≡ false) text

-- `LINE:COLUMN`
abbrev pub place_text : Place → List ℕ
place_text place = decimal place.line ++ 58 ∷ decimal place.column

-- its numbers have 32 bits
pub record IsPlace (place : Place) : Type 0 where
  pub line : place.line < 2 ^ 32
  pub column : place.column < 2 ^ 32

-- `"QUOTED"`
abbrev pub in_quotes : List ℕ → List ℕ
in_quotes quoted = 34 ∷ quoted ++ 34 ∷ []

-- `PLACE KIND WORD "QUOTED"`
abbrev pub joined : (place kind word quoted : List ℕ) → List ℕ
joined place kind word quoted = place ++ 32 ∷ (kind ++ 32 ∷ (word ++ 32 ∷ in_quotes quoted))

-- what stands between kind and text: in a log the number of a rule, of 32 bits, or `none`; in an audit `ok` or `failed`
abbrev pub IsWord : List ℕ → Type 0
IsWord word =
    (word ≡ rule_word None) ⊎ (word ≡ outcome_word false) ⊎ (word ≡ outcome_word true)
    ⊎ ((rule : ℕ) × (rule < 2 ^ 32) × (word ≡ rule_word (Some rule)))
