-- Whose the lines of several texts are that are one script.
use Rattle.std.specs.Prelude.{◌≡◌, ◌==◌, ℕ, ◌+◌, ◌-◌, ◌≤◌, List, [], ◌∷◌, ◌++◌, map, codes, count_by, Option}
use Rattle.std.specs.Prelude.{Some, string_bytes}
use Rattle.std.specs.Fmt.{decimal}
use Rattle.awk_text.specs.Places.{place_text}
use Rattle.awk_text.specs.Quoted.{quoted}
use Rattle.awk_text.specs.declared.place.Place.{Place}
use Rattle.awk_tokens.specs.Bytes.{Text}
use Rattle.awk_tokens.specs.Places.{place_after}
use Rattle.awk_sources.specs.Joined.{lead, texts_of}
use Rattle.awk_sources.specs.declared.source.Source.{Source}
use Rattle.awk_sources.specs.declared.lines.InSource.{InSource}
use Rattle.awk_sources.specs.declared.lines.Part.{Part}

-- a text's name, as messages have it, and how many lines it has
abbrev pub Entry : Type 0
Entry = Text × ℕ

-- the line that stands behind the last newline counts too
abbrev pub lines_of : Text → ℕ
lines_of text = count_by (λ b. b == 10) text + 1

abbrev pub entry_of : Source → Entry
entry_of source = (quoted (string_bytes source.name), lines_of source.text.items)

abbrev pub total : List Entry → ℕ
total [] = 0
total (entry ∷ entries) = entry.1 + total entries

abbrev pub entries : List Part → List Entry
entries parts = map (λ part. (string_bytes part.name, part.lines)) parts

-- this line of the whole is that line of the text of this entry
pub record IsLine (entries : List Entry) (line : ℕ) (entry : Entry) (own : ℕ) : Type 0 where
  pub before : List Entry
  pub after : List Entry
  pub parts : entries ≡ before ++ entry ∷ after
  pub first : 1 ≤ own
  pub last : own ≤ entry.1
  pub line_is : line ≡ total before + own

-- the whole has no such line
abbrev pub HasNoLine : List Entry → ℕ → Type 0
HasNoLine entries line = (entry : Entry) (own : ℕ) → IsLine entries line entry own → ⊥

-- it is told where this place of the whole is: in the text of that entry, at the same column
pub record IsTold (entries : List Entry) (place : Place) (found : InSource) : Type 0 where
  pub entry : Entry
  pub line : IsLine entries place.line entry found.place.line
  pub name : found.name.now ≡ entry.0
  pub column : found.place.column ≡ place.column

-- A byte of a source stands in the whole behind this front of its text and the sources before it. Of the place there,
-- its place in the source is told.
abbrev pub TellsOfBytes : List Entry → Place → Option InSource → Type 0
TellsOfBytes entries place result =
    (before : List Source) (source : Source) (after : List Source) (front rest : Text) →
    entries ≡ map entry_of (before ++ source ∷ after) → source.text.items ≡ front ++ rest →
    lines_of (lead (texts_of before) ++ front) ≤ 4294967295 → place ≡ place_after (lead (texts_of before) ++ front) →
    (found : InSource) × (result ≡ Some found) × (found.name.now ≡ quoted (string_bytes source.name))
    × (found.place ≡ place_after front)

-- the name and the place, as messages have them
abbrev pub told : InSource → List ℕ
told found = found.name.now ++ codes ":" ++ place_text found.place

-- the first and the last of a text's lines in the whole, and its name
abbrev pub row_text : ℕ → ℕ → Text → List ℕ
row_text first last name = decimal first ++ codes "-" ++ decimal last ++ codes " \"" ++ name ++ codes "\"\n"

-- a row for each text, the first line of the first of them being this one
abbrev pub table : ℕ → List Entry → List ℕ
table first [] = []
table first (entry ∷ entries) = row_text first (first + entry.1 - 1) entry.0 ++ table (first + entry.1) entries
