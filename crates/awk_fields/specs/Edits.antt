-- The fields of a record of which some are set, and the whole text that they make.
use Rattle.std.specs.Prelude.{◌≡◌, ℕ, ◌+◌, ◌≤◌, ◌^◌, List, length, map, All}
use Rattle.std.specs.List.{sum_by}
use Rattle.awk_text.specs.Limits.{most_bytes}
use Rattle.awk_text.specs.Values.{text_of}
use Rattle.awk_text.specs.declared.value.Value.TheVariants.{Real, Text}
use Rattle.awk_fields.specs.Rows.{Field, input, plain, rebuilt}
use Rattle.awk_fields.specs.Spans.{IsWithin, part}
use Rattle.awk_fields.specs.declared.part.Part.{Part}
use Rattle.awk_fields.specs.declared.part.Part.TheVariants.{Cut, Own, Shown}
use Rattle.awk_fields.specs.declared.edits.Whole.{Whole}
use Rattle.awk_fields.specs.declared.edits.Whole.TheVariants.{Split, Built, Stale}
use Rattle.awk_fields.specs.declared.edits.Edited.{Edited}

-- ---- one field

abbrev pub field_of : List ℕ → Part → Field
field_of text (Cut span) = input (part text span)
field_of text (Own value) = plain value
field_of text (Shown number own_text) = record { value = Real number; shown = Text own_text }

-- a span is within the text
abbrev pub IsPartOf : List ℕ → Part → Type 0
IsPartOf text (Cut span) = IsWithin text span
IsPartOf text (Own value) = Unit {0}
IsPartOf text (Shown number own_text) = Unit {0}

abbrev pub part_bytes : List ℕ → Part → ℕ
part_bytes text part = length (text_of (field_of text part).shown)

-- ---- all of them

abbrev pub edited_fields : List ℕ → Edited → List Field
edited_fields text edited = map (field_of text) edited.parts.items

abbrev pub whole_at : Whole → List ℕ → List ℕ → List ℕ → List ℕ
whole_at Split text built rebuilt = text
whole_at Built text built rebuilt = built
whole_at Stale text built rebuilt = rebuilt

abbrev pub edited_whole : List ℕ → Edited → List ℕ
edited_whole text edited =
    whole_at edited.whole text edited.built.items (rebuilt edited.ofs.items (edited_fields text edited))

pub record IsSoundEdited (text : List ℕ) (edited : Edited) : Type 0 where
  pub within : All (IsPartOf text) edited.parts.items
  pub bytes_are : edited.bytes ≡ sum_by (part_bytes text) edited.parts.items
  pub small : edited.bytes + 2 ^ 64 ≤ 2 ^ 128

-- the fields and the whole text are the same
pub record IsSame (text : List ℕ) (old new : Edited) : Type 0 where
  pub fields : edited_fields text new ≡ edited_fields text old
  pub whole : edited_whole text new ≡ edited_whole text old

-- these are the fields now, and the whole text is joined of them
pub record AreSet (text ofs : List ℕ) (fields : List Field) (new : Edited) : Type 0 where
  pub fields_are : edited_fields text new ≡ fields
  pub whole_is : edited_whole text new ≡ rebuilt ofs fields
  pub fits : length (rebuilt ofs fields) ≤ most_bytes
