-- What contracts see of a record.
use Rattle.std.specs.Prelude.{ℕ, List, map, [], All}
use Rattle.awk_fields.specs.Edits.{IsSoundEdited, edited_fields, edited_whole}
use Rattle.awk_fields.specs.Rows.{Field, Held, unsplit, known, Row, IsKept, input}
use Rattle.awk_fields.specs.Spans.{IsWithin, part}
use Rattle.awk_fields.specs.declared.edits.Edited.{Edited}
use Rattle.awk_fields.specs.declared.parts.Parts.{Parts}
use Rattle.awk_fields.specs.declared.parts.State.{State}
use Rattle.awk_fields.specs.declared.parts.State.TheVariants.{Unsplit, Spans, Edits}
use Rattle.awk_fields.specs.declared.spans.Span.{Span}

-- the fields of a record that is split or was edited
abbrev pub fields_by : State → List ℕ → List Span → List Field → List Field
fields_by (Unsplit splitter) text spans edited = []
fields_by Spans text spans edited = map (λ span. input (part text span)) spans
fields_by Edits text spans edited = edited

abbrev pub fields_of : List ℕ → Parts → List Field
fields_of text parts = fields_by parts.state text parts.spans.items (edited_fields text parts.edited)

abbrev pub whole_by : State → List ℕ → List ℕ → List ℕ
whole_by (Unsplit splitter) text edited = text
whole_by Spans text edited = text
whole_by Edits text edited = edited

abbrev pub whole_of : List ℕ → Parts → List ℕ
whole_of text parts = whole_by parts.state text (edited_whole text parts.edited)

abbrev pub held_by : State → List Field → Held
held_by (Unsplit splitter) fields = unsplit splitter
held_by Spans fields = known fields
held_by Edits fields = known fields

abbrev pub row_of : List ℕ → Parts → Row
row_of text parts = record { whole = whole_of text parts; fields = held_by parts.state (fields_of text parts) }

abbrev pub IsSoundBy : State → List ℕ → List Span → Edited → Type 0
IsSoundBy (Unsplit splitter) text spans edited = Unit {0}
IsSoundBy Spans text spans edited = All (IsWithin text) spans
IsSoundBy Edits text spans edited = IsSoundEdited text edited

-- what is in use is about the text
abbrev pub IsSound : List ℕ → Parts → Type 0
IsSound text parts = IsSoundBy parts.state text parts.spans.items parts.edited

abbrev pub IsSplitBy : State → Type 0
IsSplitBy (Unsplit splitter) = ⊥
IsSplitBy Spans = Unit {0}
IsSplitBy Edits = Unit {0}

-- the parts of one text, or the same once they are split
abbrev pub ArePartsKept : List ℕ → Parts → Parts → Type 0
ArePartsKept text old new = IsKept (row_of text old) (row_of text new)
