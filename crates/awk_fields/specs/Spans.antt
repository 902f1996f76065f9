-- Texts that are parts of one text.
use Rattle.std.specs.Prelude.{◌≡◌, ℕ, ◌≤◌, List, length, map, All}
use Rattle.std.specs.List.{slice_range}
use Rattle.awk_fields.specs.declared.spans.Span.{Span}

abbrev pub part : List ℕ → Span → List ℕ
part s span = slice_range s span.start span.end

pub record IsWithin (s : List ℕ) (span : Span) : Type 0 where
  pub ordered : span.start ≤ span.end
  pub inside : span.end ≤ length s

-- each of the spans is within the text, and these are their texts
pub record AreSpans (s : List ℕ) (spans : List Span) (texts : List (List ℕ)) : Type 0 where
  pub within : All (IsWithin s) spans
  pub texts_are : texts ≡ map (part s) spans
