-- The parts of a text that are found up to a place, and where words begin and end, as bits.
use Rattle.std.specs.Prelude.{◌≡◌, ℕ, zero, suc, ◌+◌, ◌-◌, ◌*◌, ◌^◌, ◌≤◌, Bool, true, false, not, List, [], ◌∷◌, ◌++◌}
use Rattle.std.specs.Prelude.{length, drop}
use Rattle.std.specs.List.{position_or_len, slice_split}
use Rattle.std.specs.Simd.Lanes.{mask_l}
use Rattle.awk_fields.specs.Fields.{is_blank, words}
use Rattle.awk_fields.specs.Marks.{is_mark}
use Rattle.awk_fields.specs.Spans.{AreSpans}
use Rattle.awk_fields.specs.declared.marks.Marks.{Marks}
use Rattle.awk_fields.specs.declared.spans.Span.{Span}

-- `cut` says which parts a text has. Those that end before a place are found: the bytes from `start`
-- up to the place belong to none of them, and none of these bytes separates.
pub record FoundTo (p : ℕ → Bool) (cut : List ℕ → List (List ℕ)) (s : List ℕ) (at start : ℕ) (spans : List Span) : Type
    0 where
  pub ordered : start ≤ at
  pub inside : at ≤ length s
  pub found : List (List ℕ)
  pub found_are : found ++ cut (drop start s) ≡ cut s
  pub spans_are : AreSpans s spans found
  pub unbroken : at - start ≤ position_or_len p (drop start s)

abbrev pub WordsTo : List ℕ → ℕ → ℕ → List Span → Type 0
WordsTo s at start spans = FoundTo is_blank words s at start spans

abbrev pub PartsTo : Marks → List ℕ → ℕ → ℕ → List Span → Type 0
PartsTo marks s at start spans = FoundTo (is_mark marks) (slice_split (is_mark marks)) s at start spans

-- ---- the edges of words

abbrev pub differs : Bool → Bool → Bool
differs true b = not b
differs false b = b

-- Which of the next bytes are of the kind where the one before is not, or the other way round. The
-- text's end is not of the kind.
abbrev pub changes : (ℕ → Bool) → ℕ → Bool → List ℕ → List Bool
changes p zero before s = []
changes p (suc r) true [] = true ∷ []
changes p (suc r) false [] = []
changes p (suc r) before (x ∷ s) = differs (p x) before ∷ changes p r (p x) s

-- So many bytes of a block of 64 are looked at, and no word is open behind them. The bits are the
-- edges that are left. A span more for each byte that is left has its room.
pub record IsBetween (s : List ℕ) (from edges : ℕ) (spans : List Span) (len capacity : ℕ) : Type 0 where
  pub passed : ℕ
  pub few : passed ≤ 64
  pub words_to : WordsTo s (from + passed) (from + passed) spans
  pub edges_are : edges ≡ 2 ^ passed * mask_l (changes is_blank (64 - passed) true (drop (from + passed) s))
  pub room : len + (64 - passed) ≤ capacity
