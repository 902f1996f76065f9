-- The parts of a block that marks end, from mark to mark.
use Rattle.std.proofs.Common.{◌≡◌, ℕ, ◌+◌, ◌-◌, ◌*◌, ◌^◌, ◌≤◌, ◌<◌, Bool, min, List, [], ◌∷◌, ◌++◌, map, length, take}
use Rattle.std.proofs.Common.{drop, sym, ap, subst, ◌∙◌, arith, length-drop}
use lib.Bits.{bit_and}
use lib.Count.{count_trailing_zeros}
use lib.Lanes.{mask_l}
use Rattle.std.proofs.lemmas.List.{drop-drop, take_rest, length-map, length-take}
use Rattle.std.proofs.lemmas.List.Splits.{slice_split_first, slice_split_none}
use Rattle.std.proofs.lemmas.List.Sums.{fails_before_first}
use Rattle.std.specs.List.{slice_split, position_or_len}
use Rattle.awk_fields.specs.Edges.{PartsTo}
use Rattle.awk_fields.specs.Marks.{is_mark}
use Rattle.awk_fields.specs.Spans.{AreSpans}
use Rattle.awk_fields.specs.declared.marks.Marks.{Marks}
use Rattle.awk_fields.specs.declared.spans.Span.{Span}
use Rattle.awk_fields.proofs.Bits.{taken, some_behind, none_behind}
use Rattle.awk_fields.proofs.Cuts.{one_more}
use Rattle.awk_fields.proofs.Edges.{meets, no_meet}
use Rattle.awk_fields.proofs.FoundLemmas.{found_more, found_on, found_position}

-- So many bytes of a block of 64 are looked at. The bits are the marks that are left.
pub record IsAmong (marks : Marks) (s : List ℕ) (from found start : ℕ) (spans : List Span) (len capacity : ℕ) : Type 0
  where
    pub passed : ℕ
    pub few : passed ≤ 64
    pub parts_to : PartsTo marks s (from + passed) start spans
    pub found_are : found ≡ 2 ^ passed * mask_l (map (is_mark marks) (take (64 - passed) (drop (from + passed) s)))
    pub room : len + (64 - passed) ≤ capacity

module _ (marks : Marks) (s : List ℕ) where
  abbrev p : ℕ → Bool
  p = is_mark marks

  pub among_begins : (from found start : ℕ) (spans : List Span) (len capacity : ℕ) → PartsTo marks s from start spans
      → found ≡ mask_l (map p (take 64 (drop from s))) → len + 64 ≤ capacity
      → IsAmong marks s from found start spans len capacity
  among_begins from found start spans len capacity f found_are room =
      let now : from ≡ from + 0 = omega arith in
      record {
        passed = 0;
        few = omega arith;
        parts_to = subst (λ m. PartsTo marks s m start spans) now f;
        found_are = found_are ∙ (λ i. mask_l (map p (take 64 (drop (now i) s)))) ∙ omega arith;
        room = room;
      }

  pub part_ends : (from found start : ℕ) (spans new : List Span) (len capacity : ℕ)
      → IsAmong marks s from found start spans len capacity → 0 < found
      → new ≡ spans ++ record { start = start; end = from + count_trailing_zeros 64 found } ∷ []
      → IsAmong marks s from (bit_and found (found - 1)) (from + count_trailing_zeros 64 found + 1) new
      (len + 1) capacity
  part_ends from found start spans new len capacity a some pushed =
      let k = a.passed in
      let u = drop (from + k) s in
      let bits = map p (take (64 - k) u) in
      let j = position_or_len p u in
      let short : length bits ≤ 64 - k = omega (arith, length-map (take (64 - k) u) p, length-take (64 - k) u) in
      let t = taken bits k found (omega (arith, a.few)) a.found_are some in
      let m = meets p (64 - k) u (some_behind k (mask_l bits) (omega (arith, a.found_are))) in
      let place : count_trailing_zeros 64 found ≡ k + j = t.place ∙ ap (λ n. k + n) m.place in
      let on : drop (j + 1) u ≡ drop (from + (k + j + 1)) s = drop-drop (j + 1) (from + k) s ∙ ap (λ n. drop n s)
      (omega arith) in
      let left : 64 - k - (j + 1) ≡ 64 - (k + j + 1) = omega arith in
      let v = drop start s in
      let part = (from + k - start) + j in
      let position : position_or_len p v ≡ part = found_position p (slice_split p) s (from + k) start spans a.parts_to
      in
      let end_is : from + count_trailing_zeros 64 found ≡ start + part = omega (arith, place, a.parts_to.ordered) in
      let inside : start + part < length s = omega (arith, m.inside, length-drop (from + k) s, a.parts_to.ordered) in
      let behind : drop (part + 1) v ≡ drop (start + part + 1) s = drop-drop (part + 1) start s ∙ ap (λ n. drop n s)
      (omega arith) in
      let first : slice_split p v ≡ take part v ∷ slice_split p (drop (start + part + 1) s) =
      slice_split_first p v 0 (omega (arith, position, length-drop start s))
      ∙ ap (λ n. take n v ∷ slice_split p (drop (n + 1) v)) position ∙ ap (λ r. take part v ∷ slice_split p r)
      behind in
      let more = found_more p (slice_split p) s (from + k) start part spans new a.parts_to
      (pushed ∙ ap (λ n. spans ++ record { start = start; end = n } ∷ []) end_is) inside first in
      let last : start + part + 1 ≡ from + (k + j + 1) = omega (arith, a.parts_to.ordered) in
      let next : start + part + 1 ≡ from + count_trailing_zeros 64 found + 1 = omega (arith, end_is) in
      record {
        passed = k + j + 1;
        few = omega (arith, m.near, a.few);
        parts_to = subst (λ n. PartsTo marks s n (from + count_trailing_zeros 64 found + 1) new) last
            (subst (λ n. PartsTo marks s (start + part + 1) n new) next more);
        found_are = t.rest ∙ ap (λ n. 2 ^ (k + n + 1) * mask_l (drop (n + 1) bits)) m.place
            ∙ ap (λ l. 2 ^ (k + j + 1) * mask_l l) (m.rest ∙ (λ i. map p (take (left i) (on i))));
        room = omega (arith, a.room, m.near, a.few);
      }

  pub among_ends : (from start : ℕ) (spans : List Span) (len capacity : ℕ)
      → IsAmong marks s from 0 start spans len capacity → PartsTo marks s (min (from + 64) (length s)) start spans
  among_ends from start spans len capacity a =
      let k = a.passed in
      let u = drop (from + k) s in
      let none = no_meet p (64 - k) u (none_behind k (mask_l (map p (take (64 - k) u))) (sym a.found_are)) in
      found_on p (slice_split p) s (from + k) (min (from + 64) (length s)) start spans a.parts_to
      (omega (arith, a.few, a.parts_to.inside)) (omega arith) (omega (
        arith,
        none,
        length-drop (from + k) s,
        a.few,
        a.parts_to.inside,
      ))

  -- the last part ends with the text
  pub last_part : (start : ℕ) (spans new : List Span) → (f : PartsTo marks s (length s) start spans)
      → new ≡ spans ++ record { start = start; end = length s } ∷ [] → (fields : List (List ℕ))
      × (fields ≡ slice_split p s) × AreSpans s new fields
  last_part start spans new f pushed =
      let t = drop start s in
      let up_to : length t ≤ position_or_len p t = omega (arith, length-drop start s, f.unbroken) in
      let none : slice_split p t ≡ t ∷ [] = slice_split_none p t (λ k d lt. fails_before_first p t k d (omega arith)) in
      let same : take (length s - start) t ≡ t = take_rest s start in (
        f.found ++ t ∷ [],
        ap (λ r. f.found ++ r) (sym none) ∙ f.found_are,
        one_more s spans new (record { start = start; end = length s }) f.found t pushed
            (record { ordered = f.ordered; inside = omega arith }) same f.spans_are,
      )
