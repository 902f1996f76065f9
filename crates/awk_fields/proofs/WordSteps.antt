-- The words of a block, from edge to edge.
use Rattle.std.proofs.Common.{◌≡◌, ℕ, ◌+◌, ◌-◌, ◌*◌, ◌^◌, ◌≤◌, ◌<◌, Bool, true, false, not, cond, min, List, [], ◌∷◌}
use Rattle.std.proofs.Common.{◌++◌, length, take, drop, get_or, sym, ap, subst, ◌∙◌, arith, append-nil, length-drop}
use Rattle.std.proofs.Common.{inl, inr}
use lib.Bits.{bit_and}
use lib.Count.{count_trailing_zeros}
use lib.Lanes.{mask_l}
use Rattle.std.proofs.lemmas.Bool.{cases_lt}
use Rattle.std.proofs.lemmas.List.{drop-drop, drop_more, drop_all, take_all, take_rest, get_or-drop}
use Rattle.std.proofs.lemmas.List.Sums.{passes_at_first, prefix_len_stops, prefix_len-le-length}
use Rattle.std.specs.List.{prefix_len, position_or_len}
use Rattle.awk_fields.specs.Edges.{WordsTo, IsBetween, changes}
use Rattle.awk_fields.specs.Fields.{is_blank, words}
use Rattle.awk_fields.specs.Spans.{AreSpans}
use Rattle.awk_fields.specs.declared.spans.Span.{Span}
use Rattle.awk_fields.proofs.Bits.{taken, some_behind, none_behind}
use Rattle.awk_fields.proofs.Edges.{begins, no_begin, ends, no_end, length_changes}
use Rattle.awk_fields.proofs.Cuts.{one_more}
use Rattle.awk_fields.proofs.FoundLemmas.{found_more, found_on, found_position}
use Rattle.awk_fields.proofs.WordLemmas.{runs_skip, runs_word}

module _ (s : List ℕ) where
  -- a word that a blank ends
  pub word_ends : (at start len : ℕ) (spans new : List Span) → WordsTo s at start spans
      → new ≡ spans ++ record { start = start; end = start + len } ∷ [] → start + len < length s
      → 0 < len → len ≡ position_or_len is_blank (drop start s) → WordsTo s (start + len + 1) (start + len + 1) new
  word_ends at start len spans new f pushed lt some len_is =
      let t = drop start s in
      let inside : len < length t = omega (arith, length-drop start s) in
      let behind : drop len t ≡ drop (start + len) s = drop-drop len start s in
      let on : drop 1 (drop (start + len) s) ≡ drop (start + len + 1) s = drop-drop 1 (start + len) s in
      let blank : is_blank (get_or t len 0) ≡ true = ap (λ n. is_blank (get_or t n 0)) len_is
      ∙ passes_at_first is_blank t 0 (omega (arith, len_is)) in
      let front : drop len t ≡ get_or t len 0 ∷ drop (len + 1) t = drop_more t len 0 inside in
      let one : 1 ≤ prefix_len is_blank (drop len t) = omega (
        arith,
        ap (prefix_len is_blank) front,
        ap (λ b. cond b (1 + prefix_len is_blank (drop (len + 1) t)) 0) blank,
      ) in
      let skipped : words (drop (start + len + 1) s) ≡ words (drop len t) = ap words (sym on ∙ ap (drop 1) (sym behind))
      ∙ runs_skip is_blank 1 (drop len t) one in
      let first : words t ≡ take len t ∷ words (drop len t) = runs_word is_blank t (omega (arith, len_is)) (omega arith)
      ∙ ap (λ n. take n t ∷ words (drop n t)) (sym len_is) in
      found_more is_blank words s at start len spans new f pushed lt (first ∙ ap (λ r. take len t ∷ r) (sym skipped))

  -- ---- a word begins

  pub record Started (from edges start : ℕ) (spans : List Span) (len capacity : ℕ) : Type 0 where
    pub passed : ℕ
    pub few : passed ≤ 64
    pub behind : from + passed ≡ start + 1
    pub start_inside : start ≤ length s
    pub words_to : WordsTo s start start spans
    pub some : start < length s → is_blank (get_or s start 0) ≡ false
    pub edges_are : edges ≡ 2 ^ passed * mask_l (changes is_blank (64 - passed) false (drop (from + passed) s))
    pub room : len + (64 - passed) + 1 ≤ capacity

  pub word_starts : (from edges : ℕ) (spans : List Span) (len capacity : ℕ) → IsBetween s from edges spans len capacity
      → 0 < edges → Started from (bit_and edges (edges - 1)) (from + count_trailing_zeros 64 edges) spans len capacity
  word_starts from edges spans len capacity b some =
      let k = b.passed in
      let u = drop (from + k) s in
      let bits = changes is_blank (64 - k) true u in
      let j = prefix_len is_blank u in
      let t = taken bits k edges (omega (arith, b.few, length_changes is_blank (64 - k) true u)) b.edges_are some in
      let bg = begins is_blank (64 - k) u (some_behind k (mask_l bits) (omega (arith, b.edges_are))) in
      let place : count_trailing_zeros 64 edges ≡ k + j = t.place ∙ ap (λ n. k + n) bg.place in
      let start = from + (k + j) in
      let low : j ≤ length u = prefix_len-le-length is_blank u in
      let at : drop j u ≡ drop start s = drop-drop j (from + k) s ∙ ap (λ n. drop n s) (omega arith) in
      let on : drop (j + 1) u ≡ drop (from + (k + j + 1)) s = drop-drop (j + 1) (from + k) s ∙ ap (λ n. drop n s)
      (omega arith) in
      let left : 64 - k - (j + 1) ≡ 64 - (k + j + 1) = omega arith in
      let here : start ≤ length s = omega (arith, b.words_to.inside, length-drop (from + k) s) in
      let rest : bit_and edges (edges - 1) ≡ 2 ^ (k + j + 1) * mask_l (changes is_blank (64 - (k + j + 1)) false
      (drop (from + (k + j + 1)) s)) =
      t.rest ∙ ap (λ n. 2 ^ (k + n + 1) * mask_l (drop (n + 1) bits)) bg.place ∙ ap (λ l. 2 ^ (k + j + 1) * mask_l l)
      (bg.rest ∙ (λ i. changes is_blank (left i) false (on i))) in
      subst (λ n. Started from (bit_and edges (edges - 1)) (from + n) spans len capacity) (sym place) (record {
        passed = k + j + 1;
        few = omega (arith, bg.near, b.few);
        behind = omega arith;
        start_inside = here;
        words_to = record {
          ordered = omega arith;
          inside = here;
          found = b.words_to.found;
          found_are = ap (λ r. b.words_to.found ++ r) (ap words (sym at) ∙ runs_skip is_blank j u (omega arith))
              ∙ b.words_to.found_are;
          spans_are = b.words_to.spans_are;
          unbroken = omega arith;
        };
        some = λ lt. sym (ap is_blank (get_or-drop (from + k) s j 0 ∙ ap (λ n. get_or s n 0) (omega arith)))
            ∙ prefix_len_stops is_blank u 0 (omega (arith, length-drop (from + k) s));
        edges_are = rest;
        room = omega (arith, b.room, bg.near, b.few);
      })

  -- ---- the edge behind a word

  one_word : (start : ℕ) → start < length s → is_blank (get_or s start 0) ≡ false
      → position_or_len is_blank (drop start s) ≡ 1 + position_or_len is_blank (drop (start + 1) s)
  one_word start lt fails = ap (position_or_len is_blank) (drop_more s start 0 lt)
      ∙ ap (λ b. cond (not b) (1 + position_or_len is_blank (drop (start + 1) s)) 0) fails

  -- the block ends before the word does
  pub word_open : (from start end : ℕ) (spans : List Span) (len capacity : ℕ) → Started from 0 start spans len capacity
      → end ≡ min (from + 64) (length s) → WordsTo s end start spans
  word_open from start end spans len capacity w end_is =
      let k = w.passed in
      let v = drop (from + k) s in
      let none = no_end is_blank (64 - k) v (none_behind k (mask_l (changes is_blank (64 - k) false v))
      (sym w.edges_are)) in
      let same : position_or_len is_blank v ≡ position_or_len is_blank (drop (start + 1) s) =
      ap (λ n. position_or_len is_blank (drop n s)) w.behind in
      record {
        ordered = omega (arith, w.behind, w.few, w.start_inside);
        inside = omega arith;
        found = w.words_to.found;
        found_are = w.words_to.found_are;
        spans_are = w.words_to.spans_are;
        unbroken = elim (cases_lt start (length s)) [
          | inl lt ↦ omega (arith, one_word start lt (w.some lt), none, same, length-drop (from + k) s, w.behind, w.few)
          | inr ge ↦ omega arith
        ];
      }

  closed : (from edges at start passed : ℕ) (spans new : List Span) (len capacity : ℕ) → (f : WordsTo s at start spans)
      → passed ≤ 64 → from + passed ≤ length s
      → edges ≡ 2 ^ passed * mask_l (changes is_blank (64 - passed) false (drop (from + passed) s)) → 0 < edges
      → (n : ℕ) → from + passed ≡ start + n → 0 < n + position_or_len is_blank (drop (from + passed) s)
      → position_or_len is_blank (drop start s) ≡ n + position_or_len is_blank (drop (from + passed) s)
      → new ≡ spans ++ record { start = start; end = from + count_trailing_zeros 64 edges } ∷ []
      → len + (64 - passed) ≤ capacity → IsBetween s from (bit_and edges (edges - 1)) new (len + 1) capacity
  closed from edges at start k spans new len capacity f few inside edges_are some n from_start long position pushed room
      =
      let v = drop (from + k) s in
      let bits = changes is_blank (64 - k) false v in
      let j = position_or_len is_blank v in
      let t = taken bits k edges (omega (arith, length_changes is_blank (64 - k) false v)) edges_are some in
      let en = ends is_blank (64 - k) v (some_behind k (mask_l bits) (omega (arith, edges_are))) in
      let place : count_trailing_zeros 64 edges ≡ k + j = t.place ∙ ap (λ m. k + m) en.place in
      let on : drop (j + 1) v ≡ drop (from + (k + j + 1)) s = drop-drop (j + 1) (from + k) s ∙ ap (λ m. drop m s)
      (omega arith) in
      let left : 64 - k - (j + 1) ≡ 64 - (k + j + 1) = omega arith in
      let word = n + j in
      let end_is : from + count_trailing_zeros 64 edges ≡ start + word = omega (arith, place) in
      let last : start + word + 1 ≡ from + (k + j + 1) = omega arith in
      record {
        passed = k + j + 1;
        few = omega (arith, en.near);
        words_to = subst (λ m. WordsTo s m m new) last (word_ends at start word spans new f
            (pushed ∙ ap (λ m. spans ++ record { start = start; end = m } ∷ []) end_is)
            (omega (arith, en.inside, length-drop (from + k) s)) long (sym position));
        edges_are = t.rest ∙ ap (λ m. 2 ^ (k + m + 1) * mask_l (drop (m + 1) bits)) en.place
            ∙ ap (λ l. 2 ^ (k + j + 1) * mask_l l) (en.rest ∙ (λ i. changes is_blank (left i) true (on i)));
        room = omega (arith, en.near);
      }

  pub word_closes : (from edges start : ℕ) (spans new : List Span) (len capacity : ℕ)
      → Started from edges start spans len capacity → 0 < edges
      → new ≡ spans ++ record { start = start; end = from + count_trailing_zeros 64 edges } ∷ []
      → IsBetween s from (bit_and edges (edges - 1)) new (len + 1) capacity
  word_closes from edges start spans new len capacity w some pushed =
      let k = w.passed in
      let v = drop (from + k) s in
      let en = ends is_blank (64 - k) v (some_behind k (mask_l (changes is_blank (64 - k) false v))
      (omega (arith, w.edges_are))) in
      let inside : start + 1 < length s = omega (arith, en.inside, length-drop (from + k) s, w.behind) in
      closed from edges start start k spans new len capacity w.words_to w.few (omega (arith, w.behind)) w.edges_are some
      1 w.behind (omega arith)
      (one_word start (omega arith) (w.some (omega arith)) ∙ ap (λ m. 1 + position_or_len is_blank (drop m s))
      (sym w.behind)) pushed (omega (arith, w.room))

  -- a word that is open where the block begins
  at_first : (before : Bool) (from edges : ℕ) → edges ≡ mask_l (changes is_blank 64 before (drop from s))
      → edges ≡ 2 ^ 0 * mask_l (changes is_blank (64 - 0) before (drop (from + 0) s))
  at_first before from edges e =
      let now : from ≡ from + 0 = omega arith in
      e ∙ (λ i. mask_l (changes is_blank 64 before (drop (now i) s))) ∙ omega arith

  pub open_closes : (from edges start : ℕ) (spans new : List Span) (len capacity : ℕ) → WordsTo s from start spans
      → start < from → edges ≡ mask_l (changes is_blank 64 false (drop from s)) → 0 < edges
      → new ≡ spans ++ record { start = start; end = from + count_trailing_zeros 64 edges } ∷ [] → len + 64 ≤ capacity
      → IsBetween s from (bit_and edges (edges - 1)) new (len + 1) capacity
  open_closes from edges start spans new len capacity f lt edges_are some pushed room =
      let now : from ≡ from + 0 = omega arith in
      closed from edges from start 0 spans new len capacity f (omega arith) (omega (arith, f.inside))
      (at_first false from edges edges_are) some (from - start) (omega arith) (omega arith)
      (found_position is_blank words s from start spans f ∙ ap (λ m. (from - start) + position_or_len is_blank
      (drop m s)) now) pushed room

  pub open_still : (from start end : ℕ) (spans : List Span) → WordsTo s from start spans
      → mask_l (changes is_blank 64 false (drop from s)) ≡ 0 → end ≡ min (from + 64) (length s)
      → WordsTo s end start spans
  open_still from start end spans f none end_is =
      found_on is_blank words s from end start spans f (omega (arith, f.inside)) (omega arith)
      (omega (arith, no_end is_blank 64 (drop from s) none, length-drop from s, f.inside))

  -- ---- from block to block

  pub between_begins : (from edges start : ℕ) (spans : List Span) (len capacity : ℕ) → WordsTo s from start spans
      → start ≡ from → edges ≡ mask_l (changes is_blank 64 true (drop from s)) → len + 64 ≤ capacity
      → IsBetween s from edges spans len capacity
  between_begins from edges start spans len capacity f at edges_are room =
      let now : from ≡ from + 0 = omega arith in
      record {
        passed = 0;
        few = omega arith;
        words_to = subst (λ m. WordsTo s m m spans) now (subst (λ m. WordsTo s from m spans) at f);
        edges_are = at_first true from edges edges_are;
        room = room;
      }

  pub between_ends : (from end : ℕ) (spans : List Span) (len capacity : ℕ) → IsBetween s from 0 spans len capacity
      → end ≡ min (from + 64) (length s) → WordsTo s end end spans
  between_ends from end spans len capacity b end_is =
      let k = b.passed in
      let u = drop (from + k) s in
      let none = no_begin is_blank (64 - k) u (none_behind k (mask_l (changes is_blank (64 - k) true u))
      (sym b.edges_are)) in
      let low = prefix_len-le-length is_blank u in
      let full : end ≡ from + 64 = omega (arith, none, low, length-drop (from + k) s, b.few, b.words_to.inside) in
      let on : drop (64 - k) u ≡ drop end s = drop-drop (64 - k) (from + k) s ∙ ap (λ m. drop m s)
      (omega (arith, b.few)) in
      record {
        ordered = omega arith;
        inside = omega arith;
        found = b.words_to.found;
        found_are = ap (λ r. b.words_to.found ++ r) (ap words (sym on) ∙ runs_skip is_blank (64 - k) u none)
            ∙ b.words_to.found_are;
        spans_are = b.words_to.spans_are;
        unbroken = omega arith;
      }

  -- the last word ends with the text
  pub last_word : (start : ℕ) (spans new : List Span) → (f : WordsTo s (length s) start spans) → start < length s
      → new ≡ spans ++ record { start = start; end = length s } ∷ [] → (fields : List (List ℕ)) × (fields ≡ words s)
      × AreSpans s new fields
  last_word start spans new f lt pushed =
      let t = drop start s in
      let long : length t ≡ length s - start = length-drop start s in
      let up_to : position_or_len is_blank t ≡ length t =
      omega (arith, long, f.unbroken, prefix_len-le-length (λ b. not (is_blank b)) t) in
      let first : words t ≡ t ∷ [] = runs_word is_blank t (omega (arith, up_to)) (omega arith)
      ∙ (λ i. take (up_to i) t ∷ words (drop (up_to i) t)) ∙ (λ i. take_all (length t) t (omega arith) i ∷ words
      (drop_all (length t) t (omega arith) i)) in
      let same : take (length s - start) t ≡ t = take_rest s start in (
        f.found ++ t ∷ [],
        ap (λ r. f.found ++ r) (sym first) ∙ f.found_are,
        one_more s spans new (record { start = start; end = length s }) f.found t pushed
            (record { ordered = omega arith; inside = omega arith }) same f.spans_are,
      )

  pub no_last_word : (start : ℕ) (spans : List Span) → (f : WordsTo s (length s) start spans) → length s ≤ start
      → (fields : List (List ℕ)) × (fields ≡ words s) × AreSpans s spans fields
  no_last_word start spans f ge = (
    f.found,
    sym (append-nil f.found) ∙ ap (λ t. f.found ++ words t) (sym (drop_all start s ge)) ∙ f.found_are,
    f.spans_are,
  )
