-- One part more of a text that is cut.
use Rattle.std.proofs.Common.{◌≡◌, ℕ, zero, suc, ◌+◌, ◌-◌, ◌≤◌, ◌<◌, Bool, true, false, not, cond, List, [], ◌∷◌, ◌++◌}
use Rattle.std.proofs.Common.{length, take, drop, sym, ap, refl, ◌∙◌, arith, append_assoc}
use Rattle.std.proofs.lemmas.List.{drop-drop}
use Rattle.std.specs.List.{position_or_len}
use Rattle.awk_fields.specs.Edges.{FoundTo}
use Rattle.awk_fields.specs.Spans.{part}
use Rattle.awk_fields.specs.declared.spans.Span.{Span}
use Rattle.awk_fields.proofs.Cuts.{one_more, no_spans}

-- behind so many bytes that aren't of the kind
position_by : (t : Bool) (m n k : ℕ) → suc m ≤ cond (not t) (1 + n) 0 → (m ≤ n → n ≡ m + k)
    → cond (not t) (1 + n) 0 ≡ suc m + k
position_by true m n k le rest = absurd (omega arith)
position_by false m n k le rest = omega (arith, rest (omega arith))

pub position_on : (p : ℕ → Bool) (m : ℕ) (s : List ℕ) → m ≤ position_or_len p s
    → position_or_len p s ≡ m + position_or_len p (drop m s)
position_on p zero s le = omega arith
position_on p (suc m) [] le = absurd (omega arith)
position_on p (suc m) (b ∷ s) le = position_by (p b) m (position_or_len p s) (position_or_len p (drop m s)) le
    (position_on p m s)

module _ (p : ℕ → Bool) (cut : List ℕ → List (List ℕ)) (s : List ℕ) where
  pub found_none : (spans : List Span) → spans ≡ [] → FoundTo p cut s 0 0 spans
  found_none spans none = record {
    ordered = omega arith;
    inside = omega arith;
    found = [];
    found_are = refl;
    spans_are = no_spans s spans none;
    unbroken = omega arith;
  }

  -- the part from `start` on, which the byte behind it ends
  pub found_more : (at start len : ℕ) (spans new : List Span) → (f : FoundTo p cut s at start spans)
      → new ≡ spans ++ record { start = start; end = start + len } ∷ [] → start + len < length s
      → cut (drop start s) ≡ take len (drop start s) ∷ cut (drop (start + len + 1) s)
      → FoundTo p cut s (start + len + 1) (start + len + 1) new
  found_more at start len spans new f pushed lt first =
      let span : Span = record { start = start; end = start + len } in
      let text = take len (drop start s) in
      let same : part s span ≡ text = ap (λ n. take n (drop start s)) (omega arith) in
      let rest = cut (drop (start + len + 1) s) in
      record {
        ordered = omega arith;
        inside = omega arith;
        found = f.found ++ text ∷ [];
        found_are = append_assoc f.found (text ∷ []) rest ∙ (ap (λ r. f.found ++ r) (sym first) ∙ f.found_are);
        spans_are = one_more s spans new span f.found text pushed
            (record { ordered = omega arith; inside = omega arith }) same f.spans_are;
        unbroken = omega arith;
      }

  -- no byte of the kind stands up to a place behind
  pub found_position : (at start : ℕ) (spans : List Span) → FoundTo p cut s at start spans
      → position_or_len p (drop start s) ≡ (at - start) + position_or_len p (drop at s)
  found_position at start spans f =
      position_on p (at - start) (drop start s) f.unbroken ∙ ap (λ l. (at - start) + position_or_len p l)
      (drop-drop (at - start) start s ∙ ap (λ m. drop m s) (omega (arith, f.ordered)))

  pub found_on : (at end start : ℕ) (spans : List Span) → FoundTo p cut s at start spans → at ≤ end → end ≤ length s
      → end - at ≤ position_or_len p (drop at s) → FoundTo p cut s end start spans
  found_on at end start spans f le inside clear =
      record {
        ordered = omega (arith, f.ordered);
        inside = inside;
        found = f.found;
        found_are = f.found_are;
        spans_are = f.spans_are;
        unbroken = omega (arith, clear, found_position at start spans f, f.ordered);
      }
