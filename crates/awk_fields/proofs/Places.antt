-- Places in a part of a text, and in the text.
use Rattle.std.proofs.Common.{◌≡◌, ℕ, ◌+◌, ◌-◌, ◌≤◌, ◌<◌, Bool, List, length, take, drop, get_or, Some, None, sym, ap}
use Rattle.std.proofs.Common.{◌∙◌, arith, get_or-take, get_or-drop, length-take, length-drop}
use Rattle.memchr.specs.Find.{IsFirst, IsFirstByte, Passes}

module _ (p : ℕ → Bool) (s : List ℕ) (from end : ℕ) where
  -- what stands in the part stands in the text
  same_byte : (i : ℕ) → i < end - from → get_or (take (end - from) (drop from s)) i 0 ≡ get_or s (from + i) 0
  same_byte i lt = get_or-take (end - from) (drop from s) i 0 lt ∙ get_or-drop from s i 0

  part_len : from ≤ end → end ≤ length s → length (take (end - from) (drop from s)) ≡ end - from
  part_len low high = omega (arith, length-take (end - from) (drop from s), length-drop from s)

  pub none_between : from ≤ end → end ≤ length s → IsFirstByte p (take (end - from) (drop from s)) None
      → IsFirst (Passes p s) from end None
  none_between low high none k after before is =
      let at : from + (k - from) ≡ k = omega arith in
      none (k - from) (omega arith) (omega (arith, part_len low high))
      (ap p (same_byte (k - from) (omega arith) ∙ ap (λ n. get_or s n 0) at) ∙ is)

  pub first_between : (k : ℕ) → from ≤ end → end ≤ length s → IsFirstByte p (take (end - from) (drop from s)) (Some k)
      → IsFirst (Passes p s) from end (Some (from + k))
  first_between k low high first =
      let lt : k < end - from = omega (arith, first.0.high, part_len low high) in (
        record {
          low = omega arith;
          high = omega arith;
          before = λ i after before is.
              let at : from + (i - from) ≡ i = omega arith in
              first.0.before (i - from) (omega arith) (omega arith)
              (ap p (same_byte (i - from) (omega arith) ∙ ap (λ n. get_or s n 0) at) ∙ is);
        },
        ap p (sym (same_byte k lt)) ∙ first.1,
      )
