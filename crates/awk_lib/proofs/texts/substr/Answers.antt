use Rattle.std.proofs.Common.{◌≡◌, ℕ, ◌-◌, min, List, length, take, drop, ap, ap₂, ◌∙◌, arith, rules, w64, ◌+ℤ◌, to_z}
use Rattle.std.proofs.Common.{of_z}
use Rattle.std.proofs.lemmas.Int.{to_z-of_z}
use Rattle.std.proofs.lemmas.List.{take_min, drop_min, length-take}
use Rattle.std.proofs.lemmas.Slice.{between_is, between_to_end}
use Rattle.awk_lib.specs.Texts.{below}
use Rattle.awk_lib.proofs.texts.substr.Goals as goal
use Rattle.awk_lib.proofs.texts.substr.Goals.{in-None, in-Some}

-- the part up to the n-th byte, without its first m bytes
part : (text : List ℕ) (m n start end : ℕ) → end ≡ min n (length text) → start ≡ min m end
    → take (end - start) (drop start text) ≡ drop m (take n text)
part text m n start end end_is start_is =
    let front : take end text ≡ take n text = ap (λ k. take k text) end_is ∙ take_min n text in
    let start_at : start ≡ min m (length (take n text)) = omega (arith, length-take n text) in
    between_is text start end ∙ ap (drop start) front ∙ ap (λ k. drop k (take n text)) start_at
    ∙ drop_min m (take n text)

rest : (text : List ℕ) (m start end : ℕ) → end ≡ length text → start ≡ min m end → take (end - start) (drop start text)
    ≡ drop m text
rest text m start end end_is start_is =
    let start_at : start ≡ min m (length text) = omega arith in
    between_to_end text start end (omega arith) ∙ ap (λ k. drop k text) start_at ∙ drop_min m text

pub returns : goal.returns
returns c =
    let from_is = to_z-of_z w64 c.args.from c.ranges.from in
    let start_is : c.below.result ≡ min (below c.args.from) c.match-count.end = c.below.ensures
    ∙ ap (λ z. min (below z) c.match-count.end) from_is in
    elim c.match-count.branch [
      | in-None w ↦ rw w.in-None.is (rest c.args.text.now (below c.args.from) c.below.result c.match-count.end w.end-is
          start_is)
      | in-Some w ↦
          let count_is : to_z w64 (of_z w64 w.in-Some.count) ≡ w.in-Some.count = to_z-of_z w64 w.in-Some.count
          (search rules) in
          let end_is : c.match-count.end ≡ min (below (c.args.from +ℤ w.in-Some.count)) (length c.args.text.now) =
          w.end-is ∙ w.below_sum-end.ensures ∙ ap₂ (λ a b. min (below (a +ℤ b)) (length c.args.text.now)) from_is
          count_is in
          rw w.in-Some.is (part c.args.text.now (below c.args.from) (below (c.args.from +ℤ w.in-Some.count))
          c.below.result c.match-count.end end_is start_is)
    ]
