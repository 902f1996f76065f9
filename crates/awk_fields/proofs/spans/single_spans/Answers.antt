use Rattle.std.proofs.Common.{◌≡◌, ◌+◌, ◌-◌, ◌<◌, ◌∷◌, ◌++◌, [], ℕ, map, take, drop, length, get_or, sym, ap, subst}
use Rattle.std.proofs.Common.{◌∙◌, arith}
use Rattle.std.proofs.lemmas.List.{take_more, drop_more, map-append}
use Rattle.awk_fields.specs.Spans.{AreSpans, part}
use Rattle.awk_fields.proofs.Cuts.{one_more}
use Rattle.awk_fields.proofs.spans.single_spans.Goals as goal

pub loop-start-preserved : goal.loop-start-preserved
loop-start-preserved c =
    let s = c.args.text.now in
    let start = c.loop-start.start in
    let lt : start < length s = omega arith in
    let single = λ (b : ℕ). b ∷ [] in
    let one : start + 1 - start ≡ 1 = omega arith in
    let same : part s (record { start = start; end = start + 1 }) ≡ get_or s start 0 ∷ [] =
    ap (λ n. take n (drop start s)) one ∙ ap (take 1) (drop_more s start 0 lt) in
    let more : map single (take start s) ++ (get_or s start 0 ∷ []) ∷ [] ≡ map single (take (start + 1) s) =
    sym (ap (map single) (take_more s start 0 lt) ∙ map-append single (take start s) (get_or s start 0 ∷ [])) in
    subst (AreSpans s c.push.new.self.items) more
    (one_more s c.loop-start.spans.items c.push.new.self.items (record { start = start; end = start + 1 })
    (map single (take start s)) (get_or s start 0 ∷ []) c.in_ok-push.ensures.items
    (record { ordered = omega arith; inside = omega arith }) same c.loop-start.invariant)
