use Rattle.std.proofs.Common.{◌≡◌, length, refl, sym, subst, arith, is_some, true}
use Rattle.awk_ere.specs.Search.{Marks, BestOf, Goes, limit_of, IsBlank}
use Rattle.awk_ere.proofs.Searching.{marks_begin, best_begin, stops}
use Rattle.awk_ere.proofs.search.search.Goals as goal

pub loop-place-init : goal.loop-place-init
loop-place-init c = record {
  here_len = c.in_ok-here.ensures.len;
  ahead_len = c.in_ok-ahead.ensures.len;
  blank = c.in_ok-ahead.ensures.blank;
  marks = marks_begin _ _ _ _ _ _ c.in_ok-here.ensures.blank;
  best = best_begin _ _ _ _ _;
}

pub returns-then-is_blank : goal.returns-then-is_blank
returns-then-is_blank c =
    let h = c.in_ok-best.ensures in
    let some : is_some c.in_ok-best.best ≡ true = sym c.if-is_some.ensures in
    stops _ _ _ _ _ _ _ _ some (omega (arith, c.loop-place-test.true)) (omega arith) h.marks h.best
    (subst IsBlank c.swap.ensures.x_after (c.if-is_blank.ensures refl))

pub loop-place-preserved : goal.loop-place-preserved
loop-place-preserved c =
    let h = c.in_ok-best.ensures in
    record {
      here_len = rw c.swap.ensures.x_after h.ahead_len;
      ahead_len = rw c.swap.ensures.y_after h.here_len;
      blank = subst IsBlank (sym c.swap.ensures.y_after) h.blank;
      marks = rw c.swap.ensures.x_after h.marks;
      best = h.best;
    }

pub arrive-requires-clause-marks : goal.arrive-requires-clause-marks
arrive-requires-clause-marks c =
    let e : c.loop-place.place ≡ length c.args.text.now = omega arith in
    subst (λ x. Marks c.args.sets.now c.args.program.now c.args.text.now c.args.entry c.args.from
    (limit_of x c.loop-place.best) x c.loop-place.here) e c.loop-place.invariant.marks

pub arrive-requires-clause-best : goal.arrive-requires-clause-best
arrive-requires-clause-best c =
    let e : c.loop-place.place ≡ length c.args.text.now = omega arith in
    subst (λ x. BestOf (λ i j. Goes c.args.sets.now c.args.program.now c.args.text.now c.args.entry i 0 j) x c.args.from
    c.loop-place.best) e c.loop-place.invariant.best
