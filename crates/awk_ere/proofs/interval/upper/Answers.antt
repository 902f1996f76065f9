use Rattle.std.proofs.Common.{Some, None, refl, ap, arith}
use Rattle.awk_ere.specs.Interval.{front_number}
use Rattle.awk_ere.proofs.Intervals.{upper_open, upper_closed}
use Rattle.awk_ere.proofs.interval.upper.Goals as goal

pub returns-in-125-clause-value : goal.returns-in-125-clause-value
returns-in-125-clause-value c =
    λ m h. (
      (m, None),
      upper_open m c.args.text.now c.in-None.ensures.value c.in-125.len_at_least (omega arith),
      (h, refl),
    )

pub returns-in-125-after-clause-value : goal.returns-in-125-after-clause-value
returns-in-125-after-clause-value c = λ m h.
    let v = c.in-Some.ensures.value in (
      (m, Some (front_number c.args.text.now)),
      upper_closed m c.args.text.now _ v.0 v.2 c.in-125-after.len_at_least
          (omega arith),
      (h, ap Some v.1),
    )
