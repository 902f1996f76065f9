use Rattle.std.proofs.Common.{Some, ap, arith}
use Rattle.awk_ere.specs.Interval.{front_number}
use Rattle.awk_ere.proofs.Intervals.{interval_closed}
use Rattle.awk_ere.proofs.interval.interval.Goals as goal

pub returns-in-125-clause-value : goal.returns-in-125-clause-value
returns-in-125-clause-value c =
    let v = c.in_ok-least.ensures.value in (
      (front_number c.args.text.now, Some (front_number c.args.text.now)),
      interval_closed c.args.text.now _ v.0 v.2 c.in-125.len_at_least (omega arith),
      (v.1, ap Some v.1),
    )
