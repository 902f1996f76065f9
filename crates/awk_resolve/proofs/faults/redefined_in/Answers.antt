use Rattle.std.proofs.Common.{sym, refl}
use Rattle.awk_resolve.proofs.faults.redefined_in.Goals as goal

pub returns-in-Some : goal.returns-in-Some
returns-in-Some c = (
  c.in-Function.name,
  c.in-Function._params,
  c.in-Function.is,
  (c.in-Some._count.now, sym (rw c.bytes.ensures at c.in-Some.ensures)),
  refl,
)
