use Rattle.awk_ere.proofs.Unique.{memory_alone}
use Rattle.awk_ere.proofs.plain.Plain.parse.Goals as goal

pub returns-in-Err-clause-accepts : goal.returns-in-Err-clause-accepts
returns-in-Err-clause-accepts c = rw c.code.ensures (memory_alone _ _ c.in-Err.ensures.err)
