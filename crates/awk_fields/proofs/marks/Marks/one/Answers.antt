use Rattle.std.proofs.Common.{eqb}
use Rattle.awk_fields.proofs.Marked.{or_thrice}
use Rattle.awk_fields.proofs.marks.Marks.one.Goals as goal

pub returns : goal.returns
returns c = λ b. or_thrice (eqb b c.args.byte)
