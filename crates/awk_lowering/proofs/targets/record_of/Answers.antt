use Rattle.std.proofs.Common.{pos}
use Rattle.awk_numbers.specs.declared.number.Number.TheVariants.{Whole}
use Rattle.awk_program.specs.Program as p
use Rattle.awk_program.specs.View.{view}
use Rattle.awk_lowering.proofs.Carried.{boxed_is}
use Rattle.awk_lowering.proofs.targets.record_of.Goals as goal

pub returns : goal.returns
returns c = λ t. c.field_of.ensures t (p.number (Whole (pos 0)))
    (boxed_is (view t) _ _ _ c.boxed.ensures (c.zero.ensures t))
