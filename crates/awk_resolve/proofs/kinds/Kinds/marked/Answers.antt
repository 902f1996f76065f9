use Rattle.std.proofs.Common.{refl}
use Rattle.awk_resolve.proofs.AllKinds.{marked_kinds}
use Rattle.awk_resolve.proofs.kinds.Kinds.marked.Goals as goal

pub returns-clause-kinds : goal.returns-clause-kinds
returns-clause-kinds c =
    marked_kinds _ c.requires (record {
      numbers = c.in_ok-numbers.numbers;
      scalars = c.in_ok-marks.marks.scalars;
      arrays = c.in_ok-marks.marks.arrays;
    }) _ _ _ c.in_ok-numbers.ensures refl refl refl c.in_ok-marks.ensures.scalars c.in_ok-marks.ensures.arrays
