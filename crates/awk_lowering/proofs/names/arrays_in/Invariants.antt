use Rattle.std.proofs.Common.{◌≡◌, ◌++◌, drop, map}
use Rattle.awk_program.specs.View.{variable_of}
use Rattle.awk_lowering.specs.Lowered.{array_in}
use Rattle.awk_lowering.specs.Made.{names_in, scope_in}
use Rattle.awk_lowering.proofs.names.arrays_in.Given as goal

abbrev pub invariant-loop-member : goal.invariant-loop-member
invariant-loop-member l = map (array_in (scope_in l.context)) l.members ≡ map (variable_of (names_in l.context)) l.out
    ++ map (array_in (scope_in l.context)) (drop l.member-index l.members)
