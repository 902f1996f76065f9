use Rattle.std.proofs.Common.{refl, [], None}
use Rattle.awk_program.specs.View.{view_statement}
use Rattle.awk_lowering.proofs.Carried.{only_is}
use Rattle.awk_lowering.proofs.items.printed.Goals as goal

pub returns : goal.returns
returns c = λ t. only_is (view_statement t) _ _ _ c.only.ensures (c.print_of.ensures t [] None (rw c.new.ensures refl)
    refl)
