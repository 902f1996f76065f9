use Rattle.awk_program.specs.View.{view_term}
use Rattle.awk_lowering.proofs.Carried.{only_is}
use Rattle.awk_lowering.proofs.parts.power_of.Goals as goal

pub returns : goal.returns
returns c = λ t a b h0 h1. c.chain_of.ensures t a _ h0 (only_is (view_term t) _ _ _ c.only.ensures
    (c.power.ensures t b h1))
