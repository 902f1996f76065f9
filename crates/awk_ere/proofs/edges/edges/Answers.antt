use Rattle.std.proofs.Common.{refl, arith}
use Rattle.std.proofs.lemmas.Option.{slice_get-get_or}
use Rattle.awk_ere.proofs.Gathering.{edges_begin, edges_more, edges_end}
use Rattle.awk_ere.proofs.edges.edges.Goals as goal

pub loop-step-init : goal.loop-step-init
loop-step-init c = edges_begin _ _ _ refl

pub loop-step-preserved : goal.loop-step-preserved
loop-step-preserved c = edges_more _ _ _ _ _ _ (slice_get-get_or _ _ _ c.loop-step-test.true) c.add_edges.ensures.kept
    c.add_edges.ensures.edges c.loop-step.invariant

pub returns : goal.returns
returns c = edges_end _ _ _ _ (omega arith) c.loop-step.invariant
