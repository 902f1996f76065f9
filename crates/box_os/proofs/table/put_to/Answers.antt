use Rattle.std.proofs.Common.{ap}
use Rattle.std.proofs.Math.Seq.{map-set_same}
use Rattle.box_os.specs.declared.table.OpenStream.{OpenStream}
use Rattle.box_os.proofs.table.put_to.Goals as goal

-- the stream that was written to keeps its number
pub returns-in-Ok-clause-same : goal.returns-in-Ok-clause-same
returns-in-Ok-clause-same c = map-set_same (λ (s : OpenStream). s.number) _ _ _ c.index_mut.result.now
    (ap (λ (s : OpenStream). s.number) c.index_mut.ensures.value)
