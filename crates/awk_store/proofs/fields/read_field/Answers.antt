use Rattle.std.proofs.Common.{arith, w64}
use Rattle.std.proofs.lemmas.Int.{to_z_pos}
use Rattle.awk_store.proofs.RecordSteps.{reads_field}
use Rattle.awk_store.proofs.fields.read_field.Goals as goal

pub returns : goal.returns
returns c = λ g t.
    reads_field g (c.args.store.now, t) c.args.number c.field.new.self c.in-Ok.value
    (omega (arith, c.ranges.number.fits)) c.field.ensures.others c.field.ensures.kept
    (rw (c.from.ensures, to_z_pos w64 c.args.number (omega (arith, c.ranges.number.fits))) at c.in-Ok.ensures.ok)
