use Rattle.std.proofs.Common.{arith, w64, ◌≡◌}
use Rattle.std.proofs.lemmas.Int.{to_z_pos}
use Rattle.std.specs.Prelude.{Ok}
use Rattle.awk_text.specs.declared.value.Value.{Value}
use Rattle.awk_text.specs.declared.value.Value.TheVariants as v
use Rattle.awk_store.proofs.Convfmt.{stays_unless}
use Rattle.awk_store.proofs.RecordSteps.{number_result}
use Rattle.awk_store.specs.Kept.{by_convfmt}
use Rattle.awk_store.proofs.fields.set_field.Goals as goal

pub returns-then-number-eq0 : goal.returns-then-number-eq0
returns-then-number-eq0 c = λ g t. rw c.if-number-eq0.true (c.set_whole.ensures g t)

pub returns-in-Real : goal.returns-in-Real
returns-in-Real c = λ g t. rw c.in-Real.is (c.set_number.ensures g t)

pub returns : goal.returns
returns c = λ g t. rw (c.at.ensures) (number_result g (c.args.store.now, t) c.args.place c.args.value
    c.args.value (stays_unless c.args.store.now c.args.value c.in_default.not-Real) c.args.number
    (omega (arith, c.ranges.number.fits)) c.if-number-eq0.false c.set_field.result c.set_field.new.self
    (rw (c.from.ensures, to_z_pos w64 c.args.number (omega (arith, c.ranges.number.fits))) at
    c.set_field.ensures.ok)
    c.set_field.ensures.err c.set_field.ensures.others
    (rw (c.from.ensures, to_z_pos w64 c.args.number (omega (arith, c.ranges.number.fits))) at
    c.set_field.ensures.fault))
