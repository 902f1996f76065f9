use Rattle.std.proofs.Common.{◌*◌, ◌^◌, ◌∙◌, ap, sym, Bool}
use Rattle.std.specs.Float.{binary64}
use lib.Ieee.{round, neg}
use Rattle.awk_numbers.proofs.Remainders.{negative, times_unit}
use Rattle.awk_numbers.proofs.remainder.from_units.Goals as goal

pub returns-then-is_negative : goal.returns-then-is_negative
returns-then-is_negative c =
    times_unit c.args.n (2 ^ c.args.power) (neg c.unit-unit.result) Bool.true c.requires.small
    (negative c.unit-unit.result (2 ^ c.args.power) (2 ^ 1074) c.unit-unit.ensures)
    ∙ ap (λ (s : Bool). round binary64 s (c.args.n * 2 ^ c.args.power) (2 ^ 1074)) (sym c.if-is_negative.true)

pub returns-else-is_negative : goal.returns-else-is_negative
returns-else-is_negative c =
    times_unit c.args.n (2 ^ c.args.power) c.unit-unit.result Bool.false c.requires.small c.unit-unit.ensures
    ∙ ap (λ (s : Bool). round binary64 s (c.args.n * 2 ^ c.args.power) (2 ^ 1074)) (sym c.if-is_negative.false)
