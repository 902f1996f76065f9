use Rattle.std.proofs.Common.{arith, sym, subst, T}
use Rattle.awk_numbers.proofs.Patterns.{not_nan, low, high}
use Rattle.awk_numbers.proofs.fixed.split.Goals as goal

pub float_to_bits-bits : goal.float_to_bits-bits
float_to_bits-bits c = not_nan c.args.x c.requires

pub returns-then-bits-lt-HIDDEN-clause-value : goal.returns-then-bits-lt-HIDDEN-clause-value
returns-then-bits-lt-HIDDEN-clause-value c = low c.args.x (subst T (sym c.well_formed.0.1) tt) c.requires
    c.if-bits-lt-HIDDEN.true

pub returns-else-bits-lt-HIDDEN-clause-value : goal.returns-else-bits-lt-HIDDEN-clause-value
returns-else-bits-lt-HIDDEN-clause-value c =
    (high c.args.x (subst T (sym c.well_formed.0.1) tt) c.requires c.if-bits-lt-HIDDEN.false).1

pub returns-else-bits-lt-HIDDEN-clause-power : goal.returns-else-bits-lt-HIDDEN-clause-power
returns-else-bits-lt-HIDDEN-clause-power c =
    omega (arith, (high c.args.x (subst T (sym c.well_formed.0.1) tt) c.requires c.if-bits-lt-HIDDEN.false).0)
