use Rattle.std.proofs.Common.{◌≡◌, ◌-◌, Bool, ◌∷◌, IfOk, sym, subst}
use Rattle.std.specs.Bool.{if◌then◌else◌}
use Rattle.std.proofs.lemmas.Bool.{lt-ltb, le-ltb}
use Rattle.awk_numbers.specs.Decimal.{padded}
use Rattle.awk_numbers.proofs.exponents.exponent.Goals as goal

pub returns-then-place-lt-UNIT : goal.returns-then-place-lt-UNIT
returns-then-place-lt-UNIT c =
    subst (λ (b : Bool). IfOk c.signed.result (λ made. made.items ≡ c.args.letter
    ∷ (if b then 45 ∷ padded 2 (1074 - c.args.place) else 43 ∷ padded 2 (c.args.place - 1074))))
    (sym (lt-ltb c.args.place 1074 c.if-place-lt-UNIT.true)) c.signed.ensures

pub returns-else-place-lt-UNIT : goal.returns-else-place-lt-UNIT
returns-else-place-lt-UNIT c =
    subst (λ (b : Bool). IfOk c.signed-else-place-lt-UNIT.result (λ made. made.items ≡ c.args.letter
    ∷ (if b then 45 ∷ padded 2 (1074 - c.args.place) else 43 ∷ padded 2 (c.args.place - 1074))))
    (sym (le-ltb c.args.place 1074 c.if-place-lt-UNIT.false)) c.signed-else-place-lt-UNIT.ensures
