use Rattle.std.proofs.Common.{◌≡◌, ℕ, length, take, ap, sym, arith, ◌∙◌}
use lib.Seq.{take_all}
use Rattle.awk_numbers.specs.General.{stripped}
use Rattle.awk_numbers.proofs.Styles.{kept_end, dropped_end}
use Rattle.awk_numbers.proofs.general.stripped_length.Goals as goal

pub bytes-init : goal.bytes-init
bytes-init c =
    let xs = c.args.text.now in
    (omega arith, ap (stripped c.args.last) (sym (take_all (length xs) xs (omega arith))))

pub returns-then-byte-last-clause-value : goal.returns-then-byte-last-clause-value
returns-then-byte-last-clause-value c = kept_end c.args.text.now c.args.last c.bytes.length c.bytes.invariant.0
    (omega (arith, c.bytes-test.true)) c.if-byte-last.true c.bytes.invariant.1

pub bytes-preserved : goal.bytes-preserved
bytes-preserved c = (
  omega (arith, c.bytes.invariant.0),
  dropped_end c.args.text.now c.args.last c.bytes.length c.bytes.invariant.0 (omega (arith, c.bytes-test.true))
      c.if-byte-last.false c.bytes.invariant.1,
)

pub returns-clause-value : goal.returns-clause-value
returns-clause-value c =
    let none : c.bytes.length ≡ 0 = omega (arith, c.bytes-test.false) in
    sym (c.bytes.invariant.1 ∙ ap (λ (k : ℕ). stripped c.args.last (take k c.args.text.now)) none)
