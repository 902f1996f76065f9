use Rattle.std.proofs.Common.{◌≡◌, ℕ, ◌+◌, ◌*◌, ◌/◌, ◌%◌, ◌^◌, ◌<◌, length, get_or, ap, sym, refl, arith, ◌∙◌, rules}
use lib.Seq.{get_or-set_other}
use Rattle.awk_numbers.specs.Figures.{below}
use Rattle.awk_numbers.proofs.Figures.{below-zero, below-suc, below-set, ten-suc, scale_step, product_small}
use Rattle.awk_numbers.proofs.Figures.{set_figures}
use Rattle.awk_numbers.proofs.decimal.scale_digits.Goals as goal

pub loop-i-init : goal.loop-i-init
loop-i-init c = (
  rw (below-zero c.args.digits.now) (omega arith),
  λ k h. refl,
  c.requires.figures,
  c.requires.add,
)

pub loop-i-preserved : goal.loop-i-preserved
loop-i-preserved c =
    let l = c.loop-i in
    let old = c.args.digits.now in
    let f = c.args.factor in
    let x = c.from.result in
    let within : l.i < length l.digits = search rules in
    let here : get_or old l.i 0 ≡ x = sym (c.from.ensures ∙ l.invariant.1 l.i (omega arith)) in
    let small : x < 10 = omega (arith, c.from.ensures, l.invariant.2 l.i) in
    let product = x * f + l.carry in (
      (λ j. below-set l.digits l.i (product % 10) within j + product / 10 * ten-suc l.i j)
          ∙ scale_step (below l.digits l.i) (below old l.i) x f c.args.add l.carry (10 ^ l.i) l.invariant.0
          ∙ ap (λ (t : ℕ). t * f + c.args.add)
          (sym (below-suc old l.i ∙ ap (λ (t : ℕ). below old l.i + t * 10 ^ l.i) here)),
      λ k h. get_or-set_other l.digits l.i k (product % 10) 0 (λ e. omega arith) ∙ l.invariant.1 k (omega arith),
      set_figures l.digits l.i (product % 10) l.invariant.2 (omega arith),
      omega (arith, product_small x f l.carry small c.requires.factor l.invariant.3),
    )
