use Rattle.std.proofs.Common.{◌≡◌, ℕ, ◌+◌, ◌*◌, ◌^◌, ◌<◌, length, ap, sym, subst, arith, ◌∙◌}
use Rattle.awk_numbers.specs.Figures.{below}
use Rattle.awk_numbers.proofs.Figures.{renamed, power_more, next_room}
use Rattle.awk_numbers.proofs.decimal.scale_by.Goals as goal

pub scale-requires-clause-room : goal.scale-requires-clause-room
scale-requires-clause-room c = subst (λ (t : ℕ). t * c.args.factor + 0 < 10 ^ 768) (sym c.times.invariant.size)
    (next_room _ c.args.factor c.times._turn c.args.times c.requires.positive (omega (arith, c.times-test.true))
    c.requires.room)

pub times-preserved : goal.times-preserved
times-preserved c = record {
  figures = c.scale.ensures.figures;
  size = c.scale.ensures.size ∙ ap (λ (t : ℕ). t * c.args.factor + 0) c.times.invariant.size
      ∙ power_more _ c.args.factor c.times._turn;
  value = λ n are. renamed _ _ _ (power_more n c.args.factor c.times._turn)
      (c.scale.ensures.value _ (c.times.invariant.value n are));
}

pub returns-clause-size : goal.returns-clause-size
returns-clause-size c =
    let old = c.args.digits.now.items in
    let all' : c.times._turn ≡ c.args.times = omega arith in
    c.times.invariant.size ∙ ap (λ (t : ℕ). below old (length old) * c.args.factor ^ t) all'

pub returns-clause-value : goal.returns-clause-value
returns-clause-value c =
    λ n are. renamed _ _ _ (ap (λ (t : ℕ). n * c.args.factor ^ t) (omega arith)) (c.times.invariant.value n are)
