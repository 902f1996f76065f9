use Rattle.std.proofs.Common.{◌≡◌, ℕ, ◌+◌, ◌*◌, ◌/◌, ◌%◌, ◌^◌, ◌≤◌, [], ◌∷◌, ◌++◌, length, inr}
use Rattle.std.proofs.Common.{ap, sym, subst, arith, ◌∙◌}
use Rattle.awk_numbers.specs.Figures.{below, AllFigures}
use Rattle.awk_numbers.proofs.Figures.{push_step, push_figures, longer, front_step, has_room}
use Rattle.awk_numbers.proofs.decimal.push_carry.Goals as goal

pub push-requires : goal.push-requires
push-requires c = (
  omega arith,
  has_room c.loop-rest.digits.items c.loop-rest.rest _ c.loop-rest.invariant.value c.requires.room
      (omega (arith, c.loop-rest-test.true)),
)

pub loop-rest-preserved : goal.loop-rest-preserved
loop-rest-preserved c =
    let xs = c.loop-rest.digits.items in
    let rest = c.loop-rest.rest in
    let old = c.args.digits.now.items in
    let all' = below old (length old) + c.args.carry * 10 ^ length old in
    let is : c.push.new.self.items ≡ xs ++ (rest % 10 ∷ []) = c.push.ensures.items in
    record {
      value = (λ j. below (is j) (length (is j)) + rest / 10 * 10 ^ length (is j))
          ∙ push_step xs rest all' c.loop-rest.invariant.value;
      figures = subst AllFigures (sym is) (push_figures xs (rest % 10) c.loop-rest.invariant.figures (omega arith));
      front = λ k e. (
          let n : length xs ≡ k = omega (arith, ap length is, longer xs (rest % 10), e) in
          inr (subst (λ (t : ℕ). 10 ^ t ≤ all') n (front_step (below xs (length xs)) rest (10 ^ length xs) all'
          c.loop-rest.invariant.value (omega (arith, c.loop-rest-test.true))))
          );
    }
