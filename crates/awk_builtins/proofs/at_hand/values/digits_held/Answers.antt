use Rattle.std.proofs.Common.{◌≡◌, sym, ap, ◌∙◌}
use Rattle.std.specs.Prelude.{Ok, Some}
use Rattle.awk_numbers.specs.declared.number.Number.TheVariants as number
use Rattle.awk_text.specs.Values.{number_of, numeric}
use Rattle.awk_text.specs.declared.value.Value.TheVariants as v
use Rattle.awk_builtins.proofs.AtHand.{variable_there}
use Rattle.awk_builtins.proofs.Rests.{some_both}
use Rattle.awk_builtins.proofs.at_hand.values.digits_held.Goals as goal

pub returns-in-Input : goal.returns-in-Input
returns-in-Input c =
    some_both {P = λ n. number_of c.args.store.now.numbers (v.Input c.bytes.result.now) ≡ Ok (number.Whole n)}
    {Q = λ n. numeric c.args.store.now.numbers (v.Input c.bytes.result.now) ≡ Some (number.Whole n)} c.few_digits.result
    (λ n is looks. record {
      val = v.Input c.bytes.result.now;
      is = is;
      looks = looks;
      there = λ g t. rw (c.in-Variable.is, ap v.Input c.bytes.ensures ∙ sym c.in-Input.is, c.in_ok-held.ensures)
          (variable_there g (c.args.store.now, t) c.in-Variable.variable (sym c.is_nf.ensures ∙ c.if-is_nf.false));
    })
    (rw c.numbers.ensures at c.few_digits.ensures.number) (rw c.numbers.ensures at c.few_digits.ensures.looks)
