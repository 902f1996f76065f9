use Rattle.std.proofs.Common.{◌≡◌, ◌^◌, ◌<◌, true, length, take, drop, pos, get_or, Ok, Some, sym, ap, ◌∙◌, arith, w64}
use Rattle.std.proofs.lemmas.Bool.Decides.{nat_tests}
use Rattle.std.proofs.lemmas.Int.{fits_signed_from_abs, to_z_pos}
use Rattle.std.proofs.lemmas.List.{length-drop}
use Rattle.std.proofs.lemmas.List.Sums.{prefix_len-drop_yes, prefix_len-le-length}
use Rattle.std.proofs.Math.Seq.{take-length}
use Rattle.std.specs.List.{prefix_len}
use Rattle.std.specs.Char.{is_ascii_digit}
use Rattle.std.specs.Str.Parse.{digits_value}
use Rattle.awk_numbers.specs.declared.number.Number.TheVariants.{Whole}
use Rattle.awk_text.proofs.Digits.{all_of, few, fewer, next_power, one_more}
use Rattle.awk_text.proofs.Doubles.{at_most, few_looks, few_number}
use Rattle.awk_text.proofs.lent.few_digits.Goals as goal

pub overflow_mul-value : goal.overflow_mul-value
overflow_mul-value c =
    record {
      fits = omega (
        arith,
        fewer c.loop-b.b-index c.loop-b.value (omega (arith, at_most c.args.numbers))
            (omega (arith, c.loop-b.invariant.1, c.loop-b.invariant.2)),
      );
    }

pub overflow_add-value : goal.overflow_add-value
overflow_add-value c =
    record {
      fits = omega (
        arith,
        fewer c.loop-b.b-index c.loop-b.value (omega (arith, at_most c.args.numbers))
            (omega (arith, c.loop-b.invariant.1, c.loop-b.invariant.2)),
        c.from.ensures,
        c.type_inv.text c.loop-b.b-index,
      );
    }

pub loop-b-preserved : goal.loop-b-preserved
loop-b-preserved c =
    let text = c.args.text.now in
    let i = c.loop-b.b-index in
    let digit : is_ascii_digit (get_or text i 0) ≡ true = cc in
    let further = prefix_len-drop_yes is_ascii_digit text i 0 c.loop-b-test.true digit in
    let more = one_more text i (10 ^ i) c.loop-b.value c.loop-b-test.true digit c.loop-b.invariant.1
    (omega (arith, c.loop-b.invariant.1, c.loop-b.invariant.2)) in (
      omega (arith, c.loop-b.invariant.0, further),
      omega (arith, more.0, c.from.ensures),
      next_power i _ (omega (arith, more.0, more.1)),
    )

pub overflow_cast-result : goal.overflow_cast-result
overflow_cast-result c =
    let small = few c.loop-b.b-index c.loop-b.value (omega (arith, at_most c.args.numbers))
    (omega (arith, c.loop-b.invariant.1, c.loop-b.invariant.2)) in
    fits_signed_from_abs w64 (pos c.loop-b.value) (omega (arith, small))

pub returns-clause-number : goal.returns-clause-number
returns-clause-number c =
    let text = c.args.text.now in
    let i = c.loop-b.b-index in
    let end : i ≡ length text = omega arith in
    let some : 0 < length text = grind (arith, nat_tests) in
    let is : c.loop-b.value ≡ digits_value 10 text = c.loop-b.invariant.1 ∙ ap (λ n. digits_value 10 (take n text)) end
    ∙ ap (digits_value 10) (take-length text) in
    let small = few i c.loop-b.value (omega (arith, at_most c.args.numbers)) (omega (arith, c.loop-b.invariant.1, c.loop-b.invariant.2)) in
    let all : prefix_len is_ascii_digit text ≡ length text = omega (
      arith,
      c.loop-b.invariant.0,
      end,
      prefix_len-le-length is_ascii_digit (drop i text),
      length-drop i text,
    ) in
    few_number text some all c.args.numbers i (omega arith) (omega (arith, is, c.loop-b.invariant.1, c.loop-b.invariant.2))
    ∙ ap (λ n. Ok (Whole (pos n))) (sym is)
    ∙ ap (λ z. Ok (Whole z)) (sym (to_z_pos w64 c.loop-b.value (omega (arith, small))))

pub returns-clause-looks : goal.returns-clause-looks
returns-clause-looks c =
    let text = c.args.text.now in
    let i = c.loop-b.b-index in
    let end : i ≡ length text = omega arith in
    let some : 0 < length text = grind (arith, nat_tests) in
    let is : c.loop-b.value ≡ digits_value 10 text = c.loop-b.invariant.1 ∙ ap (λ n. digits_value 10 (take n text)) end
    ∙ ap (digits_value 10) (take-length text) in
    let small = few i c.loop-b.value (omega (arith, at_most c.args.numbers)) (omega (arith, c.loop-b.invariant.1, c.loop-b.invariant.2)) in
    let all : prefix_len is_ascii_digit text ≡ length text = omega (
      arith,
      c.loop-b.invariant.0,
      end,
      prefix_len-le-length is_ascii_digit (drop i text),
      length-drop i text,
    ) in
    few_looks text some all c.args.numbers i (omega arith) (omega (arith, is, c.loop-b.invariant.1, c.loop-b.invariant.2))
    ∙ ap (λ n. Some (Whole (pos n))) (sym is)
    ∙ ap (λ z. Some (Whole z)) (sym (to_z_pos w64 c.loop-b.value (omega (arith, small))))

pub returns-clause-few : goal.returns-clause-few
returns-clause-few c =
    let text = c.args.text.now in
    let i = c.loop-b.b-index in
    let all : prefix_len is_ascii_digit text ≡ length text = omega (
      arith,
      c.loop-b.invariant.0,
      prefix_len-le-length is_ascii_digit (drop i text),
      length-drop i text,
    ) in
    (grind (arith, nat_tests), omega (arith, at_most c.args.numbers), all_of text all)
