use Rattle.std.proofs.Common.{◌≡◌, None, sym, ap, ◌∙◌}
use Rattle.std.proofs.lemmas.List.{take_rest}
use Rattle.std.specs.List.{list_all}
use Rattle.std.specs.Result.{result_ok}
use Rattle.awk_text.specs.Numerals.{after_sign, drop_while, has_minus, is_blank, is_numeral}
use Rattle.awk_text.proofs.Numbers.{looks_by_range, looks_not, numeral_more, numeral_no_digit, numeral_yes}
use Rattle.awk_text.proofs.Numbers.{ranged_from_parts}
use Rattle.awk_text.proofs.Readings.{looks_if_none, looks_if_some}
use Rattle.awk_text.proofs.numeral.looks_numeric.Goals as goal
use Rattle.awk_text.proofs.numeral.looks_numeric.Goals.{then-count-eq0-via-then-count-eq0}
use Rattle.awk_text.proofs.numeral.looks_numeric.Goals.{then-count-eq0-via-else-count-eq0+then-not-is_all_blank}

pub returns-then-count-eq0-clause-value : goal.returns-then-count-eq0-clause-value
returns-then-count-eq0-clause-value c =
    let text = c.args.text.now in
    let rest = c.split_sign-minus.result.1.now in
    let count = c.leading_digits-count.result.0 in
    let rest_is : rest ≡ after_sign (drop_while is_blank text) = cc in
    let count_is = c.leading_digits-count.ensures.count in
    looks_not text (ap is_numeral (sym rest_is) ∙ elim c.then-count-eq0.branch [
      | then-count-eq0-via-then-count-eq0 w ↦ numeral_no_digit rest count count_is w.if-count-eq0.true
      | then-count-eq0-via-else-count-eq0+then-not-is_all_blank w ↦ numeral_more rest count count_is
          w.if-count-eq0.false
          (ap (list_all is_blank) (sym (take_rest rest count)) ∙ sym w.is_all_blank.ensures
          ∙ w.if-not-is_all_blank.true)
    ])

pub returns-clause-value : goal.returns-clause-value
returns-clause-value c =
    let text = c.args.text.now in
    let rest = c.split_sign-minus.result.1.now in
    let count = c.leading_digits-count.result.0 in
    let body = drop_while is_blank text in
    let minus_is = c.split_sign-minus.ensures.minus ∙ ap has_minus c.skip_blanks.ensures in
    let rest_is : rest ≡ after_sign body = cc in
    let blank = ap (list_all is_blank) (sym (take_rest rest count)) ∙ sym c.is_all_blank.ensures
    ∙ c.if-not-is_all_blank.false in
    let numeral = ap is_numeral (sym rest_is) ∙ numeral_yes rest count c.leading_digits-count.ensures.count
    c.if-count-eq0.false blank in
    let number_is = c.with_sign.ensures ∙ ranged_from_parts body _ rest _ minus_is rest_is
    c.leading_digits-count.ensures.value in
    c.ok.ensures.value ∙ ap result_ok number_is ∙ looks_by_range text numeral

pub returns-then-count-eq0-clause-only : goal.returns-then-count-eq0-clause-only
returns-then-count-eq0-clause-only c = looks_if_none c.args.text.now None (returns-then-count-eq0-clause-value c)

pub returns-clause-reading : goal.returns-clause-reading
returns-clause-reading c = looks_if_some c.args.text.now c.ok.result (returns-clause-value c)

pub returns-clause-only : goal.returns-clause-only
returns-clause-only c = looks_if_none c.args.text.now c.ok.result (returns-clause-value c)
