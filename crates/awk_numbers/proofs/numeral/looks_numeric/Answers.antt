use Rattle.std.proofs.Common.{◌≡◌, List, ℕ, Bool, true, Result, drop, sym, ap, subst, ◌∙◌}
use Rattle.std.proofs.lemmas.List.{take_rest}
use Rattle.std.specs.List.{list_all}
use Rattle.std.specs.Result.{result_ok}
use Rattle.fast_float.specs.Text.{Parts, scan, has_digits}
use Rattle.awk_numbers.specs.declared.number.Number.{Number}
use Rattle.awk_numbers.specs.declared.number.NumberFault.{NumberFault}
use Rattle.awk_numbers.specs.Numerals.{has_minus, is_blank, looks_numeric, numeric_by, value_of, without_blanks}
use Rattle.awk_numbers.specs.Numerals.{without_sign}
use Rattle.awk_numbers.proofs.numeral.looks_numeric.Goals as goal

looks_at : (text body : List ℕ) (minus : Bool) (p : Parts) (r : Result Number NumberFault)
    → body ≡ without_sign (without_blanks text) → minus ≡ has_minus (without_blanks text) → p ≡ scan body
    → has_digits p ≡ true
    → list_all is_blank (drop p.len body) ≡ true → r ≡ value_of minus p → result_ok r ≡ looks_numeric text
looks_at text body minus p r eb em ep h b er =
    let rest = without_sign (without_blanks text) in
    let blank : list_all is_blank (drop p.len rest) ≡ true = ap (λ (k : List ℕ). list_all is_blank (drop p.len k))
    (sym eb) ∙ b in
    subst (λ (q : Parts). result_ok r ≡ numeric_by (without_blanks text) rest q) (ep ∙ ap scan eb)
    (rw (h, blank) (ap result_ok (er ∙ ap (λ (m : Bool). value_of m p) em)))

pub returns-then-is_all_blank : goal.returns-then-is_all_blank
returns-then-is_all_blank c =
    let body = c.split_sign-minus.result.1.now in
    let p = c.scan-numeral.result in
    let blank = ap (list_all is_blank) (sym (take_rest body c.len.result)) ∙ sym c.is_all_blank.ensures
    ∙ c.if-is_all_blank.true in
    c.ok.ensures.value
    ∙ looks_at c.args.text.now body c.split_sign-minus.result.0 p c.value_of.result
    (c.split_sign-minus.ensures.rest ∙ ap without_sign c.without_blanks.ensures) (c.split_sign-minus.ensures.minus
    ∙ ap has_minus c.without_blanks.ensures)
    c.scan-numeral.ensures.parts (sym c.has_digits.ensures ∙ c.if-has_digits.true)
    (ap (λ (n : ℕ). list_all is_blank (drop n body)) (sym c.len.ensures) ∙ blank) c.value_of.ensures
