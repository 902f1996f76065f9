use Rattle.std.proofs.Common.{drop, refl, sym, ap, ◌∙◌, arith}
use Rattle.std.proofs.lemmas.List.{take_rest}
use Rattle.awk_numbers.specs.declared.number.Numbers.TheVariants as profile
use Rattle.awk_format.specs.Formatted.{pieces}
use Rattle.awk_format.specs.NumberTexts.{directives, is_left}
use Rattle.awk_format.proofs.NumberTexts.{next_left, passed}
use Rattle.awk_format.proofs.number_texts.is_of_number.Goals as goal

pub loop-rest-preserved-then-after-lt1 : goal.loop-rest-preserved-then-after-lt1
loop-rest-preserved-then-after-lt1 c =
    let found = c.loop-rest.found in
    let rest = c.loop-rest.rest.now in
    ap (λ t. is_left found (directives (pieces profile.Double t)))
    (c.split_at.ensures.back ∙ ap (λ n. drop n rest) c.plain_length.ensures.length)
    ∙ ap (is_left found) (sym (passed profile.Double rest))
    ∙ c.loop-rest.invariant

pub returns-in_default-after_directive : goal.returns-in_default-after_directive
returns-in_default-after_directive c =
    let back = c.split_at.result.1.now in
    sym (c.in_default-after_directive.ensures.none refl)
    ∙ next_left profile.Double c.loop-rest.found c.loop-rest.rest.now back _ c.plain_length.result
    c.plain_length.ensures.length c.split_at.ensures.back (omega arith) (take_rest back 1)
    ∙ c.loop-rest.invariant

pub loop-rest-preserved : goal.loop-rest-preserved
loop-rest-preserved c =
    let back = c.split_at.result.1.now in
    c.in-Some.ensures.some
    ∙ next_left profile.Double c.loop-rest.found c.loop-rest.rest.now back _ c.plain_length.result
    c.plain_length.ensures.length c.split_at.ensures.back (omega arith) (take_rest back 1)
    ∙ c.loop-rest.invariant
