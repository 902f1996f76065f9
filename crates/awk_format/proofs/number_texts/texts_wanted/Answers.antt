use Rattle.std.proofs.Common.{[], ◌++◌, ◌∷◌, None, Some, drop, sym, ap, ◌∙◌, append-nil, arith, refl}
use Rattle.std.proofs.lemmas.List.{take_rest}
use Rattle.std.specs.Option.{option_to_list}
use Rattle.awk_format.specs.Formatted.{pieces}
use Rattle.awk_format.specs.NumberTexts.{directives, wants_texts}
use Rattle.awk_format.proofs.NumberTexts.{next_directives, passed, wanted_next}
use Rattle.awk_format.proofs.number_texts.texts_wanted.Goals as goal

pub loop-rest-preserved-then-after-lt1 : goal.loop-rest-preserved-then-after-lt1
loop-rest-preserved-then-after-lt1 c =
    let numbers = c.args.numbers in
    let rest = c.loop-rest.rest.now in
    ap (λ t. c.loop-rest.wants.items ++ wants_texts (directives (pieces numbers t)))
    (c.split_at.ensures.back ∙ ap (λ n. drop n rest) c.plain_length.ensures.length)
    ∙ ap (λ ds. c.loop-rest.wants.items ++ wants_texts ds) (sym (passed numbers rest))
    ∙ c.loop-rest.invariant

pub returns-in_default-text_wanted : goal.returns-in_default-text_wanted
returns-in_default-text_wanted c =
    let back = c.split_at.result.1.now in
    let numbers = c.args.numbers in
    sym (append-nil c.loop-rest.wants.items)
    ∙ ap (λ bs. c.loop-rest.wants.items ++ bs) (sym (c.in_default-text_wanted.ensures.none refl)
    ∙ ap wants_texts (next_directives numbers c.loop-rest.rest.now back _ c.plain_length.result
    c.plain_length.ensures.length c.split_at.ensures.back (omega arith) (take_rest back 1)))
    ∙ c.loop-rest.invariant

pub loop-rest-preserved-in_ok-push : goal.loop-rest-preserved-in_ok-push
loop-rest-preserved-in_ok-push c =
    let back = c.split_at.result.1.now in
    let numbers = c.args.numbers in
    let left = wants_texts (directives (pieces numbers c.in-Some.others.now)) in
    ap (λ bs. bs ++ left) c.in_ok-push.ensures.items
    ∙ wanted_next c.loop-rest.wants.items (Some c.in-Some-wanted.is_text) _ left _ _
    (c.in-Some.ensures.some ∙ ap (λ w. option_to_list w ++ left) c.in-Some-wanted.is)
    (ap wants_texts (next_directives numbers c.loop-rest.rest.now back _ c.plain_length.result
    c.plain_length.ensures.length c.split_at.ensures.back (omega arith) (take_rest back 1)))
    c.loop-rest.invariant

pub loop-rest-preserved : goal.loop-rest-preserved
loop-rest-preserved c =
    let back = c.split_at.result.1.now in
    let numbers = c.args.numbers in
    let left = wants_texts (directives (pieces numbers c.in-Some.others.now)) in
    ap (λ bs. bs ++ left) (sym (append-nil c.loop-rest.wants.items))
    ∙ wanted_next c.loop-rest.wants.items None _ left _ _
    (c.in-Some.ensures.some ∙ ap (λ w. option_to_list w ++ left) c.in_default-wanted.is)
    (ap wants_texts (next_directives numbers c.loop-rest.rest.now back _ c.plain_length.result
    c.plain_length.ensures.length c.split_at.ensures.back (omega arith) (take_rest back 1)))
    c.loop-rest.invariant
