use Rattle.std.proofs.Common.{true, ◌∷◌, drop, sym, ap, ◌∙◌}
use Rattle.awk_numbers.specs.declared.number.Numbers.TheVariants as profile
use Rattle.awk_format.specs.Directives.{tail_of}
use Rattle.awk_format.specs.Formatted.{pieces}
use Rattle.awk_format.specs.NumberTexts.{directives, is_left}
use Rattle.awk_format.proofs.NumberTexts.{directive_left, one_left}
use Rattle.awk_format.proofs.Steps.{tail_is_shorter}
use Rattle.awk_format.proofs.number_texts.after_directive.Goals as goal

pub returns-clause-some : goal.returns-clause-some
returns-clause-some c =
    let text = c.args.text.now in
    let plain = sym c.begins_with_percent.ensures.first ∙ c.if-begins_with_percent.false in
    let shows = sym c.shows_number.ensures ∙ c.if-not-shows_number.false in
    ap (λ rest. is_left true (directives (pieces profile.Double rest))) c.in-Ok.ensures.rest
    ∙ one_left c.args.found c.in-Ok.directive _ c.if-found.false shows
    ∙ ap (λ r. is_left c.args.found (r ∷ directives (pieces profile.Double (drop 1 (tail_of text)))))
    (sym c.in-Ok.ensures.ok)
    ∙ ap (is_left c.args.found) (sym (directive_left profile.Double text plain))

pub returns-clause-shorter : goal.returns-clause-shorter
returns-clause-shorter c = rw c.in-Ok.ensures.rest (tail_is_shorter c.args.text.now)
