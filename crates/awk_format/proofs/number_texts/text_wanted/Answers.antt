use Rattle.std.proofs.Common.{◌∷◌, drop, sym, ap, ◌∙◌}
use Rattle.awk_format.specs.Directives.{tail_of}
use Rattle.awk_format.specs.Formatted.{pieces}
use Rattle.awk_format.specs.NumberTexts.{directives, wants_texts}
use Rattle.awk_format.proofs.NumberTexts.{directive_left}
use Rattle.awk_format.proofs.Steps.{tail_is_shorter}
use Rattle.awk_format.proofs.number_texts.text_wanted.Goals as goal

pub returns-clause-some : goal.returns-clause-some
returns-clause-some c =
    let text = c.args.text.now in
    let numbers = c.args.numbers in
    let plain = sym c.begins_with_percent.ensures.first ∙ c.if-begins_with_percent.false in
    ap wants_texts (directive_left numbers text plain)
    ∙ ap (λ r. wants_texts (r ∷ directives (pieces numbers (drop 1 (tail_of text))))) c.in-Ok.ensures.ok
    ∙ ap (λ b. b ∷ wants_texts (directives (pieces numbers (drop 1 (tail_of text))))) (sym c.shows_text.ensures)
    ∙ ap (λ rest. c.shows_text.result ∷ wants_texts (directives (pieces numbers rest))) (sym c.in-Ok.ensures.rest)

pub returns-clause-shorter : goal.returns-clause-shorter
returns-clause-shorter c = rw c.in-Ok.ensures.rest (tail_is_shorter c.args.text.now)
