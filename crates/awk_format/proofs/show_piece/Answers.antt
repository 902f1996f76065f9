use Rattle.std.proofs.Common.{◌≡◌, ◌∷◌, drop, sym, ap, ◌∙◌, arith}
use Rattle.std.proofs.lemmas.List.{drop_more, take_rest}
use Rattle.awk_format.specs.Formatted.{completed, made_of}
use Rattle.awk_format.proofs.Steps.{percent_shown, shown_step, tail_is_shorter}
use Rattle.awk_format.proofs.show_piece.Goals as goal

pub returns-then-begins_with_percent-clause-ok : goal.returns-then-begins_with_percent-clause-ok
returns-then-begins_with_percent-clause-ok c =
    let text = c.args.text.now in
    percent_shown c.args.numbers c.args.out.now c.push.new.self text _ c.args.values.now
    (sym c.begins_with_percent.ensures.first
    ∙ c.if-begins_with_percent.true) (take_rest text 1) c.in_ok-push.ensures

pub returns-clause-ok : goal.returns-clause-ok
returns-clause-ok c =
    let text = c.args.text.now in
    let values = c.args.values.now in
    let value = c.value-item.result in
    let values_is : values ≡ value ∷ drop 1 values = drop_more values 0 value (omega arith)
    ∙ ap (λ v. v ∷ drop 1 values) (sym c.value-item.is) in
    let plain = sym c.begins_with_percent.ensures.first ∙ c.if-begins_with_percent.false in
    ap (λ vs. completed c.convert.new.out (made_of c.args.numbers c.in_ok-directive.rest.now vs)) (take_rest values 1)
    ∙ shown_step c.args.numbers c.args.out.now c.convert.new.out text c.in_ok-directive.rest.now values (drop 1 values)
    c.in_ok-directive.directive value plain c.in_ok-directive.ensures.ok c.in_ok-directive.ensures.rest values_is
    c.in_ok-convert.ensures.ok

pub returns-clause-shorter : goal.returns-clause-shorter
returns-clause-shorter c = rw c.in_ok-directive.ensures.rest (tail_is_shorter c.args.text.now)
