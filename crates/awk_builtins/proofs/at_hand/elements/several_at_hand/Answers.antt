use Rattle.std.proofs.Common.{◌≡◌, sym, ap, ◌∙◌}
use Rattle.std.specs.Prelude.{Ok}
use Rattle.std.specs.Result.{result_ok}
use Rattle.awk_fields.specs.Rows.{joined}
use Rattle.awk_format.specs.Formatted.{within}
use Rattle.awk_machine.specs.Operators.{limited}
use Rattle.awk_program.specs.declared.variables.Own.TheVariants as own
use Rattle.awk_store.specs.Kept.{own_text}
use Rattle.awk_builtins.proofs.Lines.{within_held}
use Rattle.awk_builtins.proofs.Rests.{ok_some, some_for}
use Rattle.awk_builtins.proofs.at_hand.elements.several_at_hand.Goals as goal

pub returns : goal.returns
returns c =
    let made = c.join_subscripts.ensures c.if-not-join_subscripts.false in
    let text = joined (own_text c.args.store.now own.Subsep) made.0 in
    rw c.ok.ensures.value (some_for {P = λ found. limited text ≡ Ok found.now} (result_ok c.text.result)
    (λ found is. record { vals = made.0; there = made.1; is = is })
    (ok_some {P = λ found. within c.join_subscripts.new.line ≡ Ok found.now} c.text.result
    (λ found told. sym (within_held text) ∙ ap within (sym made.2) ∙ told) c.text.ensures.ok))
