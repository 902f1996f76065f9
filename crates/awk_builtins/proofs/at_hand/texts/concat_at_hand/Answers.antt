use Rattle.std.proofs.Common.{◌≡◌, sym, ap, ◌∙◌, subst, map, arith}
use Rattle.std.proofs.lemmas.Bool.Decides.{nat_tests}
use Rattle.std.specs.Prelude.{Ok}
use Rattle.awk_format.specs.Formatted.{within}
use Rattle.awk_machine.specs.Forms.{value}
use Rattle.awk_machine.specs.Operators.{limited}
use Rattle.awk_machine.specs.Pieces.{give}
use Rattle.awk_program.specs.Program as p
use Rattle.awk_program.specs.Program.{joins_of}
use Rattle.awk_program.specs.View.{view, view_joined}
use Rattle.awk_store.specs.Acts.{Passes}
use Rattle.awk_store.specs.Wholes.{names_in}
use Rattle.awk_text.specs.Values.{text_of}
use Rattle.awk_text.specs.declared.value.Value.TheVariants as v
use Rattle.awk_builtins.proofs.Lines.{within_held}
use Rattle.awk_builtins.proofs.Grown.{limited_fits, limited_is}
use Rattle.awk_builtins.proofs.at_hand.texts.concat_at_hand.Goals as goal

pub returns : goal.returns
returns c =
    let made = c.join_operands.ensures c.if-not-join_operands.false in
    let told : limited (text_of made.val) ≡ Ok c.in-Ok.text = sym (within_held (text_of made.val))
    ∙ ap within (sym made.line_is) ∙ c.in-Ok.ensures.ok in
    let text : made.val ≡ v.Text c.in-Ok.text =
    made.is_text (grind (arith, nat_tests, c.if-is_empty.false, c.is_empty.ensures)) ∙ ap (λ t. v.Text t)
    (limited_is (text_of made.val) c.in-Ok.text told) in
    λ g t. subst (λ x. Passes g
    (value (p.concat (view (names_in g) c.args.first.now)
    (joins_of (map (view_joined (names_in g)) c.args.rest.now)))) (c.args.store.now, t) (give x) (
      c.args.store.now,
      t,
    )) text
    (made.there (limited_fits (text_of made.val) c.in-Ok.text told) g t)
