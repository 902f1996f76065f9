use Rattle.std.proofs.Common.{ap, subst, sym, ◌∙◌, ◌≡◌, rules, w64}
use Rattle.std.proofs.lemmas.Int.{to_z-of_z}
use Rattle.std.specs.Prelude.{Ok}
use Rattle.awk_numbers.specs.declared.number.Number.TheVariants as number
use Rattle.awk_program.specs.View.{view}
use Rattle.awk_program.proofs.Views.{view-Read}
use Rattle.awk_store.specs.Wholes.{names_in}
use Rattle.awk_text.specs.Values.{text_of}
use Rattle.awk_text.specs.Lents.{lent_value}
use Rattle.awk_store.specs.Kept.{by_convfmt}
use Rattle.awk_store.proofs.Limited.{limited_ok}
use Rattle.awk_store.proofs.RecordSteps.{one_value}
use Rattle.awk_builtins.proofs.AtHand.{element_spot, field_there, field_number_is}
use Rattle.awk_builtins.proofs.Rests.{just_one}
use Rattle.awk_builtins.proofs.at_hand.elements.field_of_key.Goals as goal

pub returns : goal.returns
returns c =
    let h = c.in_ok-number.ensures in
    let e = rw (to_z-of_z w64 c.in_ok-number.number (search rules)) at c.in-Ok.ensures in
    let is = field_number_is c.in_ok-number.number c.in-Ok.number e.0 e.1 in
    λ val at fits g t place of_.
    let same = one_value c.args.store.now.row c.in-Ok.number val (lent_value c.in_ok-lent_field.field-0) at
    c.in_ok-lent_field.ensures in
    let stays : by_convfmt c.args.store.now val ≡ Ok val = subst (λ x. by_convfmt c.args.store.now x ≡ Ok x) (sym same)
    c.in_ok-unless_shown.ensures.1 in
    rw (just_one c.args.keys.now c.one-item.result c.in-len1.len_at_least
    c.in-len1.len_below c.one-item.is)
    (element_spot g (c.args.store.now, t) place of_ (view (names_in g) c.one-item.result) val (text_of val)
    (c.operand_of.ensures c.args.store.now val stays (λ g t. rw (c.in-Read.is, view-Read, c.in-Field.is)
    (rw c.get.ensures at (field_there g (c.args.store.now, t) c.in-Field.field-0
    (view (names_in g) c.get.result.now) h.val c.in-Ok.number val (h.there g t) (h.is ∙ ap (λ z. Ok
    (number.Whole z)) is.0) is.1 at))) g t)
    (limited_ok (text_of val) fits))
