use Rattle.std.proofs.Common.{◌≡◌, sym, ap, ◌∙◌, [], ◌∷◌}
use Rattle.std.specs.Prelude.{Ok}
use Rattle.std.specs.Result.{result_ok}
use Rattle.awk_format.specs.Formatted.{within}
use Rattle.awk_text.specs.Lents.{lent_value}
use Rattle.awk_lib.specs.Written.{written}
use Rattle.awk_machine.specs.Operators.{limited}
use Rattle.awk_program.specs.declared.variables.Own.TheVariants as own
use Rattle.awk_program.proofs.Views.{view-Concat}
use Rattle.awk_store.specs.Kept.{own_text}
use Rattle.awk_text.specs.Values.{text_of}
use Rattle.awk_builtins.proofs.Lines.{joined_one, within_held}
use Rattle.awk_builtins.proofs.AtHand.{line_told}
use Rattle.awk_builtins.proofs.Grown.{limited_fits}
use Rattle.awk_builtins.proofs.Rests.{just_one, ok_some, some_for}
use Rattle.awk_builtins.proofs.at_hand.elements.key_at_hand.Goals as goal

pub returns-in-Concat : goal.returns-in-Concat
returns-in-Concat c =
    let made = c.join_operands.ensures c.if-not-join_operands.false in
    rw c.ok.ensures.value (some_for {P = λ found. limited (text_of made.val) ≡ Ok found.now} (result_ok c.text.result)
    (λ found is. rw (just_one c.args.keys.now c.one-item.result c.in-len1.len_at_least c.in-len1.len_below
    c.one-item.is) (record {
      vals = made.val ∷ [];
      there = (
        λ g t. rw (c.in-Concat.is, view-Concat) (rw (c.get.ensures, c.as_slice.ensures) at
            (made.there (limited_fits (text_of made.val) found.now is) g t)),
        tt {0},
      );
      is = ap limited (joined_one (own_text c.args.store.now own.Subsep) made.val) ∙ is;
    }))
    (ok_some {P = λ found. within c.join_operands.new.line ≡ Ok found.now} c.text.result
    (λ found told. sym (within_held (text_of made.val)) ∙ ap within (sym made.line_is) ∙ told) c.text.ensures.ok))

pub returns : goal.returns
returns c =
    let text = c.text-2.result.now in
    let line = c.in-Ok.ensures ∙ ap (λ l. written l text) c.clear.ensures in
    rw c.ok-2.ensures.value (some_for {P = λ found. limited text ≡ Ok found.now} (result_ok c.text-3.result)
    (λ found is. rw (just_one c.args.keys.now c.one-item.result c.in-len1.len_at_least c.in-len1.len_below
    c.one-item.is) (record {
      vals = lent_value c.in_ok-subscript.subscript ∷ [];
      there = (c.in_ok-subscript.ensures, tt {0});
      is = ap limited (joined_one (own_text c.args.store.now own.Subsep) (lent_value c.in_ok-subscript.subscript)
          ∙ sym c.text-2.ensures) ∙ is;
    }))
    (ok_some {P = λ found. within c.push.new.self ≡ Ok found.now} c.text-3.result
    (λ found told. line_told c.push.new.self text found.now line told) c.text-3.ensures.ok))
