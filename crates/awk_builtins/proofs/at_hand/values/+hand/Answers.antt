use Rattle.std.proofs.Common.{◌≡◌, refl, sym, ap, ◌∙◌, rules, arith, map, w64}
use Rattle.std.specs.Prelude.{None, Ok, Some}
use Rattle.std.proofs.lemmas.Int.{to_z-of_z}
use Rattle.awk_text.specs.Lents.{lent_value}
use Rattle.awk_text.specs.declared.place.Place.{Place}
use Rattle.awk_numbers.specs.declared.number.Number.TheVariants as number
use Rattle.awk_program.specs.Program as p
use Rattle.awk_program.specs.Program.{expressions_of, terms_of}
use Rattle.awk_program.specs.declared.builtins.Builtin.TheVariants as b
use Rattle.awk_program.specs.View.{variable_of, view, view_target, view_term}
use Rattle.awk_program.proofs.Views.{view-AsText, view-Builtin, view-Chain, view-Number, view-Read, view-Text}
use Rattle.awk_lib.specs.Texts.{substr}
use Rattle.awk_fields.specs.Rows.{IsValueAt}
use Rattle.awk_store.specs.Kept.{by_convfmt}
use Rattle.awk_store.specs.Wholes.{names_in}
use Rattle.awk_text.specs.Values.{number_of, text_of}
use Rattle.awk_text.specs.declared.value.Value.TheVariants as v
use Rattle.awk_builtins.specs.AtHand.{HasNumber, IsThere}
use Rattle.awk_builtins.proofs.AtHand.{chain_first, element_there, field_number_is, field_there, number_there, terms_at}
use Rattle.awk_builtins.proofs.AtHand.{terms_done, text_there}
use Rattle.awk_builtins.proofs.Convfmt.{as_text_there}
use Rattle.awk_builtins.proofs.MadeThere.{one_there, part_there, rest_there, two_there, whole_there}
use Rattle.awk_builtins.proofs.Rests.{just_one, just_two, just_three, some_done, some_for}
use Rattle.awk_builtins.proofs.at_hand.values.+hand.Goals as goal

pub at_hand-returns-in-Number : goal.at_hand-returns-in-Number
at_hand-returns-in-Number t c = λ g u. rw (c.in-Number.is, view-Number, c.lent_number.ensures)
    (number_there g _ c.in-Number.constant)

pub at_hand-returns-in-Text : goal.at_hand-returns-in-Text
at_hand-returns-in-Text t c = λ g u. rw (c.in-Text.is, view-Text, c.bytes.ensures) (text_there g _ _)

pub at_hand-returns-in-Read : goal.at_hand-returns-in-Read
at_hand-returns-in-Read t c =
    some_for {P = λ x. IsThere (λ names. p.read (view_target names c.in-Read.target)) c.args.store.now (lent_value x)}
    c.target_at_hand.result (λ x h g u. rw (c.in-Read.is, view-Read) (h g u)) c.target_at_hand.ensures

pub at_hand-returns : goal.at_hand-returns
at_hand-returns t c = λ g u.
    rw (c.in-Chain.is, view-Chain, to_z-of_z w64 c.in_ok-number.number (search rules))
    (rw (c.get.ensures, c.as_slice.ensures) at (c.in_ok-number.ensures g u))

pub element_at_hand-returns : goal.element_at_hand-returns
element_at_hand-returns t c = λ g u.
    let h = c.in_ok-unless_shown.ensures in
    let sub = lent_value c.in_ok-subscript.subscript in
    rw (
      just_one c.args.keys.now c.one-item.result c.in-len1.len_at_least c.in-len1.len_below c.one-item.is,
      c.of.ensures,
    )
    (element_there g (c.args.store.now, u) c.args.place c.args.array (view (names_in g) c.one-item.result) sub _
    c.in_ok-value.value.now (c.operand_of.ensures c.args.store.now sub h.1 c.in_ok-subscript.ensures g u)
    (ap text_of (sym h.0)) c.in_ok-value.ensures.fits c.in_ok-value.ensures.there)

pub field_at_hand-returns : goal.field_at_hand-returns
field_at_hand-returns t c =
    let h = c.in_ok-number.ensures in
    let e = rw (to_z-of_z w64 c.in_ok-number.number (search rules)) at c.in-Ok.ensures in
    let is = field_number_is c.in_ok-number.number c.in-Ok.number e.0 e.1 in
    some_for {P = λ x. IsValueAt c.args.store.now.row c.in-Ok.number (lent_value x)} c.lent_field.result
    (λ x at g u. field_there g (c.args.store.now, u) c.args.place (view (names_in g) c.args.number.now) h.val
    c.in-Ok.number (lent_value x) (h.there g u) (h.is ∙ ap (λ z. Ok
    (number.Whole z)) is.0) is.1 at) c.lent_field.ensures

pub number_at_hand-returns-in-Some : goal.number_at_hand-returns-in-Some
number_at_hand-returns-in-Some t c =
    rw (to_z-of_z w64 c.in-Some.number (search rules)) (record {
      val = v.Num c.in-Some.number;
      is = refl;
      there =
          λ g u. rw (c.in-Read.is, view-Read) (c.in-Some.ensures g u);
    })

pub number_at_hand-returns-in-Number : goal.number_at_hand-returns-in-Number
number_at_hand-returns-in-Number t c =
    some_for {P = λ n. c.in-Number.constant ≡ number.Whole n} c.as_whole.result
    (λ n is. record {
      val = v.Num n;
      is = refl;
      there = λ g u. rw (c.in-Number.is, view-Number, is) (number_there g _ (number.Whole n));
    }) c.as_whole.ensures

pub number_of_target-returns-in-Some : goal.number_of_target-returns-in-Some
number_of_target-returns-in-Some t c =
    let h = c.in-Some.ensures in
    rw (to_z-of_z w64 c.in-Some.number (search rules)) (record { val = h.val; is = h.is; there = h.there })

pub number_of_target-returns : goal.number_of_target-returns
number_of_target-returns t c =
    some_for {P = λ n. number_of c.args.store.now.numbers (lent_value c.in_ok-value.value) ≡ Ok (number.Whole n)}
    c.whole_number.result
    (λ n is. record { val = lent_value c.in_ok-value.value; is = is; there = c.in_ok-value.ensures })
    (rw c.numbers.ensures at c.whole_number.ensures)

pub number_at_hand-returns-in-Read : goal.number_at_hand-returns-in-Read
number_at_hand-returns-in-Read t c =
    some_for {P = λ n. HasNumber (λ names. p.read (view_target names c.in-Read.target)) c.args.store.now n}
    c.number_of_target.result
    (λ n h. record { val = h.val; is = h.is; there = λ g u. rw (c.in-Read.is, view-Read) (h.there g u) })
    c.number_of_target.ensures

pub number_at_hand-returns-in-Chain : goal.number_at_hand-returns-in-Chain
number_at_hand-returns-in-Chain t c =
    some_for {P = λ n. IsThere (λ names. p.chain (view names c.get.result.now)
    (terms_of (map (view_term names) c.as_slice.result.now))) c.args.store.now (v.Num n)} c.chain_at_hand.result
    (λ n h. record {
      val = v.Num n;
      is = refl;
      there = λ g u. rw (c.in-Chain.is, view-Chain)
          (rw (c.get.ensures, c.as_slice.ensures) at (h g u));
    }) c.chain_at_hand.ensures

pub number_made-returns : goal.number_made-returns
number_made-returns t c =
    some_for {P = λ n. number_of c.args.store.now.numbers (lent_value c.in_ok-value.value) ≡ Ok (number.Whole n)}
    c.whole_number.result
    (λ n is. record { val = lent_value c.in_ok-value.value; is = is; there = c.in_ok-value.ensures })
    (rw c.numbers.ensures at c.whole_number.ensures)

pub target_at_hand-returns-in-Variable : goal.target_at_hand-returns-in-Variable
target_at_hand-returns-in-Variable t c =
    some_for {P = λ x. IsThere (λ names. p.read (p.variable (variable_of names c.in-Variable.variable)))
    c.args.store.now (lent_value x)} c.variable_at_hand.result (λ x h g u. rw c.in-Variable.is (h g u))
    c.variable_at_hand.ensures

pub target_at_hand-returns-else-level-eq0 : goal.target_at_hand-returns-else-level-eq0
target_at_hand-returns-else-level-eq0 t c =
    some_for {P = λ x. IsThere (λ names. p.read (p.element c.in-Element.place (variable_of names c.in-Element.array)
    (expressions_of (map (view names) c.as_slice.result.now)))) c.args.store.now (lent_value x)}
    c.element_at_hand.result
    (λ x h g u. rw c.in-Element.is (rw c.as_slice.ensures at (h g u))) c.element_at_hand.ensures

pub target_at_hand-returns-else-level-eq0-2 : goal.target_at_hand-returns-else-level-eq0-2
target_at_hand-returns-else-level-eq0-2 t c =
    some_for {P = λ x. IsThere (λ names. p.read (p.field c.in-Field.place (view names c.get.result.now)))
    c.args.store.now (lent_value x)} c.field_at_hand.result
    (λ x h g u. rw c.in-Field.is (rw c.get.ensures at (h g u))) c.field_at_hand.ensures

pub chain_at_hand-loop-next-init : goal.chain_at_hand-loop-next-init
chain_at_hand-loop-next-init t c =
    let h = c.in_ok-so_far.ensures in
    rw (to_z-of_z w64 c.in_ok-so_far.so_far (search rules)) (record {
      val = h.val;
      number = h.is;
      exact = λ some. absurd (omega (arith, some));
      along = λ g u. chain_first g (c.args.store.now, u) (view (names_in g) c.args.x.now)
          (terms_of (map (view_term (names_in g)) c.args.xs.now)) h.val (h.there g u);
    })

pub chain_at_hand-loop-next-preserved : goal.chain_at_hand-loop-next-preserved
chain_at_hand-loop-next-preserved t c =
    let l = rw c.loop-next.so_far-is at c.loop-next.invariant in
    let h = c.in_ok-operand.ensures in
    rw (to_z-of_z w64 c.in-Ok-Whole.made (search rules)) (record {
      val = v.Num c.in-Ok-Whole.made;
      number = refl;
      exact = λ some. refl;
      along = λ g u. terms_at g (c.args.store.now, u) c.args.xs.now c.loop-next.next-index c.next-item.result l.val
          h.val c.loop-next.so_far c.in_ok-operand.operand c.in-Ok-Whole.made
          c.loop-next-test.true c.next-item.is l.number h.is
          (rw (
            c.loop-next.so_far-is,
            to_z-of_z w64 c.in_ok-operand.operand (search rules),
            c.numbers-numbers.ensures,
            c.in-Ok-Whole.field-0-is,
          ) at
          (sym c.operation.ensures ∙ c.in-Ok-Whole.is)) (h.there g u) (l.along g u);
    })

pub chain_at_hand-returns : goal.chain_at_hand-returns
chain_at_hand-returns t c = λ g u.
    let l = c.loop-next.invariant in
    rw (sym (l.exact (some_done c.args.xs.now c.loop-next.next-index c.loop-next-test.false c.if-is_empty.ensures)))
    (terms_done g (c.args.store.now, u) c.args.xs.now c.loop-next.next-index l.val c.loop-next-test.false
    (l.along g u))

pub substr_at_hand-returns-in_ok-from-in-len2 : goal.substr_at_hand-returns-in_ok-from-in-len2
substr_at_hand-returns-in_ok-from-in-len2 t c =
    let h = c.in_ok-from-in-len2.ensures in
    let text = lent_value c.in_ok-text-in-len2.text in
    rw (just_two c.args.args.now c.x-item.result c.y-item.result c.in-len2.len_at_least c.in-len2.len_below c.x-item.is
    c.y-item.is)
    (some_for {P = λ new. lent_value new ≡ v.Text (substr (text_of text) c.in_ok-from-in-len2.from None)}
    c.part_of.result
    (λ new is q g u. rw is (rest_there g (c.args.store.now, u) q (view (names_in g) c.x-item.result)
    (view (names_in g) c.y-item.result) text h.val c.in_ok-from-in-len2.from
    (c.in_ok-text-in-len2.ensures g u) (h.there g u) h.is)) (rw (to_z-of_z w64 c.in_ok-from-in-len2.from (search rules))
    at c.part_of.ensures))

pub substr_at_hand-returns-in_ok-count-in-len3 : goal.substr_at_hand-returns-in_ok-count-in-len3
substr_at_hand-returns-in_ok-count-in-len3 t c =
    let h = c.in_ok-from-in-len3.ensures in
    let n = c.in_ok-count-in-len3.ensures in
    let text = lent_value c.in_ok-text-in-len3.text in
    rw (just_three c.args.args.now c.x-item-then-args-lt4.result c.y-item-then-args-lt4.result c.z-item.result
    c.in-len3.len_at_least c.in-len3.len_below c.x-item-then-args-lt4.is c.y-item-then-args-lt4.is c.z-item.is)
    (some_for {P = λ new. lent_value new ≡ v.Text (substr (text_of text) c.in_ok-from-in-len3.from
    (Some c.in_ok-count-in-len3.count))} c.part_of-in-len3.result
    (λ new is q g u. rw is (part_there g (c.args.store.now, u) q (view (names_in g) c.x-item-then-args-lt4.result)
    (view (names_in g) c.y-item-then-args-lt4.result) (view (names_in g) c.z-item.result) text h.val n.val
    c.in_ok-from-in-len3.from c.in_ok-count-in-len3.count (c.in_ok-text-in-len3.ensures g u) (h.there g u)
    (n.there g u) h.is n.is)) (rw (
      to_z-of_z w64 c.in_ok-from-in-len3.from (search rules),
      to_z-of_z w64 c.in_ok-count-in-len3.count (search rules),
    ) at c.part_of-in-len3.ensures))

pub called_at_hand-returns-in_ok-text-in-Length : goal.called_at_hand-returns-in_ok-text-in-Length
called_at_hand-returns-in_ok-text-in-Length t c = λ q g u.
    rw (
      c.in-Length.is,
      just_one c.args.args.now c.x-item.result c.in-len1.len_at_least c.in-len1.len_below c.x-item.is,
      to_z-of_z w64 c.text_length.result (search rules),
      c.text_length.ensures,
    )
    (one_there g (c.args.store.now, u) q b.Length (view (names_in g) c.x-item.result)
    (lent_value c.in_ok-text-in-Length.text) _ (c.in_ok-text-in-Length.ensures g u) (λ s same. refl))

pub called_at_hand-returns-in_ok-part-in-Index : goal.called_at_hand-returns-in_ok-part-in-Index
called_at_hand-returns-in_ok-part-in-Index t c = λ q g u.
    rw (
      c.in-Index.is,
      just_two c.args.args.now c.x-item-then-args-lt3.result c.y-item.result c.in-len2.len_at_least
          c.in-len2.len_below c.x-item-then-args-lt3.is c.y-item.is,
      to_z-of_z w64 c.index_of.result (search rules),
      c.index_of.ensures,
    )
    (two_there g (c.args.store.now, u) q b.Index (view (names_in g) c.x-item-then-args-lt3.result)
    (view (names_in g) c.y-item.result) (lent_value c.in_ok-text-in-Index.text)
    (lent_value c.in_ok-part-in-Index.part) _ (c.in_ok-text-in-Index.ensures g u)
    (c.in_ok-part-in-Index.ensures g u) (λ s same. refl))

pub called_at_hand-returns-in_ok-number-in-Int : goal.called_at_hand-returns-in_ok-number-in-Int
called_at_hand-returns-in_ok-number-in-Int t c = λ q g u.
    let h = c.in_ok-number-in-Int.ensures in
    rw (
      c.in-Int.is,
      just_one c.args.args.now c.x-item-then-args-lt2-3.result c.in-len1-args.len_at_least
          c.in-len1-args.len_below c.x-item-then-args-lt2-3.is,
      to_z-of_z w64 c.in_ok-number-in-Int.number (search rules),
    )
    (whole_there g (c.args.store.now, u) q (view (names_in g) c.x-item-then-args-lt2-3.result) h.val
    c.in_ok-number-in-Int.number (h.there g u) h.is)

pub called_at_hand-returns-in-Substr : goal.called_at_hand-returns-in-Substr
called_at_hand-returns-in-Substr t c = rw c.in-Substr.is c.substr_at_hand.ensures

pub made_at_hand-returns-in-Builtin : goal.made_at_hand-returns-in-Builtin
made_at_hand-returns-in-Builtin t c =
    some_for {P = λ x. (q : Place)
    → IsThere (λ names. p.builtin q c.in-Builtin.which (expressions_of (map (view names) c.as_slice.result.now)))
    c.args.store.now (lent_value x)} c.called_at_hand.result
    (λ x h g u. rw (c.in-Builtin.is, view-Builtin) (rw c.as_slice.ensures at (h c.in-Builtin.field-0 g u)))
    c.called_at_hand.ensures

pub made_at_hand-returns-in_ok-value-in-AsText : goal.made_at_hand-returns-in_ok-value-in-AsText
made_at_hand-returns-in_ok-value-in-AsText t c =
    let val = lent_value c.in_ok-value-in-AsText.value in
    some_for {P = λ it. (lent_value it ≡ val) × (by_convfmt c.args.store.now val ≡ Ok val)} c.unless_shown.result
    (λ it h g u. rw (c.in-AsText.is, view-AsText, h.0) (rw c.get.ensures at
    (as_text_there g (c.args.store.now, u) c.in-AsText.field-0 (view (names_in g) c.get.result.now) val val
    (c.in_ok-value-in-AsText.ensures g u) h.1))) c.unless_shown.ensures

pub made_at_hand-returns-in_ok-count-in-Count : goal.made_at_hand-returns-in_ok-count-in-Count
made_at_hand-returns-in_ok-count-in-Count t c = λ g u. rw (to_z-of_z w64 c.in_ok-count-in-Count.count (search rules))
    (c.in_ok-count-in-Count.ensures g u)
