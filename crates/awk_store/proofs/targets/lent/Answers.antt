use Rattle.std.proofs.Common.{refl, sym, ◌∙◌}
use Rattle.std.proofs.lemmas.Option.{IfSome_then}
use Rattle.awk_text.specs.declared.value.Value.TheVariants as v
use Rattle.awk_store.proofs.Lent.{lends_variable, lends_element, lends_whole}
use Rattle.awk_store.proofs.targets.lent.Goals as goal

pub returns-in_ok-value-in-Variable : goal.returns-in_ok-value-in-Variable
returns-in_ok-value-in-Variable c = IfSome_then c.usual_text.result c.usual_text.ensures
    (λ text h g t. (
      c.in_ok-value-in-Variable.field-0.now,
      h.1,
      sym h.0,
      rw (c.in-Variable.is, c.in_ok-value-in-Variable.ensures)
          (lends_variable g (c.args.store.now, t) c.in-Variable.variable (sym c.is_nf.ensures ∙ c.if-is_nf.false)),
    ))

pub returns-in_ok-element-in-Element : goal.returns-in_ok-element-in-Element
returns-in_ok-element-in-Element c = IfSome_then c.usual_text-in-Element.result c.usual_text-in-Element.ensures
    (λ text h g t. (
      c.in_ok-element-in-Element.field-0.now,
      h.1,
      sym h.0,
      rw c.in-Element.is (lends_element g (c.args.store.now, t) c.in-Element.field-0 c.in-Element.array c.in-Element.key
          c.in_ok-element-in-Element.field-0.now (sym (rw c.text.ensures at c.in_ok-element-in-Element.ensures))),
    ))

pub returns-then-number-eq0 : goal.returns-then-number-eq0
returns-then-number-eq0 c = IfSome_then c.known_whole.result c.known_whole.ensures
    (λ text is g t. (
      v.Input c.args.store.now.row.whole,
      refl,
      sym is,
      rw (c.in-Field.is, c.if-number-eq0.true)
          (lends_whole g (c.args.store.now, t)),
    ))
