use Rattle.std.proofs.Common.{◌≡◌, Some, is_some, true≢false, refl, sym, ap, ◌∙◌, subst}
use Rattle.std.proofs.lemmas.Option.{same_Some}
use Rattle.indexmap.specs.IndexMap.{with_value_at}
use Rattle.awk_lib.specs.Dense.{number_in}
use Rattle.awk_lib.specs.Kept.{Lies}
use Rattle.awk_lib.specs.Lends.{with_value}
use Rattle.awk_lib.specs.Numbering.{number_at}
use Rattle.awk_lib.proofs.Keeping.{mapped_value, mapped_within}
use Rattle.awk_lib.proofs.elements.Elements.value_mut.Goals as goal

pub value_mut-requires : goal.value_mut-requires
value_mut-requires g c = let h = rw c.in-Dense.is at c.requires in (record { number = h.0.0; value = h.0.1.1 }, h.1.1)

pub index_mut-place-requires : goal.index_mut-place-requires
index_mut-place-requires g c =
    let h = rw c.in-Mapped.is at c.requires in mapped_within c.args.self.now c.in-Mapped.i h.0 h.1

pub unreachable-requires : goal.unreachable-requires
unreachable-requires g c =
    let h = rw c.in-Mapped.is at c.requires in
    let there = mapped_value c.args.self.now c.in-Mapped.i c.index_mut-place.result.now h.0 h.1
    c.index_mut-place.ensures.value in
    absurd (true≢false (sym (ap is_some there) ∙ ap is_some (sym c.in-None.ensures.value)))

pub returns-in-Dense : goal.returns-in-Dense
returns-in-Dense g c =
    let es = c.args.self.now in (
      (refl, λ w. ap (λ p. with_value es p w) (sym c.in-Dense.is)),
      record {
        writes_back = tt;
        value = λ r lies. let h = subst (λ p. Lies es p r) c.in-Dense.is lies in
            c.value_mut.ensures.value (record { number = r.0; value = r.1.1 }) h.1;
      },
    )

pub returns-in-Some : goal.returns-in-Some
returns-in-Some g c =
    let es = c.args.self.now in
    let i = c.in-Mapped.i in
    let element = c.in-Some.element.now in
    let back = c.in-Some.ensures.value in
    let number : element.number ≡ number_at es.map.entries i =
    sym (ap number_in (c.index_mut-place.ensures.value ∙ ap Some (sym back))) in (
      (
        refl,
        λ w. (λ j. record es { map = with_value_at es.map i (Some (record { number = number j; value = w })) })
            ∙ ap (λ p. with_value es p w) (sym c.in-Mapped.is),
      ),
      record {
        writes_back = tt;
        value = λ r lies. ap (λ x. x.value)
            (same_Some element _ (back ∙ mapped_value es i c.index_mut-place.result.now r
            (subst (λ p. Lies es p r) c.in-Mapped.is lies) c.index_mut-place.ensures.value));
      },
    )
