use Rattle.std.proofs.Common.{is_some, true≢false, sym, ap, ◌∙◌, subst}
use Rattle.std.proofs.lemmas.Option.{same_Some}
use Rattle.awk_lib.specs.Kept.{Lies}
use Rattle.awk_lib.proofs.Keeping.{mapped_value, mapped_within}
use Rattle.awk_lib.proofs.elements.Elements.value.Goals as goal

pub value-requires : goal.value-requires
value-requires g c = let h = rw c.in-Dense.is at c.requires in (record { number = h.0.0; value = h.0.1.1 }, h.1.1)

pub index-requires : goal.index-requires
index-requires g c = let h = rw c.in-Mapped.is at c.requires in mapped_within c.args.self.now c.in-Mapped.i h.0 h.1

pub unreachable-requires : goal.unreachable-requires
unreachable-requires g c =
    let h = rw c.in-Mapped.is at c.requires in
    let there = mapped_value c.args.self.now c.in-Mapped.i c.index.result.now h.0 h.1 c.index.ensures in
    absurd (true≢false (sym (ap is_some there) ∙ ap is_some c.in-None.is))

pub returns-in-Some : goal.returns-in-Some
returns-in-Some g c =
    let es = c.args.self.now in
    λ r lies.
    let there = mapped_value es c.in-Mapped.i c.index.result.now r (subst (λ p. Lies es p r) c.in-Mapped.is lies)
    c.index.ensures in
    ap (λ x. x.value) (same_Some c.in-Some.element _ (sym c.in-Some.is ∙ there))
