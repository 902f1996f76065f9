use Rattle.std.proofs.Common.{◌-◌, length, None, ap, ◌∙◌, subst, length-set}
use Rattle.awk_lib.specs.Kept.{Lies}
use Rattle.awk_lib.proofs.Keeping.{apart_from, dense_gone, mapped_gone, mapped_gone_apart}
use Rattle.awk_lib.proofs.elements.Elements.remove.Goals as goal

pub returns-in-Dense-clause-gone : goal.returns-in-Dense-clause-gone
returns-in-Dense-clause-gone g c =
    let es = c.args.self.now in
    λ r lies. (dense_gone es c.in-Dense.k r c.remove.new.self.places.items (subst (λ p. Lies es p r) c.in-Dense.is lies)
    c.remove.ensures).0

pub returns-in-Dense-clause-rising : goal.returns-in-Dense-clause-rising
returns-in-Dense-clause-rising g c =
    let h = rw c.in-Dense.is at c.requires.there in
    (dense_gone c.args.self.now c.in-Dense.k h.0 c.remove.new.self.places.items h.1 c.remove.ensures).1

pub returns-in-Dense-clause-apart : goal.returns-in-Dense-clause-apart
returns-in-Dense-clause-apart g c =
    let es = c.args.self.now in
    let ps = es.dense.places.items in
    apart_from (record es { dense = c.remove.new.self; count = es.count - 1 }) (length ps) (ap length c.remove.ensures
    ∙ length-set ps c.in-Dense.k None) c.requires.apart.few c.requires.apart.outside

pub remove_mapped-requires : goal.remove_mapped-requires
remove_mapped-requires g c = let h = rw c.in-Mapped.is at c.requires.there in (h.0.1.0, _, h.1)

pub returns-in-Mapped-clause-gone : goal.returns-in-Mapped-clause-gone
returns-in-Mapped-clause-gone g c =
    let es = c.args.self.now in
    λ r lies. (mapped_gone es c.remove_mapped.new.self c.in-Mapped.i r (subst (λ p. Lies es p r) c.in-Mapped.is lies)
    c.remove_mapped.ensures.others.0 c.remove_mapped.ensures.rows).0

pub returns-in-Mapped-clause-rising : goal.returns-in-Mapped-clause-rising
returns-in-Mapped-clause-rising g c =
    let h = rw c.in-Mapped.is at c.requires.there in
    (mapped_gone c.args.self.now c.remove_mapped.new.self c.in-Mapped.i h.0 h.1 c.remove_mapped.ensures.others.0
    c.remove_mapped.ensures.rows).1

pub returns-in-Mapped-clause-apart : goal.returns-in-Mapped-clause-apart
returns-in-Mapped-clause-apart g c =
    let h = rw c.in-Mapped.is at c.requires.there in
    mapped_gone_apart c.args.self.now c.remove_mapped.new.self c.in-Mapped.i h.0 h.1 c.remove_mapped.ensures.others.0
    c.remove_mapped.ensures.rows c.requires.apart
