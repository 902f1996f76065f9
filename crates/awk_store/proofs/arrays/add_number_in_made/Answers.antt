use Rattle.std.proofs.lemmas.Int.{to_z-of_z}
use Rattle.std.specs.Prelude.{slice_set}
use Rattle.std.proofs.Common.{◌∙◌, ap, rules, w64}
use Rattle.awk_store.proofs.Cells.{found_here, set_here}
use Rattle.awk_store.proofs.arrays.add_number_in_made.Goals as goal

pub returns-in-Some-clause-done : goal.returns-in-Some-clause-done
returns-in-Some-clause-done c =
    rw (found_here c.args.made.now.items c.args.place c.in-Some.elements.now c.in-Some.ensures.item.3.0
    c.in-Some.ensures.value) (λ t.
    let h = rw (to_z-of_z w64 c.args.by (search rules)) at (c.add_in_number.ensures.done t) in
    (h.0, h.1, h.2, h.3, (h.4.0, h.4.1, ap (slice_set c.args.made.now.items c.args.place) h.4.2)))

pub returns-in-Some-clause-not_done : goal.returns-in-Some-clause-not_done
returns-in-Some-clause-not_done c =
    λ f. ap (slice_set c.args.made.now.items c.args.place) (c.add_in_number.ensures.not_done f)
    ∙ set_here c.args.made.now.items c.args.place c.in-Some.elements.now c.in-Some.ensures.value
