use Rattle.std.proofs.lemmas.Int.{to_z-of_z}
use Rattle.std.specs.Prelude.{slice_set}
use Rattle.std.proofs.Common.{◌∙◌, ap, rules, w64}
use Rattle.awk_store.specs.Changes.{given_array}
use Rattle.awk_store.proofs.Cells.{change_here, found_here, set_here}
use Rattle.awk_store.proofs.arrays.add_number_in_cells.Goals as goal

pub returns-in-Some-clause-done : goal.returns-in-Some-clause-done
returns-in-Some-clause-done c =
    let cells = c.args.cells.now.items in let cell = c.in-Some.cell.now in
    rw (found_here cells c.args.slot cell c.in-Some.ensures.item.3.0 c.in-Some.ensures.value) (λ t.
    let h = rw (to_z-of_z w64 c.args.by (search rules)) at (c.add_to_number.ensures.done t) in (
      h.0,
      h.1,
      h.2,
      h.3,
      (
        h.4.0,
        h.4.1,
        change_here (given_array h.4.0) cells c.args.slot cell c.add_to_number.new.self
            c.in-Some.ensures.value h.4.2,
      ),
    ))

pub returns-in-Some-clause-not_done : goal.returns-in-Some-clause-not_done
returns-in-Some-clause-not_done c =
    let cells = c.args.cells.now.items in
    λ f. ap (slice_set cells c.args.slot) (c.add_to_number.ensures.not_done f)
    ∙ set_here cells c.args.slot c.in-Some.cell.now c.in-Some.ensures.value
