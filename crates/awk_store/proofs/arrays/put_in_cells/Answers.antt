use Rattle.std.specs.Prelude.{[], ◌∷◌, refl, slice_set}
use Rattle.std.proofs.Common.{◌∙◌, ap}
use Rattle.awk_store.specs.Changes.{given_array}
use Rattle.awk_store.proofs.Cells.{change_here, change_nowhere, found_here, found_nowhere, ok_so, err_so, set_here}
use Rattle.awk_store.proofs.arrays.put_in_cells.Goals as goal

pub returns-in-Some-clause-ok : goal.returns-in-Some-clause-ok
returns-in-Some-clause-ok c =
    let cells = c.args.cells.now.items in let cell = c.in-Some.cell.now in
    rw (found_here cells c.args.slot cell c.in-Some.ensures.item.3.0 c.in-Some.ensures.value) (
    ok_so c.put.result c.put.ensures.ok
    (λ h. (
      h.0,
      h.1,
      change_here (given_array h.0) cells c.args.slot cell c.put.new.self c.in-Some.ensures.value
          h.2,
    )))

pub returns-in-Some-clause-err : goal.returns-in-Some-clause-err
returns-in-Some-clause-err c =
    let cells = c.args.cells.now.items in let cell = c.in-Some.cell.now in
    rw (found_here cells c.args.slot cell c.in-Some.ensures.item.3.0 c.in-Some.ensures.value) (
    err_so c.put.result c.put.ensures.err
    (λ e h. (ap (slice_set cells c.args.slot) h.0 ∙ set_here cells c.args.slot cell c.in-Some.ensures.value, h.1)))

pub returns-in-None-clause-ok : goal.returns-in-None-clause-ok
returns-in-None-clause-ok c =
    let past = c.in-None.ensures.item.3 in
    rw (found_nowhere c.args.cells.now.items c.args.slot past) (
      (c.args.key.now, c.args.value) ∷ [],
      refl,
      change_nowhere (given_array ((c.args.key.now, c.args.value) ∷ [])) c.args.cells.now.items c.args.slot past,
    )
