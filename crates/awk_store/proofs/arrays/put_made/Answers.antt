use Rattle.std.specs.Prelude.{[], ◌∷◌, refl, slice_set}
use Rattle.std.proofs.Common.{◌∙◌, ap}
use Rattle.awk_store.proofs.Cells.{found_here, found_nowhere, set_nowhere, ok_so, err_so, set_here}
use Rattle.awk_store.proofs.arrays.put_made.Goals as goal

pub returns-in-Some-clause-ok : goal.returns-in-Some-clause-ok
returns-in-Some-clause-ok c =
    rw (found_here c.args.made.now.items c.args.place c.in-Some.array.now c.in-Some.ensures.item.3.0
    c.in-Some.ensures.value) (
    ok_so c.set.result c.set.ensures.ok (λ h. (c.set.new.self, h, refl)))

pub returns-in-Some-clause-err : goal.returns-in-Some-clause-err
returns-in-Some-clause-err c =
    rw (found_here c.args.made.now.items c.args.place c.in-Some.array.now c.in-Some.ensures.item.3.0
    c.in-Some.ensures.value) (
    err_so c.set.result c.set.ensures.err (λ e h. (
      ap (slice_set c.args.made.now.items c.args.place) h.0
          ∙ set_here c.args.made.now.items c.args.place c.in-Some.array.now c.in-Some.ensures.value,
      h.1,
    )))

pub returns-in-None-clause-ok : goal.returns-in-None-clause-ok
returns-in-None-clause-ok c =
    let past = c.in-None.ensures.item.3 in
    rw (found_nowhere c.args.made.now.items c.args.place past) (
      (c.args.key.now, c.args.value) ∷ [],
      refl,
      set_nowhere c.args.made.now.items c.args.place ((c.args.key.now, c.args.value) ∷ []) past,
    )
