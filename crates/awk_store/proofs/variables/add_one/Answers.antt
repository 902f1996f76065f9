use Rattle.std.specs.Prelude.{slice_set, unwrap_or}
use Rattle.std.proofs.Common.{◌∙◌, ap}
use Rattle.awk_text.specs.declared.value.Value.TheVariants as v
use Rattle.awk_store.specs.Changes.{given_value}
use Rattle.awk_store.specs.Kept.{scalar}
use Rattle.awk_store.proofs.Cells.{change_here, found_here, set_here}
use Rattle.awk_store.proofs.variables.add_one.Goals as goal

pub returns-in-Some-clause-done : goal.returns-in-Some-clause-done
returns-in-Some-clause-done c = λ t.
    let cells = c.args.cells.now.items in
    let cell = c.in-Some.cell.now in
    let h = c.add_one.ensures.done t in
    let there = found_here cells c.args.slot cell c.in-Some.ensures.item.3.0 c.in-Some.ensures.value in (
      h.0,
      h.1,
      ap (λ x. unwrap_or (scalar x) v.Unset) there ∙ ap (λ x. unwrap_or x v.Unset) h.2,
      h.3,
      change_here (given_value (v.Num h.1)) cells c.args.slot cell c.add_one.new.self c.in-Some.ensures.value h.4,
    )

pub returns-in-Some-clause-not_done : goal.returns-in-Some-clause-not_done
returns-in-Some-clause-not_done c =
    let cells = c.args.cells.now.items in
    λ f. ap (slice_set cells c.args.slot) (c.add_one.ensures.not_done f) ∙ set_here cells c.args.slot c.in-Some.cell.now
    c.in-Some.ensures.value
