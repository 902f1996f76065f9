use Rattle.std.proofs.Common.{arith, false, subst}
use Rattle.std.proofs.lemmas.Bool.Decides.{nat_tests}
use Rattle.awk_ere.specs.Table.{IsLed}
use Rattle.awk_ere.proofs.Gathering.{cell_by, no_items, none_led}
use Rattle.awk_ere.proofs.closure.steps_after.Goals as goal

pub returns-then-is_empty : goal.returns-then-is_empty
returns-then-is_empty c =
    cell_by _ _ _ _ c.find_targets.new.found.items _ c.requires c.in_ok-find_targets.ensures
    (none_led c.args.program.now c.find_targets.new.found.items
    (no_items _ (grind (arith, nat_tests, c.is_empty.ensures, c.if-is_empty.true, c.find_targets.new.found.ok))))

pub returns : goal.returns
returns c =
    cell_by _ _ _ _ c.find_targets.new.found.items c.in_ok-steps.steps.items c.requires c.in_ok-find_targets.ensures
    (subst (λ x. IsLed c.args.program.now false false x c.in_ok-steps.steps.items) c.deref.ensures.value
    c.in_ok-steps.ensures)
