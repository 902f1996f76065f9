use Rattle.std.proofs.Common.{refl, arith}
use Rattle.box_listing.specs.declared.site.Sort.TheVariants.{Begin}
use Rattle.box_listing.proofs.Walking.{in_turn, after_turns}
use Rattle.box_listing.proofs.program.in_turn.Goals as goal

pub loop-sort-init : goal.loop-sort-init
loop-sort-init c = λ t. refl

pub loop-sort-preserved : goal.loop-sort-preserved
loop-sort-preserved c =
    in_turn c.args.program.now c.args.order.now c.loop-sort.sort-index Begin
    (record { begin = 0; rules = 0; end = 0; functions = 0 }) c.loop-sort.at c.in_ok-at.at _ _ _
    (omega arith) c.in_ok-at.ensures c.loop-sort.invariant

pub returns : goal.returns
returns c =
    after_turns _ c.args.program.now c.args.order.now c.loop-sort.sort-index
    (record { begin = 0; rules = 0; end = 0; functions = 0 }) c.loop-sort.at _ _ _
    (omega arith) c.loop-sort.invariant
    c.rest.ensures
