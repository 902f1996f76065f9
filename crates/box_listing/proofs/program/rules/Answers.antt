use Rattle.std.proofs.Common.{refl, arith, map}
use Rattle.awk_program.specs.View.{view_rule}
use Rattle.box_listing.specs.Sites as spec
use Rattle.box_listing.proofs.Walking.{all_found, turn}
use Rattle.box_listing.proofs.program.rules.Goals as goal

pub loop-x-init : goal.loop-x-init
loop-x-init c = λ n. refl

pub loop-x-preserved : goal.loop-x-preserved
loop-x-preserved c = turn (λ n xs. spec.rules (map (view_rule n) xs)) _ _ _ _ c.args.xs.now c.loop-x.x-index
    c.x-item.result (omega arith) c.x-item.is (λ n ys. refl) c.in_ok-rule.ensures c.loop-x.invariant

pub returns : goal.returns
returns c = all_found (λ n xs. spec.rules (map (view_rule n) xs)) _ _ c.args.xs.now c.loop-x.x-index (omega arith)
    (λ n. refl) c.loop-x.invariant
