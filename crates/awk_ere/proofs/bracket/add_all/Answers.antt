use Rattle.std.proofs.Common.{◌∷◌, [], take, get_or, sym, subst}
use Rattle.std.proofs.lemmas.List.{take_more}
use Rattle.awk_ere.specs.Lexing.{Adds}
use Rattle.awk_ere.proofs.Sets.{adds_more}
use Rattle.awk_ere.proofs.bracket.add_all.Goals as goal

pub loop-range-preserved : goal.loop-range-preserved
loop-range-preserved c =
    subst (λ xs. Adds c.args.set.now xs c.add.new.set)
    (sym (take_more c.args.ranges.now c.loop-range.range-index (0, 0) c.loop-range-test.true))
    (adds_more c.args.set.now c.loop-range.set c.add.new.set (take c.loop-range.range-index c.args.ranges.now)
    (get_or c.args.ranges.now c.loop-range.range-index (0, 0) ∷ []) c.loop-range.invariant c.add.ensures)
