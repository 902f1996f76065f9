use Rattle.std.proofs.Common.{arith}
use Rattle.std.proofs.lemmas.Option.{slice_get-get_or}
use Rattle.awk_ere.proofs.Ending.{raised_ends, settled_at}
use Rattle.awk_ere.proofs.ends.Backwards.raise.Goals as goal

pub returns-then-most-row-clause-settled : goal.returns-then-most-row-clause-settled
returns-then-most-row-clause-settled c = λ _.
    settled_at _ _ _ _ _ _ _ (slice_get-get_or c.args.self.now.program.now c.args.at _ c.if-at-self.false)
    c.if-most-row.true
    (rw (c.ends_at.ensures.first, c.ends_at.ensures.last) at c.greatest-most.ensures.most)

pub returns-clause-ends : goal.returns-clause-ends
returns-clause-ends c =
    raised_ends _ _ _ _ _ _ _ _ (omega (arith, c.if-at-self.false, c.requires))
    (slice_get-get_or c.args.self.now.program.now c.args.at _ c.if-at-self.false)
    (omega (arith, c.if-most-row.false))
    (rw (c.ends_at.ensures.first, c.ends_at.ensures.last) at c.greatest-most.ensures.one)
