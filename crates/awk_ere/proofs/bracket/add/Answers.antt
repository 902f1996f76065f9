use Rattle.std.proofs.Common.{refl, arith}
use Rattle.awk_ere.proofs.Sets.{adding_begins, adding_more, adding_ends}
use Rattle.awk_ere.proofs.bracket.add.Goals as goal

pub loop-byte-init : goal.loop-byte-init
loop-byte-init c = record { adding = adding_begins c.args.range.0 c.args.set.now; still = λ le. refl }

pub loop-byte-preserved : goal.loop-byte-preserved
loop-byte-preserved c = record {
  adding = adding_more c.args.range.0 c.loop-byte.byte c.args.set.now c.loop-byte.set (omega arith)
      (omega arith) c.loop-byte.invariant.adding;
  still = λ le. absurd (omega arith);
}

pub returns : goal.returns
returns c = adding_ends c.args.range.0 c.args.range.1 c.loop-byte.byte c.args.set.now c.loop-byte.set
    (λ le. omega arith) (λ lt. c.loop-byte.invariant.still (omega arith)) c.loop-byte.invariant.adding
