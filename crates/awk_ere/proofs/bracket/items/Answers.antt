use Rattle.std.proofs.Common.{sym, ◌∙◌, arith}
use Rattle.awk_ere.proofs.Fronts.{remain_more}
use Rattle.awk_ere.proofs.bracket.items.Goals as goal

pub loop-left-preserved : goal.loop-left-preserved
loop-left-preserved c = record {
  within = omega (arith, c.in_ok-left.ensures.within);
  remain = remain_more _ _ _ _ _ _ _ c.loop-left.invariant.remain c.in-len1-up.len_at_least (sym c.closes.ensures
      ∙ c.if-closes.false) c.in_ok-left.ensures.within c.in_ok-left.ensures.value;
}
