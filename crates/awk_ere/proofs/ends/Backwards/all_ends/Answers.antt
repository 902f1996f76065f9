use Rattle.std.proofs.Common.{◌+◌, ◌-◌, ◌∙◌, sym, ap, arith, length, subst}
use Rattle.std.proofs.lemmas.List.{with_items_is}
use Rattle.awk_ere.specs.Ends.{IsBehind}
use Rattle.awk_ere.proofs.Ending.{behind_row}
use Rattle.awk_ere.proofs.ends.Backwards.all_ends.Goals as goal

pub loop-left-preserved : goal.loop-left-preserved
loop-left-preserved c =
    let sets = c.args.self.now.sets.now in
    let program = c.args.self.now.program.now in
    let s = c.args.self.now.text.now in
    let left = c.loop-left.left in
    let same = with_items_is c.loop-left.row c.add_end.new.row
    (omega (arith, c.add_end.ensures.len, c.loop-left.invariant.row_len, c.loop-left.row.ok)) in
    let after = ap (λ v. v.items) c.swap.ensures.y_after ∙ same in
    record {
      row_len = ap (λ v. length v.items) c.swap.ensures.x_after ∙ c.loop-left.invariant.behind_len;
      behind_len = ap length after ∙ c.add_end.ensures.len;
      count = c.in_ok-add_end.ensures.count c.if-not-branch.false;
      ends = c.in_ok-add_end.ensures.ends c.if-not-branch.false;
      behind = λ le. subst (IsBehind sets program s (length s - (left + 1))) (sym after)
          (behind_row sets program s (length s - (left + 1)) (length s - left) c.add_end.new.row (omega (arith, le))
          (omega arith) (c.in_ok-add_end.ensures.row c.if-not-branch.false));
    }
