use Rattle.std.proofs.Common.{◌<◌, length, sym, subst, arith}
use Rattle.std.proofs.Math.ListN.{set}
use Rattle.std.proofs.lemmas.List.{get_or_default}
use Rattle.awk_ere.specs.Search.{IsListed}
use Rattle.awk_ere.specs.declared.search.TheConstants.{NONE}
use Rattle.awk_ere.proofs.Reach.{listed_new, listed_again}
use Rattle.awk_ere.proofs.search.Starts.mark.Goals.{then-index+in_ok-push, else-index}
use Rattle.awk_ere.proofs.search.Starts.mark.Goals as goal

pub invariant_of-self-2 : goal.invariant_of-self-2
invariant_of-self-2 c =
    let inside : c.args.at < length c.self.inside.starts.items = rw (← c.self.view_is) at c.requires in
    elim c.if-index.branch [
      | then-index+in_ok-push w ↦ rw w.self-inside-is
          (subst (λ a. IsListed (set c.self.inside.starts.items c.args.at c.args.start) a)
          (sym w.in_ok-push.ensures.items) (listed_new _ _ _ _ inside (omega (arith, c.ranges.start))
          c.self.invariant))
      | else-index w ↦ rw w.self-inside-is
          (listed_again c.self.inside.starts.items c.self.inside.active.items c.args.at c.args.start
          (let e = get_or_default c.self.inside.starts.items c.args.at c.index.result.now NONE inside in
          omega (arith, e, c.index.ensures, w.if-index.false, c.self.invariant.small c.args.at))
          inside (omega (arith, c.ranges.start)) c.self.invariant)
    ]
