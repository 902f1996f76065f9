use Rattle.std.proofs.Common.{◌≡◌, false, sym, subst, rules}
use Rattle.std.specs.Prelude.{MatchOption}
use Rattle.box_policy.specs.Counts.{is_used_up_at}
use Rattle.box_monitor.specs.Judged.{AreDecided}
use Rattle.box_monitor.proofs.KeptLemmas.{cache_after_note}
use Rattle.box_monitor.proofs.judge.Judge.note.Goals as goal

pub invariant_of-self-else-is_used_up : goal.invariant_of-self-else-is_used_up
invariant_of-self-else-is_used_up c =
    let left : is_used_up_at c.note.new.self c.args.rule ≡ false = search rules in
    subst (λ book. MatchOption c.self.inside.cache (Unit {0}) (λ k. AreDecided book k.entries)) (sym c.note.ensures)
    (cache_after_note c.args.rule c.self.inside.policy c.self.inside.cache
    (subst (λ book. is_used_up_at book c.args.rule ≡ false) c.note.ensures left) c.self.invariant)
