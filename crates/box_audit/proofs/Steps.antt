-- What an ask whose line the log did not take leads to.
use Rattle.std.proofs.Common.{◌≡◌, ℕ, Bool, true, false, if◌then◌else◌, List, [], ◌∷◌, Option, None, Some}
use Rattle.std.proofs.Common.{ap, sym, subst}
use Rattle.box_monitor.specs.declared.log_end.LogEnd.{LogEnd}
use Rattle.box_world.specs.Calls.{Call}
use Rattle.box_world.specs.declared.ask.Ask.{Ask}
use Rattle.box_world.specs.declared.ask.Reply.{Reply}
use Rattle.box_audit.specs.Audit.{Audit, BreaksOff}
use Rattle.box_audit.specs.Audited.{audited_at, is_failed, line_of}
use Rattle.box_audit.specs.Follows.{GoesToLine, opens}
use Rattle.box_audit.specs.Steps.{AreLines}
use Rattle.box_audit.specs.declared.lines.Lines.{Lines}

-- the line that a reply picks
pub picked : (ask : Ask) (lines : Lines) (failed : Bool) (a : AreLines ask lines)
    → (if failed then lines.failed.items else lines.ok.items)
    ≡ line_of (record { place = ask.place; subject = a.subject; failed = failed })
picked ask lines true a = a.failed
picked ask lines false a = a.ok

module _ {W L : Type 0} (follows : W → List Call → W → Type 0) (has_stopped : W → Bool) (contents : L → Option (List ℕ))
  where
    pub breaks_off : (old told new : Audit W L) (ask : Ask) (reply : Reply) (lines : Lines) (end : LogEnd)
        → old.halt ≡ None → AreLines ask lines → follows old.world ((ask, reply) ∷ []) told.world
        → BreaksOff contents end old.log told.log [] (if is_failed reply then lines.failed.items else lines.ok.items)
        → new ≡ record told { halt = Some (record { log_end = end; has_opened = opens ask.request reply }) }
        → GoesToLine follows has_stopped contents old [] (ask, reply) new
    breaks_off old told new ask reply lines end going are inner broken left = record {
      before = going;
      inner = subst (λ z. follows old.world ((ask, reply) ∷ []) z) (sym (ap (λ (z : Audit W L). z.world) left)) inner;
      line = record { place = ask.place; subject = are.subject; failed = is_failed reply };
      told = ap (λ z. audited_at ask.place z reply) are.is_subject;
      end = end;
      after = ap (λ (z : Audit W L). z.halt) left;
      log = subst (λ z. BreaksOff contents end old.log new.log [] z) (picked ask lines (is_failed reply) are)
          (subst (λ z. BreaksOff contents end old.log z []
          (if is_failed reply then lines.failed.items else lines.ok.items))
          (sym (ap (λ (z : Audit W L). z.log) left)) broken);
    }
