use Rattle.std.proofs.Common.{[], ◌∷◌, sym, subst, inr}
use Rattle.box_audit.specs.Audit.{BreaksOff}
use Rattle.box_audit.proofs.Steps.{breaks_off}
use Rattle.box_audit.proofs.watched.Watched.pass_and_tell.Goals as goal

pub returns-in_default : goal.returns-in_default
returns-in_default g c =
    let old = c.args.self.now in
    let told = c.tell.new.self in
    let end = c.tell.result in
    let broken = c.tell.ensures.broken c.in_default.not-Whole in
    let ended = subst (λ z. BreaksOff g.L.Write.contents end z told.log [] c.line.result.now) c.in-Ok.ensures.3 broken
    in
    let at_line = subst (λ z. BreaksOff g.L.Write.contents end old.log told.log [] z) c.line.ensures ended in
    let inner = subst (λ z. g.W.World.follows old.world ((c.args.ask.now, c.in-Ok.reply) ∷ []) z)
    (sym c.tell.ensures.world) c.in-Ok.ensures.0 in
    inr (
      c.in-Ok.reply,
      breaks_off g.W.World.follows g.W.World.has_stopped g.L.Write.contents old told c.stop_untold.new.self
          c.args.ask.now c.in-Ok.reply
          c.args.lines.now end c.requires.going c.requires.lines inner at_line c.stop_untold.ensures,
    )
