use Rattle.std.proofs.Common.{Some, sym, ap, ◌∙◌}
use Rattle.awk_lib.proofs.Mapped.{popped_rows}
use Rattle.awk_lib.proofs.elements.Elements.trim.Goals as goal

pub loop-self-preserved : goal.loop-self-preserved
loop-self-preserved g c =
    let before = c.loop-self.invariant in
    let k = c.in-Some-default-None.field-0-0.now in
    let at = sym c.in-Some-default-None.ensures.entry ∙ ap (λ p. Some (k, p)) c.in-Some-default-None.field-0-1-is in (
      popped_rows c.loop-self.self.map.entries c.pop.new.self.entries c.pop.result k c.pop.ensures.entries at ∙ before.0,
      before.1,
      before.2,
    )
