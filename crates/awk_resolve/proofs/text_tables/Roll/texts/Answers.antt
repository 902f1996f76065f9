use Rattle.std.proofs.Common.{ap, map}
use Rattle.awk_resolve.proofs.text_tables.Roll.texts.Goals as goal

pub returns : goal.returns
returns c = rw (← c.self.view_is) (ap (map (λ t. t.items)) c.as_slice.ensures.keys)
