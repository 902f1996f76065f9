use Rattle.std.proofs.Common.{◌∙◌}
use Rattle.awk_lib.proofs.Keeping.{found_has}
use Rattle.awk_lib.proofs.array.Array.contains.Goals as goal

pub returns : goal.returns
returns g c =
    rw (← c.self.view_is) (c.is_some.ensures ∙ found_has c.self.inside.elements c.args.key.now c.find.result
    c.self.invariant.numbered.keys c.find.ensures.some c.find.ensures.none)
