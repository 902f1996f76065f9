use Rattle.awk_ere.proofs.Images.{tree_finds}
use Rattle.awk_ere.proofs.plain.Plain.find.Goals as goal

pub returns : goal.returns
returns c =
    let best = rw c.deref.ensures.value at c.in_ok-found.ensures in
    rw (← c.self.view_is) (tree_finds c.self.inside.source.items c.args.text.now c.self.inside.sets.items
    c.self.inside.node c.args.from c.in_ok-found.found c.self.invariant best)
