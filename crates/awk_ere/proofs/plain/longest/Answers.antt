use Rattle.awk_ere.specs.View.{pattern}
use Rattle.awk_ere.proofs.Images.{longest_is}
use Rattle.awk_ere.proofs.plain.longest.Goals as goal

pub image-requires : goal.image-requires
image-requires c = rw c.deref.ensures.value c.in_ok-from.ensures.len

pub returns : goal.returns
returns c =
    let ends = rw c.deref.ensures.value at c.in_ok-ends.ensures in
    let greatest = rw c.deref-2.ensures.value at c.last.ensures in
    longest_is c.args.text.now (pattern c.args.sets.now c.args.node.now) c.args.start c.in_ok-from.from.items
    c.in_ok-ends.ends.items c.last.result c.in_ok-from.ensures.len c.in_ok-from.ensures.only ends greatest
