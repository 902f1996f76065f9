use Rattle.std.proofs.Common.{length, ap, arith}
use Rattle.awk_ere.proofs.Cuts.{piece_bounds, pieces_length}
use Rattle.awk_ere.proofs.pieces.StepLists.list.Goals as goal

pub start_of-start-requires : goal.start_of-start-requires
start_of-start-requires c =
    let inside = rw (← c.self.view_is) at c.requires in
    let count = pieces_length 0 c.self.inside.steps.items c.self.inside.ends.items in
    rw c.deref.ensures.value (omega (arith, inside, count))

pub index-end-requires : goal.index-end-requires
index-end-requires c =
    let inside = rw (← c.self.view_is) at c.requires in
    let count = pieces_length 0 c.self.inside.steps.items c.self.inside.ends.items in
    omega (arith, inside, count, c.self.inside.ends.ok)

pub slice_bounds-result-count : goal.slice_bounds-result-count
slice_bounds-result-count c =
    let b = piece_bounds _ _ _ _ _ _ _ c.self.view_is c.requires c.self.invariant c.deref.ensures.value
    c.start_of-start.ensures c.index-end.ensures in
    omega (arith, b.1)

pub slice_bounds-result-start : goal.slice_bounds-result-start
slice_bounds-result-start c =
    let b = piece_bounds _ _ _ _ _ _ _ c.self.view_is c.requires c.self.invariant c.deref.ensures.value
    c.start_of-start.ensures c.index-end.ensures in
    let len = ap length c.deref-2.ensures.value in
    omega (arith, b.1, b.2, len)

pub slice_bounds-result-end : goal.slice_bounds-result-end
slice_bounds-result-end c =
    let b = piece_bounds _ _ _ _ _ _ _ c.self.view_is c.requires c.self.invariant c.deref.ensures.value
    c.start_of-start.ensures c.index-end.ensures in
    rw c.deref-2.ensures.value (omega (arith, b.1, b.2))

pub offset_bounds-deref-start : goal.offset_bounds-deref-start
offset_bounds-deref-start c =
    let b = piece_bounds _ _ _ _ _ _ _ c.self.view_is c.requires c.self.invariant c.deref.ensures.value
    c.start_of-start.ensures c.index-end.ensures in
    let len = ap length c.deref-2.ensures.value in
    omega (arith, b.1, b.2, len, c.deref-2.type_inv.1)

pub returns : goal.returns
returns c =
    let b = piece_bounds _ _ _ _ _ _ _ c.self.view_is c.requires c.self.invariant c.deref.ensures.value
    c.start_of-start.ensures c.index-end.ensures in
    rw c.deref-2.ensures.value b.3
