use Rattle.std.proofs.Common.{◌≡◌, ◌+◌, ◌-◌, sym, subst, arith}
use Rattle.std.specs.Prelude.{vec_len, vec_capacity}
use lib.Bits.{bit_and}
use lib.Count.{count_trailing_zeros}
use Rattle.awk_fields.proofs.PartSteps.{IsAmong, among_begins, part_ends, among_ends}
use Rattle.awk_fields.proofs.spans.block_parts.Goals as goal

pub loop-found-init : goal.loop-found-init
loop-found-init c =
    among_begins c.args.marks c.args.text.now c.args.from c.in_block-found.result c.args.start c.args.spans.now.items
    (vec_len c.args.spans.now) (vec_capacity c.args.spans.now) c.requires.parts c.in_block-found.ensures
    c.requires.room

pub loop-found-preserved : goal.loop-found-preserved
loop-found-preserved c =
    let s = c.args.text.now in
    let from = c.args.from in
    let found = c.loop-found.found in
    let spans = c.loop-found.spans in
    let new = c.push_reserved.new.self in
    let next = from + count_trailing_zeros 64 found + 1 in
    let ended : IsAmong c.args.marks s from (bit_and found (found - 1)) next new.items (vec_len spans + 1)
    (vec_capacity spans) =
    part_ends c.args.marks s from found c.loop-found.start spans.items new.items (vec_len spans) (vec_capacity spans)
    c.loop-found.invariant (omega arith) c.push_reserved.ensures.items in
    subst (λ e. IsAmong c.args.marks s from e next new.items (vec_len new) (vec_capacity new))
    (sym c.without_lowest-found.ensures)
    (subst (λ n. IsAmong c.args.marks s from (bit_and found (found - 1)) next new.items n (vec_capacity new))
    (sym c.push_reserved.ensures.len)
    (subst (λ n. IsAmong c.args.marks s from (bit_and found (found - 1)) next new.items (vec_len spans + 1) n)
    (sym c.push_reserved.ensures.capacity) ended))

pub returns : goal.returns
returns c =
    let spans = c.loop-found.spans in
    let none : c.loop-found.found ≡ 0 = omega arith in
    among_ends c.args.marks c.args.text.now c.args.from c.loop-found.start spans.items (vec_len spans)
    (vec_capacity spans)
    (subst (λ e. IsAmong c.args.marks c.args.text.now c.args.from e c.loop-found.start spans.items (vec_len spans)
    (vec_capacity spans)) none c.loop-found.invariant)
