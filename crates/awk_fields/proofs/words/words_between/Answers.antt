use Rattle.std.proofs.Common.{◌≡◌, ◌+◌, ◌-◌, ◌∙◌, sym, subst, arith}
use Rattle.std.specs.Prelude.{vec_len, vec_capacity}
use lib.Bits.{bit_and}
use lib.Count.{count_trailing_zeros}
use Rattle.awk_fields.specs.Edges.{IsBetween}
use Rattle.awk_fields.proofs.WordSteps.{Started, word_starts, word_open, word_closes, between_ends}
use Rattle.awk_fields.proofs.words.words_between.Goals as goal

pub returns-then-edges-eq0 : goal.returns-then-edges-eq0
returns-then-edges-eq0 c =
    let s = c.args.text.now in
    let from = c.args.from in
    let edges = c.loop-edges.edges in
    let spans = c.loop-edges.spans in
    let started = word_starts s from edges spans.items (vec_len spans) (vec_capacity spans) c.loop-edges.invariant
    (omega arith) in
    let none : bit_and edges (edges - 1) ≡ 0 = sym c.without_lowest-edges.ensures ∙ c.if-edges-eq0.true in
    word_open s from (from + count_trailing_zeros 64 edges) c.args.end spans.items (vec_len spans) (vec_capacity spans)
    (subst (λ e. Started s from e (from + count_trailing_zeros 64 edges) spans.items (vec_len spans)
    (vec_capacity spans)) none started) c.requires.end

pub loop-edges-preserved : goal.loop-edges-preserved
loop-edges-preserved c =
    let s = c.args.text.now in
    let from = c.args.from in
    let edges = c.loop-edges.edges in
    let spans = c.loop-edges.spans in
    let start = from + count_trailing_zeros 64 edges in
    let left = c.without_lowest-edges.result in
    let new = c.push_reserved.new.self in
    let started : Started s from left start spans.items (vec_len spans) (vec_capacity spans) =
    subst (λ e. Started s from e start spans.items (vec_len spans) (vec_capacity spans))
    (sym c.without_lowest-edges.ensures) (word_starts s from edges spans.items (vec_len spans) (vec_capacity spans)
    c.loop-edges.invariant (omega arith)) in
    let closed : IsBetween s from (bit_and left (left - 1)) new.items (vec_len spans + 1) (vec_capacity spans) =
    word_closes s from left start spans.items new.items (vec_len spans) (vec_capacity spans) started
    (omega arith) c.push_reserved.ensures.items in
    subst (λ e. IsBetween s from e new.items (vec_len new) (vec_capacity new))
    (sym c.without_lowest-edges-in-loop-edges.ensures)
    (subst (λ n. IsBetween s from (bit_and left (left - 1)) new.items n (vec_capacity new))
    (sym c.push_reserved.ensures.len)
    (subst (λ n. IsBetween s from (bit_and left (left - 1)) new.items (vec_len spans + 1) n)
    (sym c.push_reserved.ensures.capacity) closed))

pub returns : goal.returns
returns c =
    let spans = c.loop-edges.spans in
    let none : c.loop-edges.edges ≡ 0 = omega arith in
    between_ends c.args.text.now c.args.from c.args.end spans.items (vec_len spans) (vec_capacity spans)
    (subst (λ e. IsBetween c.args.text.now c.args.from e spans.items (vec_len spans) (vec_capacity spans)) none
    c.loop-edges.invariant) c.requires.end
