use Rattle.std.proofs.Common.{◌≡◌, ◌+◌, ◌-◌, ◌<◌, drop, false, ◌∙◌, sym, ap, subst, arith}
use Rattle.std.proofs.lemmas.Bool.{ne_eqb}
use Rattle.std.specs.Prelude.{vec_len, vec_capacity}
use lib.Bits.{bit_and}
use lib.Lanes.{mask_l}
use Rattle.awk_fields.specs.Edges.{IsBetween, changes}
use Rattle.awk_fields.specs.Fields.{is_blank}
use Rattle.awk_fields.proofs.WordSteps.{open_closes}
use Rattle.awk_fields.proofs.words.end_open_word.Goals as goal

pub returns : goal.returns
returns c =
    let s = c.args.text.now in
    let from = c.args.from in
    let start = c.args.start in
    let edges = c.args.edges in
    let spans = c.args.spans.now in
    let new = c.push_reserved.new.self in
    let before : start < from = omega (arith, c.requires.words.ordered, c.if-start-from.false) in
    let edges_are : edges ≡ mask_l (changes is_blank 64 false (drop from s)) = c.requires.edges
    ∙ ap (λ b. mask_l (changes is_blank 64 b (drop from s))) (ne_eqb start from c.if-start-from.false) in
    let closed : IsBetween s from (bit_and edges (edges - 1)) new.items (vec_len spans + 1) (vec_capacity spans) =
    open_closes s from edges start spans.items new.items (vec_len spans) (vec_capacity spans) c.requires.words before
    edges_are (c.requires.ends before) c.push_reserved.ensures.items c.requires.room in
    subst (λ e. IsBetween s from e new.items (vec_len new) (vec_capacity new)) (sym c.without_lowest.ensures)
    (subst (λ n. IsBetween s from (bit_and edges (edges - 1)) new.items n (vec_capacity new))
    (sym c.push_reserved.ensures.len)
    (subst (λ n. IsBetween s from (bit_and edges (edges - 1)) new.items (vec_len spans + 1) n)
    (sym c.push_reserved.ensures.capacity) closed))
