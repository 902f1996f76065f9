use Rattle.std.proofs.Common.{◌≡◌, drop, false, ◌∙◌, sym, ap, arith}
use Rattle.std.proofs.lemmas.Bool.{ne_eqb}
use lib.Lanes.{mask_l}
use Rattle.awk_fields.specs.Edges.{changes}
use Rattle.awk_fields.specs.Fields.{is_blank}
use Rattle.awk_fields.proofs.WordSteps.{open_still}
use Rattle.awk_fields.proofs.words.block_words.Goals as goal

pub returns-then-edges-eq0 : goal.returns-then-edges-eq0
returns-then-edges-eq0 c =
    let s = c.args.text.now in
    let from = c.args.from in
    let start = c.args.start in
    let inside = λ (e : start ≡ from). let no : ⊥ = omega (arith, c.if-start-from.true, e) in no in
    let none : mask_l (changes is_blank 64 false (drop from s)) ≡ 0 =
    ap (λ b. mask_l (changes is_blank 64 b (drop from s))) (sym (ne_eqb start from inside))
    ∙ sym c.block_edges-edges.ensures ∙ c.if-edges-eq0.true in
    open_still s from start c.args.end c.args.spans.now.items c.requires.words none c.requires.end
