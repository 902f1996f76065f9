use Rattle.std.proofs.Common.{◌∙◌, ◌+◌, ◌++◌, [], ap, map, sym, subst, drop, arith}
use Rattle.std.proofs.lemmas.List.{take_all}
use Rattle.awk_hints.specs.Hints.{AreTold, Tells, begun, hint_of}
use Rattle.awk_hints.proofs.TellingLemmas.{next_told}
use Rattle.awk_hints.proofs.telling.push_all.Goals as goal

pub loop-at-init : goal.loop-at-init
loop-at-init c = subst (λ hs. Tells c.args.numbers c.args.tokens.now [] hs) (sym c.requires) begun

pub loop-at-preserved : goal.loop-at-preserved
loop-at-preserved c =
    let tokens = c.args.tokens.now in
    let i = c.loop-at.at in
    let t = c.index-tokens-at.result in
    let x = c.is_excused-excused.result in
    let kinds = c.in_ok-kinds.kinds.items in
    let told = subst (λ xs. AreTold c.args.numbers xs t (drop (i + 1) tokens) x kinds) c.split_at.ensures.front
    (subst (λ ys. AreTold c.args.numbers c.split_at.result.0.now t ys x kinds) c.split_at-in-loop-at.ensures.back
    c.in_ok-kinds.ensures) in
    next_told c.args.numbers tokens i t c.loop-at.out.items _ x kinds c.loop-at-test.true c.index-tokens-at.is
    (λ y. sym c.names_int-names_int.ensures ∙ c.is_excused-excused.ensures y)
    told (c.in_ok-push_hints.ensures ∙ ap (λ ks. c.loop-at.out.items ++ map (hint_of t) ks) c.as_slice.ensures.value)
    c.loop-at.invariant

pub returns : goal.returns
returns c = subst (λ ys. Tells c.args.numbers c.args.tokens.now ys c.loop-at.out.items)
    (take_all c.loop-at.at c.args.tokens.now
    (omega arith)) c.loop-at.invariant
