use Rattle.std.proofs.Common.{◌≡◌, ◌==◌, ℕ, length, not, nat_lt, vec_len, ap, sym, ◌∙◌, arith}
use Rattle.std.proofs.lemmas.Bool.Decides.{nat_tests}
use Rattle.std.proofs.lemmas.Result.{err_from_is_err_and}
use Rattle.awk_ere.proofs.Wholes.{reading_begins, reading_more, reading_later, reading_ends, reading_wrong}
use Rattle.awk_ere.proofs.read.read.Goals as goal

some_open : (n : ℕ) → not (n == 0) ≡ nat_lt 0 n
some_open n = grind (arith, nat_tests)

pub loop-top-init : goal.loop-top-init
loop-top-init c = rw c.new-groups.ensures.items (reading_begins c.args.text.now c.fresh-top.result c.args.sets.now.items
    (c.fresh-top.ensures c.args.sets.now.items))

pub loop-top-preserved : goal.loop-top-preserved
loop-top-preserved c =
    let read = rw c.in-Some.is at c.in_ok-token.ensures.ok in
    reading_more c.args.text.now c.loop-top.rest.now c.in-Some.after.now c.loop-top.groups.items c.take.new.groups.items
    c.loop-top.top c.in_ok-top.top c.loop-top.sets.items c.front.new.sets.items
    (not c.is_empty.result) c.is_some.result c.in-Some.token c.loop-top.invariant
    (let n : length c.loop-top.groups.items ≡ vec_len c.loop-top.groups = omega arith in
    ap not c.is_empty.ensures ∙ some_open (vec_len c.loop-top.groups) ∙ ap (nat_lt 0) (sym n)) c.is_some.ensures
    c.in_ok-token.ensures.sets read c.in_ok-top.ensures

pub returns-clause-ok : goal.returns-clause-ok
returns-clause-ok c =
    let end = rw c.in_default.is at c.in_ok-token.ensures.ok in
    reading_ends c.args.text.now c.loop-top.rest.now c.loop-top.groups.items c.loop-top.top c.front.new.sets.items
    (not c.is_empty.result) c.is_some.result c.in_ok-whole.whole
    (reading_later _ _ _ _ _ _ c.in_ok-token.ensures.sets c.loop-top.invariant)
    (let n : length c.loop-top.groups.items ≡ vec_len c.loop-top.groups = omega arith in
    ap not c.is_empty.ensures ∙ some_open (vec_len c.loop-top.groups) ∙ ap (nat_lt 0) (sym n)) c.is_some.ensures end
    (λ f. c.in_ok-whole.ensures c.front.new.sets.items f)

pub returns-in_err-token-clause-err : goal.returns-in_err-token-clause-err
returns-in_err-token-clause-err c =
    let e = err_from_is_err_and c.from_residual.result c.from_residual.ensures.1 in
    rw (e.1, e.2) (λ no_memory. reading_wrong c.args.text.now c.loop-top.rest.now c.loop-top.groups.items c.loop-top.top
    c.loop-top.sets.items (not c.is_empty.result) c.is_some.result _ c.loop-top.invariant
    (let n : length c.loop-top.groups.items ≡ vec_len c.loop-top.groups = omega arith in
    ap not c.is_empty.ensures ∙ some_open (vec_len c.loop-top.groups) ∙ ap (nat_lt 0) (sym n)) c.is_some.ensures
    (c.in_err-token.ensures.err no_memory))
