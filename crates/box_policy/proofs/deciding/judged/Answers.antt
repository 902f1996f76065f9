use Rattle.std.proofs.Common.{◌≡◌, ◌∙◌, ◌<◌, ◌≤◌, true, false, length, None, sym, ap, subst, refl, arith, rules}
use Rattle.box_policy.specs.Targets.{least, sees}
use Rattle.box_policy.proofs.AheadLemmas.{length-chain}
use Rattle.box_policy.proofs.JudgedLemmas.{bounds, short_at, decides, goes_on, steps, ends}
use Rattle.box_policy.proofs.deciding.judged.Goals as goal

pub overflow_sub-rule : goal.overflow_sub-rule
overflow_sub-rule c =
    let b = bounds c.args.target c.args.rules.now c.loop-number.ahead c.loop-number.passed c.in-Some.number
    c.loop-number.invariant.ahead (sym c.in-Some.ensures) in
    omega (arith, b.0)

pub overflow_sub-passed : goal.overflow_sub-passed
overflow_sub-passed c =
    let b = bounds c.args.target c.args.rules.now c.loop-number.ahead c.loop-number.passed c.in-Some.number
    c.loop-number.invariant.ahead (sym c.in-Some.ensures) in
    omega (arith, b.0)

pub bounds-rules-passed : goal.bounds-rules-passed
bounds-rules-passed c =
    let b = bounds c.args.target c.args.rules.now c.loop-number.ahead c.loop-number.passed c.in-Some.number
    c.loop-number.invariant.ahead (sym c.in-Some.ensures) in
    omega (arith, b.0, b.1)

pub decides-requires : goal.decides-requires
decides-requires c =
    let b = bounds c.args.target c.args.rules.now c.loop-number.ahead c.loop-number.passed c.in-Some.number
    c.loop-number.invariant.ahead (sym c.in-Some.ensures) in
    record {
      short = short_at c.args.rules.now _ c.index-rules-passed.result c.requires.short (omega (arith, b.0, b.1))
          c.index-rules-passed.is;
    }

pub returns-then-decides : goal.returns-then-decides
returns-then-decides c = λ base kind subject t.
    let holds : c.decides.result ≡ true = search rules in
    c.decided.ensures
    ∙ (sym (decides c.args.target c.args.rules.now c.loop-number.ahead c.loop-number.passed c.in-Some.number
    c.loop-number.invariant.ahead (sym c.in-Some.ensures)
    (sees c.args.sight) base kind subject c.args.given c.index-rules-passed.result t c.index-rules-passed.is
    (sym (c.decides.ensures base kind subject t) ∙ holds))
    ∙ c.loop-number.invariant.rest base kind subject t)

pub next-next-requires : goal.next-next-requires
next-next-requires c =
    let b = bounds c.args.target c.args.rules.now c.loop-number.ahead c.loop-number.passed c.in-Some.number
    c.loop-number.invariant.ahead (sym c.in-Some.ensures) in
    let chained : length c.args.index.now.nexts.items ≡ length c.args.rules.now = ap length c.requires.index.nexts
    ∙ length-chain 1 c.args.rules.now in
    omega (arith, b.0, b.1, chained)

pub loop-number-smaller : goal.loop-number-smaller
loop-number-smaller c =
    let b = bounds c.args.target c.args.rules.now c.loop-number.ahead c.loop-number.passed c.in-Some.number
    c.loop-number.invariant.ahead (sym c.in-Some.ensures) in
    omega (arith, b.0, b.1)

pub loop-number-preserved : goal.loop-number-preserved
loop-number-preserved c =
    let fails : c.decides.result ≡ false = search rules in
    record {
      ahead = steps c.args.target c.args.rules.now c.loop-number.ahead c.loop-number.passed c.in-Some.number
          c.loop-number.invariant.ahead (sym c.in-Some.ensures)
          c.args.index.now c.next-next.result c.behind-ahead.result c.requires.index c.next-next.ensures
          c.behind-ahead.ensures;
      rest = λ base kind subject t.
          sym (goes_on c.args.target c.args.rules.now c.loop-number.ahead c.loop-number.passed c.in-Some.number
          c.loop-number.invariant.ahead (sym c.in-Some.ensures)
          (sees c.args.sight) base kind subject c.args.given c.index-rules-passed.result t c.index-rules-passed.is
          (sym (c.decides.ensures base kind subject t) ∙ fails))
          ∙ c.loop-number.invariant.rest base kind subject t;
    }

pub returns : goal.returns
returns c = λ base kind subject t.
    let none : least c.loop-number.ahead.rooted (least c.loop-number.ahead.under c.loop-number.ahead.other) ≡ None =
    search rules in
    sym (ends (sees c.args.sight) c.args.target c.args.rules.now c.loop-number.ahead c.loop-number.passed base kind
    subject c.args.given c.loop-number.invariant.ahead t none)
    ∙ c.loop-number.invariant.rest base kind subject t
