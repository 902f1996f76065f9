use Rattle.std.proofs.Common.{◌≡◌, ◌+◌, sym, subst, length, arith}
use Rattle.std.specs.Prelude.{IfSome, MatchOption}
use Rattle.std.proofs.lemmas.Grind.{common_steps}
use Rattle.box_advice.specs.Logs.{IsRead, Tells}
use Rattle.box_advice.proofs.LogsLemmas.{Behind, begins, breaks, ends, goes_on, none_left}
use Rattle.box_advice.proofs.denials.read_log.Goals as goal

pub returns-then-is_empty-clause-read : goal.returns-then-is_empty-clause-read
returns-then-is_empty-clause-read c =
    let none : length c.loop-at.rest.now ≡ 0 = grind (arith, common_steps, c.is_empty.ensures, c.if-is_empty.true) in
    subst (λ items. IsRead c.args.log.now items) (sym c.into_wishes.ensures)
    (ends c.args.log.now c.loop-at.rest.now c.loop-at.at c.loop-at.gathered.wishes.items
    (none_left c.loop-at.rest.now none)
    c.loop-at.invariant.behind)

pub returns-in_default-clause-refused : goal.returns-in_default-clause-refused
returns-in_default-clause-refused c =
    breaks c.args.log.now c.loop-at.rest.now c.first_line-lead.result.line.now c.first_line-lead.result.rest.now
    c.loop-at.at
    c.loop-at.gathered.wishes.items
    (λ wish t. subst (λ found. MatchOption found ⊥ (λ one. one ≡ wish)) c.in_default.is
    (c.in_ok-found.ensures.found wish t))
    c.first_line-lead.ensures.lines c.loop-at.invariant.behind

pub loop-at-init : goal.loop-at-init
loop-at-init c = record {
  behind = subst (λ items. Behind c.args.log.now 0 items c.args.log.now) (sym c.new-gathered.ensures.none)
      (begins c.args.log.now);
  met = c.new-gathered.ensures.met;
  few = omega arith;
}

pub loop-at-preserved : goal.loop-at-preserved
loop-at-preserved c =
    let tells = subst (λ found. IfSome found (λ wish. Tells (c.loop-at.at + 1) c.first_line-lead.result.line.now wish))
    c.in-Some.is
    c.in_ok-found.ensures.read in
    record {
      behind = subst (λ items. Behind c.args.log.now (c.loop-at.at + 1) items c.first_line-lead.result.rest.now)
          (sym c.in_ok-take.ensures.wishes)
          (goes_on c.args.log.now c.loop-at.rest.now c.first_line-lead.result.line.now c.first_line-lead.result.rest.now
          c.loop-at.at
          c.loop-at.gathered.wishes.items c.in-Some.wish tells c.first_line-lead.ensures.lines
          c.loop-at.invariant.behind);
      met = c.in_ok-take.ensures.met;
      few = omega (arith, c.loop-at.invariant.few, c.first_line-lead.ensures.shorter);
    }

pub returns-clause-read : goal.returns-clause-read
returns-clause-read c =
    let none : length c.loop-at.rest.now ≡ 0 = omega (arith, c.loop-at.invariant.few, c.loop-at-test.false) in
    subst (λ items. IsRead c.args.log.now items) (sym c.into_wishes-2.ensures)
    (ends c.args.log.now c.loop-at.rest.now c.loop-at.at c.loop-at.gathered.wishes.items
    (none_left c.loop-at.rest.now none)
    c.loop-at.invariant.behind)
