use Rattle.std.proofs.Common.{◌+◌, ◌-◌, ◌<◌, [], length, slice_index, None, refl, ◌∙◌, subst, arith}
use Rattle.std.specs.List.{slice_index_or}
use Rattle.awk_ere.proofs.Seeking.{begins_by}
use Rattle.awk_ere.proofs.Tables.{longest_begin, at_next, at_pass, at_accept, at_dead, at_finish, at_stays}
use Rattle.awk_ere.specs.Table.{IsAt}
use Rattle.awk_ere.proofs.table.Matcher.ends_somewhere.Goals as goal
use Rattle.awk_ere.proofs.table.Matcher.ends_somewhere.Goals.{else-accepts-next-via-then-accepts-next+else-place-text}
use Rattle.awk_ere.proofs.table.Matcher.ends_somewhere.Goals.{else-accepts-next-via-else-accepts-next}

pub bounds-accepts-first : goal.bounds-accepts-first
bounds-accepts-first c =
    let begin = begins_by c.args.self.now _ c.self.view_is c.args.text.now _ _ _ c.requires.begin _ _ _
    c.as_slice-cells.ensures.value c.as_slice-accepts.ensures.value c.as_slice-ends.ensures.value in
    omega (arith, begin.1.accept.len, begin.2)

pub loop-place-init : goal.loop-place-init
loop-place-init c = record {
  after = omega arith;
  within = omega arith;
  at' = begins_by c.args.self.now _ c.self.view_is _ _ _ _ c.requires.begin _ _ _ c.as_slice-cells.ensures.value
      c.as_slice-accepts.ensures.value c.as_slice-ends.ensures.value;
  none = longest_begin _ _ _ _ _;
  quiet = λ _. c.if-accepts-first.false;
}

pub returns : goal.returns
returns c = at_finish _ _ _ _ _ _ _ _ _ _ c.loop-place.invariant.at' (omega arith)
    (omega arith) c.loop-place.invariant.none

pub loop-place-preserved : goal.loop-place-preserved
loop-place-preserved c =
    let had = c.loop-place.invariant in
    let lt = c.loop-place-test.true in
    record {
      after = omega (arith, had.after);
      within = omega (arith, lt);
      at' = at_next _ _ _ _ _ _ _ _ _ _ had.at' had.after lt (omega (arith, c.type_inv.text c.loop-place.place))
          c.if-next-cells.false;
      none = at_pass _ _ _ _ _ _ _ _ _ _ had.at' had.after lt (had.quiet lt) had.none;
      quiet = λ more. elim c.else-accepts-next.branch [
        | else-accepts-next-via-then-accepts-next+else-place-text w ↦ absurd
            (omega (arith, more, w.if-place-text.false))
        | else-accepts-next-via-else-accepts-next w ↦ w.if-accepts-next.false
      ];
    }

pub loop-place-preserved-then-next-state : goal.loop-place-preserved-then-next-state
loop-place-preserved-then-next-state c =
    let had = c.loop-place.invariant in
    let lt = c.loop-place-test.true in
    let to = c.stays_to-place.result in
    let known : slice_index (slice_index_or c.as_slice-cells.result.now c.loop-place.state [])
    (slice_index c.args.text.now c.loop-place.place) < length c.as_slice-cells.result.now =
    omega (arith, c.if-next-state.true, had.at'.2) in
    let next = at_next _ _ _ _ _ _ _ _ _ _ had.at' had.after lt (omega (arith, c.type_inv.text c.loop-place.place))
    known in
    let at' = subst (λ q. IsAt c.args.self.now.sets c.args.self.now.program c.args.text.now c.as_slice-cells.result.now
    c.as_slice-accepts.result.now c.as_slice-ends.result.now c.args.step c.args.from (c.loop-place.place + 1) q)
    c.if-next-state.true next in
    let later = at_stays _ _ _ _ _ _ _ _ c.loop-place.state (λ k. omega (arith, c.type_inv.text k)) _ refl
    (had.quiet lt) (to - (c.loop-place.place + 1)) (c.loop-place.place + 1) to
    (omega (arith, c.stays_to-place.ensures.inside.0)) (omega (arith, had.after)) c.stays_to-place.ensures.inside.1
    (λ k from before. c.stays_to-place.ensures.all k from before ∙ c.if-next-state.true) at'
    (at_pass _ _ _ _ _ _ _ _ _ _ had.at' had.after lt (had.quiet lt) had.none) in
    record {
      after = omega (arith, had.after, c.stays_to-place.ensures.inside.0);
      within =
          c.stays_to-place.ensures.inside.1;
      at' = later.0;
      none = later.1;
      quiet = λ more. had.quiet lt;
    }

pub returns-then-accepts-first : goal.returns-then-accepts-first
returns-then-accepts-first c =
    let begin = begins_by c.args.self.now _ c.self.view_is _ _ _ _ c.requires.begin _ _ _ c.as_slice-cells.ensures.value
    c.as_slice-accepts.ensures.value c.as_slice-ends.ensures.value in
    ((λ t. at_accept _ _ _ _ _ _ _ _ _ _ begin (omega arith) c.requires.from c.if-accepts-first.true), (λ run. refl))

pub returns-then-place-text : goal.returns-then-place-text
returns-then-place-text c =
    let had = c.loop-place.invariant in
    let at' = at_next _ _ _ _ _ _ _ _ _ _ had.at' had.after c.loop-place-test.true
    (omega (arith, c.type_inv.text c.loop-place.place)) c.if-next-cells.false in (
      (λ t. at_accept _ _ _ _ _ _ _ _ _ _ at' (omega (arith, had.after)) c.if-place-text.true c.if-accepts-next.true),
      (λ run. refl),
    )

pub returns-then-cell-eq-DEAD : goal.returns-then-cell-eq-DEAD
returns-then-cell-eq-DEAD c =
    let had = c.loop-place.invariant in
    let lt = c.loop-place-test.true in
    let none = at_dead _ _ _ _ _ _ _ _ _ _ had.at' had.after lt (omega (arith, c.type_inv.text c.loop-place.place))
    c.if-cell-eq-DEAD.true None (at_pass _ _ _ _ _ _ _ _ _ _ had.at' had.after lt (had.quiet lt) had.none) in
    ((λ t. absurd (cc)), λ run. absurd (none run.0 (omega (arith, run.1)) run.2))
