use Rattle.std.proofs.Common.{rules, ◌<◌, length, refl, sym, ◌∙◌, ap, subst, arith, slice_index, slice_index_or}
use Rattle.std.proofs.lemmas.Option.{slice_get-get_or, none-some}
use Rattle.awk_ere.specs.Search.{IsListed}
use Rattle.awk_ere.proofs.Advance.{listed_below, advancing_begins, advancing_takes, advancing_passes, advancing_ends}
use Rattle.awk_ere.proofs.Advance.{takes_target, target_takes, target_below}
use Rattle.awk_ere.proofs.search.Runs.advance.Goals.{then-start-cap+in-Some+in_ok-reach, then-start-cap+in_default}
use Rattle.awk_ere.proofs.search.Runs.advance.Goals.{else-start-cap}
use Rattle.awk_ere.proofs.search.Runs.advance.Goals as goal

pub loop-at-init : goal.loop-at-init
loop-at-init c = record { len = c.requires.ahead_len; advancing = advancing_begins _ _ _ _ _ _ _ _ _ c.requires.blank }

pub least-start-requires : goal.least-start-requires
least-start-requires c =
    rw (← c.here.view_is) (listed_below _ _ c.deref-at-items.result.now _ c.deref-at-items.ensures.value
    c.loop-at-test.true c.here.invariant)

pub offset_bounds-self-at : goal.offset_bounds-self-at
offset_bounds-self-at c =
    let inside = listed_below _ _ c.deref-at-items.result.now _ c.deref-at-items.ensures.value c.loop-at-test.true
    c.here.invariant in
    let within : slice_index_or c.deref-at-items.result.now c.loop-at.at-index 0 < length c.args.self.now.program.now =
    omega (arith, inside, ap length c.here.view_is, c.requires.here_len) in
    search rules

pub bounds-self-at : goal.bounds-self-at
bounds-self-at c =
    let inside = listed_below _ _ c.deref-at-items.result.now _ c.deref-at-items.ensures.value c.loop-at-test.true
    c.here.invariant in
    omega (arith, inside, ap length c.here.view_is, c.requires.here_len)

pub reach-requires-clause-inside : goal.reach-requires-clause-inside
reach-requires-clause-inside c =
    let inside = listed_below _ _ c.deref-at-items.result.now _ c.deref-at-items.ensures.value c.loop-at-test.true
    c.here.invariant in
    let within : slice_index_or c.deref-at-items.result.now c.loop-at.at-index 0 < length c.args.self.now.program.now =
    omega (arith, inside, ap length c.here.view_is, c.requires.here_len) in
    target_below _ _ _ _ _ c.requires.sound
    (takes_target c.args.self.now.sets.now c.args.self.now.program.now
    (slice_index c.args.self.now.text.now c.args.place) _ _ _ (slice_get-get_or _ _ _ within)
    (sym c.in-Some.ensures))

pub reach-requires-clause-closed : goal.reach-requires-clause-closed
reach-requires-clause-closed c = rw (c.ends_at-ends.ensures.first, c.ends_at-ends.ensures.last)
    c.loop-at.invariant.advancing.closed

pub loop-at-preserved : goal.loop-at-preserved
loop-at-preserved c =
    let inside = listed_below _ _ c.deref-at-items.result.now _ c.deref-at-items.ensures.value c.loop-at-test.true
    c.here.invariant in
    let within : slice_index_or c.deref-at-items.result.now c.loop-at.at-index 0 < length c.args.self.now.program.now =
    omega (arith, inside, ap length c.here.view_is, c.requires.here_len) in
    elim c.if-start-cap.branch [
      | then-start-cap+in-Some+in_ok-reach w ↦ rw w.ahead-is (record {
        len = w.in_ok-reach.ensures.len;
        advancing = advancing_takes _ _ _ _ _ _ _ _ _ _ _ _ _ refl
            (takes_target c.args.self.now.sets.now c.args.self.now.program.now
            (slice_index c.args.self.now.text.now c.args.place) _ _ _ (slice_get-get_or _ _ _ within)
            (sym w.in-Some.ensures))
            c.loop-at.invariant.advancing
            (rw (c.ends_at-ends.ensures.first, c.ends_at-ends.ensures.last, c.least-start.ensures) at
            w.in_ok-reach.ensures.reaches);
      })
      | then-start-cap+in_default w ↦ rw w.ahead-is (record {
        len = c.loop-at.invariant.len;
        advancing = advancing_passes _ _ _ _ _ _ _ _ _ _
            (λ r le takes. none-some r (w.in_default.ensures ∙ target_takes c.args.self.now.sets.now
            c.args.self.now.program.now (slice_index c.args.self.now.text.now c.args.place) _ r _
            (slice_get-get_or _ _ _ within) takes))
            c.loop-at.invariant.advancing;
      })
      | else-start-cap w ↦ rw w.ahead-is (record {
        len = c.loop-at.invariant.len;
        advancing = advancing_passes _ _ _ _ _ _ _ _ _ _ (λ r le takes. omega (
          arith,
          w.if-start-cap.false,
          c.least-start.ensures,
        )) c.loop-at.invariant.advancing;
      })
    ]

pub returns-clause-advances : goal.returns-clause-advances
returns-clause-advances c =
    let listed = subst (λ a. IsListed c.args.here.now a) (sym c.deref-at-items.ensures.value)
    (subst (λ s. IsListed s c.here.inside.active.items) c.here.view_is c.here.invariant) in
    advancing_ends _ _ _ _ _ _ _ _ _ _ c.requires.cap (omega arith) listed c.loop-at.invariant.advancing
