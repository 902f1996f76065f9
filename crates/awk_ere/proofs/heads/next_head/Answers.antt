use Rattle.std.proofs.Common.{◌-◌, arith}
use Rattle.awk_ere.proofs.Beginnings.{marks_long, all_off, off_before, first_inside, none_marked, none_joined}
use Rattle.awk_ere.proofs.heads.next_head.Goals as goal

pub returns-then-found-ne0-clause-none : goal.returns-then-found-ne0-clause-none
returns-then-found-ne0-clause-none c =
    let place = c.loop-place.place in
    let found = c.marks_at-found in
    let long = marks_long c.args.heads.now c.args.text.now place (omega arith) in
    let inside = first_inside _ (omega (arith, long)) found.result found.ensures c.if-found-ne0.true in
    none_marked c.args.heads.now c.args.text.now place (omega arith) c.args.from place _ (omega arith)
    (omega (arith, inside, long)) c.loop-place.invariant.none
    (λ j after lt. off_before _ (omega (arith, long)) found.result found.ensures c.if-found-ne0.true (j - place)
    (omega arith))

pub returns-then-found-ne0-clause-inside : goal.returns-then-found-ne0-clause-inside
returns-then-found-ne0-clause-inside c =
    let place = c.loop-place.place in
    let found = c.marks_at-found in
    let long = marks_long c.args.heads.now c.args.text.now place (omega arith) in
    let inside = first_inside _ (omega (arith, long)) found.result found.ensures c.if-found-ne0.true in
    (omega (arith, c.loop-place.invariant.after), omega (arith, inside, long))

pub loop-place-preserved : goal.loop-place-preserved
loop-place-preserved c =
    let place = c.loop-place.place in
    let found = c.marks_at-found in
    let long = marks_long c.args.heads.now c.args.text.now place (omega arith) in
    record {
      after = omega (arith, c.loop-place.invariant.after);
      within = omega arith;
      none = none_marked c.args.heads.now c.args.text.now place (omega arith) c.args.from place _ (omega arith)
          (omega arith) c.loop-place.invariant.none
          (λ j after lt. all_off _ (omega (arith, long)) (omega (arith, found.ensures, c.if-found-ne0.false))
          (j - place) (omega (arith, long)));
    }

pub returns-clause-none : goal.returns-clause-none
returns-clause-none c = none_joined c.args.heads.now c.args.text.now c.args.from c.loop-place.place _
    c.loop-place.invariant.none c.last_head.ensures.none
