use Rattle.std.proofs.Common.{◌≡◌, ◌≤◌, ◌<◌, ◌+◌, length, refl, ap, arith}
use Rattle.awk_lib.proofs.Keeping.{apart_from, dense_filled, dense_pushed, outside_pushed, outside_padded, no_mapped}
use Rattle.awk_lib.proofs.elements.Elements.add_dense.Goals as goal

pub returns-then-k-len-clause-added : goal.returns-then-k-len-clause-added
returns-then-k-len-clause-added g c =
    let es = c.args.self.now in
    let within : c.args.k < length es.dense.places.items = omega (
      arith,
      c.if-k-len.true,
      c.len.ensures,
      es.dense.places.ok.0,
    ) in
    (dense_filled es c.args.k c.args.number c.args.value c.fill.new.self.places.items c.requires.absent within
    c.fill.ensures).0

pub returns-then-k-len-clause-apart : goal.returns-then-k-len-clause-apart
returns-then-k-len-clause-apart g c =
    let es = c.args.self.now in
    let within : c.args.k < length es.dense.places.items = omega (
      arith,
      c.if-k-len.true,
      c.len.ensures,
      es.dense.places.ok.0,
    ) in
    apart_from (record es { dense = c.fill.new.self; count = es.count + 1 }) (length es.dense.places.items)
    (dense_filled es c.args.k c.args.number c.args.value c.fill.new.self.places.items c.requires.absent within
    c.fill.ensures).2 c.requires.apart.few c.requires.apart.outside

pub returns-in_err-pad-clause-apart : goal.returns-in_err-pad-clause-apart
returns-in_err-pad-clause-apart g c =
    let es = c.args.self.now in
    let now = c.pad.new.self.places in
    let n = length now.items in
    let beyond : length es.dense.places.items ≤ c.args.k = omega (
      arith,
      c.if-k-len.false,
      c.len.ensures,
      es.dense.places.ok.0,
    ) in
    let low : length es.dense.places.items ≤ n = omega (arith, c.pad.ensures.at_least, now.ok.0, es.dense.places.ok.0)
    in
    let high : n ≤ c.args.k = omega (arith, c.pad.ensures.at_most, now.ok.0) in
    apart_from (record es { dense = c.pad.new.self }) n refl (omega (arith, high, c.requires.small))
    (outside_padded es c.args.k n c.requires.apart (c.requires.near beyond) low high)

pub returns-in_err-push-clause-apart : goal.returns-in_err-push-clause-apart
returns-in_err-push-clause-apart g c =
    let es = c.args.self.now in
    let now = c.pad.new.self.places in
    let n = length now.items in
    let beyond : length es.dense.places.items ≤ c.args.k = omega (
      arith,
      c.if-k-len.false,
      c.len.ensures,
      es.dense.places.ok.0,
    ) in
    let low : length es.dense.places.items ≤ n = omega (arith, c.pad.ensures.at_least, now.ok.0, es.dense.places.ok.0)
    in
    let high : n ≤ c.args.k = omega (arith, c.pad.ensures.at_most, now.ok.0) in
    apart_from (record es { dense = c.push.new.self }) n (ap length c.in_err-push.ensures.err)
    (omega (arith, high, c.requires.small))
    (outside_padded es c.args.k n c.requires.apart (c.requires.near beyond) low high)

pub returns-clause-place : goal.returns-clause-place
returns-clause-place g c =
    let es = c.args.self.now in
    let now = c.pad.new.self.places in
    let len : length now.items ≡ c.args.k = omega (arith, c.in_ok-pad.ensures.ok, now.ok.0) in (
      refl,
      (dense_pushed es c.args.k c.args.number c.args.value now.items c.push.new.self.places.items
          (c.pad.ensures.rows 0) len c.in_ok-push.ensures.ok).1,
    )

pub returns-clause-added : goal.returns-clause-added
returns-clause-added g c =
    let es = c.args.self.now in
    let now = c.pad.new.self.places in
    let len : length now.items ≡ c.args.k = omega (arith, c.in_ok-pad.ensures.ok, now.ok.0) in
    (dense_pushed es c.args.k c.args.number c.args.value now.items c.push.new.self.places.items (c.pad.ensures.rows 0)
    len c.in_ok-push.ensures.ok).0

pub returns-clause-last : goal.returns-clause-last
returns-clause-last g c =
    let es = c.args.self.now in
    let now = c.pad.new.self.places in
    let len : length now.items ≡ c.args.k = omega (arith, c.in_ok-pad.ensures.ok, now.ok.0) in
    λ e. (dense_pushed es c.args.k c.args.number c.args.value now.items c.push.new.self.places.items
    (c.pad.ensures.rows 0) len c.in_ok-push.ensures.ok).3 (no_mapped es (c.is_empty.ensures.0 e))

pub returns-clause-apart : goal.returns-clause-apart
returns-clause-apart g c =
    let es = c.args.self.now in
    let k = c.args.k in
    let now = c.pad.new.self.places in
    let len : length now.items ≡ k = omega (arith, c.in_ok-pad.ensures.ok, now.ok.0) in
    let beyond : length es.dense.places.items ≤ k = omega (arith, c.if-k-len.false, c.len.ensures, es.dense.places.ok.0)
    in
    apart_from (record es { dense = c.push.new.self; count = es.count + 1 }) (k + 1)
    (dense_pushed es k c.args.number c.args.value now.items c.push.new.self.places.items (c.pad.ensures.rows 0) len
    c.in_ok-push.ensures.ok).2
    (omega (arith, c.requires.small)) (outside_pushed es k c.requires.apart c.requires.absent (c.requires.near beyond))
