use Rattle.std.proofs.Common.{◌<◌, length, arith}
use Rattle.std.proofs.lemmas.Option.{IfSome_then}
use Rattle.awk_lib.proofs.Digits.{is_zero, is_positive, key_of_digits, key_zero, outside_long, outside_empty}
use Rattle.awk_lib.proofs.Digits.{outside_zero, outside_other}
use Rattle.awk_lib.proofs.slot.slot_of.Goals as goal

pub returns-then-is_empty-clause-none : goal.returns-then-is_empty-clause-none
returns-then-is_empty-clause-none c = λ _. outside_empty c.args.key.now
    (is_zero (length c.args.key.now) c.is_empty.result c.is_empty.ensures c.if-is_empty.true)

pub returns-then-key-gt7-clause-none : goal.returns-then-key-gt7-clause-none
returns-then-key-gt7-clause-none c = λ _. outside_long c.args.key.now c.if-key-gt7.true

pub returns-then-key-ne48-clause-some : goal.returns-then-key-ne48-clause-some
returns-then-key-ne48-clause-some c =
    let ds = c.args.key.now in
    let some = is_positive (length ds) c.is_empty.result c.is_empty.ensures c.if-is_empty.false in
    IfSome_then c.number_of.result c.number_of.ensures.some (λ k h. key_of_digits ds k h.0 h.1 some c.if-key-gt7.false
    c.if-key-ne48.true)

pub returns-then-key-ne48-clause-none : goal.returns-then-key-ne48-clause-none
returns-then-key-ne48-clause-none c = λ e. outside_other c.args.key.now (c.number_of.ensures.none e)

pub returns-then-key-eq1-clause-some : goal.returns-then-key-eq1-clause-some
returns-then-key-eq1-clause-some c = key_zero c.args.key.now c.if-key-eq1.true c.if-key-ne48.false

pub returns-else-key-eq1-clause-none : goal.returns-else-key-eq1-clause-none
returns-else-key-eq1-clause-none c =
    let ds = c.args.key.now in
    let some = is_positive (length ds) c.is_empty.result c.is_empty.ensures c.if-is_empty.false in
    let differs = c.if-key-eq1.false in
    let more : 1 < length ds = omega (arith, some, differs) in
    λ _. outside_zero ds c.if-key-ne48.false more
