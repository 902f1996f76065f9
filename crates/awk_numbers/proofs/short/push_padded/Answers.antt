use Rattle.std.proofs.Common.{◌≡◌, ◌-◌, length, ap, arith, ◌∙◌}
use Rattle.awk_numbers.proofs.Room.{added}
use Rattle.awk_numbers.proofs.SixDigits.{at_least, behind_zeros, both_fit, no_more}
use Rattle.awk_numbers.proofs.Sizes.{text}
use Rattle.awk_numbers.proofs.short.push_padded.Goals as goal

pub returns-clause-value : goal.returns-clause-value
returns-clause-value c =
    let old = c.args.out.now.items in
    let zeros = c.zeros.out.items in
    let own = c.own_digits-own.result.now in
    let is : own ≡ text c.args.number = c.own_digits-own.ensures ∙ ap text c.from.ensures in
    let turn : c.zeros._turn ≡ c.args.least - length own = omega (arith, c.saturating_sub-turn-end.ensures) in
    behind_zeros old zeros own c.args.number c.args.least c.zeros._turn c.zeros.invariant turn is _
    (added c.try_extend_from_slice.result zeros own _ 16 c.try_extend_from_slice.ensures.ok
    c.try_extend_from_slice.ensures.variant.1 (both_fit old zeros own c.args.number c.args.least c.zeros._turn
    c.zeros.invariant turn is c.requires.number c.requires.room c.requires.least))

pub returns-clause-least : goal.returns-clause-least
returns-clause-least c =
    let old = c.args.out.now.items in
    let zeros = c.zeros.out.items in
    let own = c.own_digits-own.result.now in
    let is : own ≡ text c.args.number = c.own_digits-own.ensures ∙ ap text c.from.ensures in
    let turn : c.zeros._turn ≡ c.args.least - length own = omega (arith, c.saturating_sub-turn-end.ensures) in
    at_least old zeros own c.args.number c.args.least c.zeros._turn c.zeros.invariant turn is _
    (added c.try_extend_from_slice.result zeros own _ 16 c.try_extend_from_slice.ensures.ok
    c.try_extend_from_slice.ensures.variant.1 (both_fit old zeros own c.args.number c.args.least c.zeros._turn
    c.zeros.invariant turn is c.requires.number c.requires.room c.requires.least))

pub returns-clause-most : goal.returns-clause-most
returns-clause-most c =
    let old = c.args.out.now.items in
    let zeros = c.zeros.out.items in
    let own = c.own_digits-own.result.now in
    let is : own ≡ text c.args.number = c.own_digits-own.ensures ∙ ap text c.from.ensures in
    let turn : c.zeros._turn ≡ c.args.least - length own = omega (arith, c.saturating_sub-turn-end.ensures) in
    no_more old zeros own c.args.number c.args.least c.zeros._turn c.zeros.invariant turn is _
    (added c.try_extend_from_slice.result zeros own _ 16 c.try_extend_from_slice.ensures.ok
    c.try_extend_from_slice.ensures.variant.1 (both_fit old zeros own c.args.number c.args.least c.zeros._turn
    c.zeros.invariant turn is c.requires.number c.requires.room c.requires.least))
