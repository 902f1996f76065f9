use Rattle.std.proofs.Common.{◌≡◌, get_or, sym, ◌∙◌, arith}
use Rattle.std.proofs.lemmas.List.{get_or_default}
use Rattle.awk_ere.proofs.Making.{made_there, cell_made}
use Rattle.awk_ere.proofs.states.Maker.cell.Goals as goal

pub returns-then-is_at-clause-known : goal.returns-then-is_at-clause-known
returns-then-is_at-clause-known c =
    let targets = rw c.deref.ensures.value at c.in_ok-find_targets.ensures in
    let there = rw c.deref-3.ensures.value at (c.is_at.ensures c.if-is_at.true) in
    let by = c.requires.made.by in
    let kernel = c.index.result.now in
    let n : c.index-then-is_at.result.now ≡ get_or c.args.states.now.numbers.items kernel 0 =
    c.index-then-is_at.ensures ∙ sym (get_or_default c.args.states.now.numbers.items kernel 0
    c.index-then-is_at.result.now (omega (arith, there.0, by.len))) in
    cell_made _ _ _ _ _ _ _ c.requires.sound targets (made_there _ _ _ _ _ _ _ there.0 there.1 n by)

pub returns-clause-known : goal.returns-clause-known
returns-clause-known c =
    cell_made _ _ _ _ _ _ _ c.requires.sound (rw c.deref.ensures.value at c.in_ok-find_targets.ensures)
    c.in_ok-state.ensures.state
