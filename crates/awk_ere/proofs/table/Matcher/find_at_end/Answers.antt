use Rattle.std.proofs.Common.{◌<◌, length, arith}
use Rattle.awk_ere.proofs.Seeking.{end_found, end_none}
use Rattle.awk_ere.proofs.table.Matcher.find_at_end.Goals as goal

pub returns-then-ends-state : goal.returns-then-ends-state
returns-then-ends-state c =
    let is = c.self.invariant.1 in
    let flag = rw c.as_slice-ends.ensures.value at c.if-ends-state.true in
    let known : c.self.inside.table.entry.later < length c.self.inside.table.cells.items =
    omega (arith, rw c.as_slice-ends.ensures.value at c.if-state-ends.false, is.built.table.end.len) in
    rw (← c.self.view_is) (end_found _ _ _ is.built.lists _ _ _ _ _ is.built.table is.built.entries is.machine.inside
    (omega arith) known flag)

pub returns-else-ends-state : goal.returns-else-ends-state
returns-else-ends-state c =
    let is = c.self.invariant.1 in
    let flag = rw c.as_slice-ends.ensures.value at c.if-ends-state.false in
    let known : c.self.inside.table.entry.later < length c.self.inside.table.cells.items =
    omega (arith, rw c.as_slice-ends.ensures.value at c.if-state-ends.false, is.built.table.end.len) in
    rw (← c.self.view_is) (end_none _ _ _ is.built.lists _ _ _ _ _ is.built.table is.built.entries is.machine.inside
    (omega arith) known flag)
