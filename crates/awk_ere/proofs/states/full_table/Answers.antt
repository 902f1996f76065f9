use Rattle.std.proofs.Common.{◌≡◌, length, arith}
use Rattle.awk_ere.proofs.Gathering.{is_table, dead_later, later_then, begin_later}
use Rattle.awk_ere.proofs.states.full_table.Goals as goal

pub returns : goal.returns
returns c =
    let n : c.len.result ≡ length c.begin-2.new.cells.items = omega (arith, c.len.ensures, c.begin-2.new.cells.ok) in
    let m : c.len-2.result ≡ c.len.result = omega (arith, c.len.ensures, c.len-2.ensures) in
    let scan = c.in_ok-scan.ensures in
    record {
      lists = c.begin-2.new.states.lists;
      table = is_table _ _ _ _ _ _ _ n scan.few
          (dead_later _ _ (later_then _ _ _ c.in_ok-entry.ensures.later scan.later) c.in_ok-states.ensures.dead)
          scan.rows
          (c.in_ok-accepts.ensures)
          (rw m at c.in_ok-ends.ensures);
      entries = begin_later _ _ _ _ _ scan.later c.in_ok-entry.ensures.begin;
      scans = scan.begin;
      heads = rw (c.deref.ensures.value, c.deref-2.ensures.value) at c.heads_of-heads.ensures.heads;
      spread = c.heads_of-heads.ensures.spread;
    }
