use Rattle.std.proofs.Common.{◌≡◌, ◌∙◌, true, sym, arith}
use Rattle.std.specs.Str.{bytes_eq}
use Rattle.awk_resolve.proofs.ShortTables.{here}
use Rattle.awk_resolve.proofs.text_tables.found.Goals as goal

pub returns-then-eq : goal.returns-then-eq
returns-then-eq g c =
    let x = c.args.text.now in
    let e = c.entry-item.result in
    let same : bytes_eq x e.0 ≡ true = grind arith in
    sym (c.loop-entry.invariant ∙ here x c.args.few.now c.loop-entry.entry-index e (omega arith) c.entry-item.is same)
