use Rattle.std.proofs.Common.{◌≡◌, ◌<◌, map, None, sym, ap, ◌∙◌}
use Rattle.std.specs.Map.{lookup}
use Rattle.indexmap.specs.IndexMap.{spare}
use Rattle.awk_streams.specs.Tables.{kind, entry_of}
use Rattle.awk_streams.specs.contracts.streams.KeptNamePartialEq.TheImpl.{eq-value}
use Rattle.awk_streams.proofs.Entries.{find-entries, insert-entries, kept_test, none_of, on_ok}
use Rattle.awk_streams.proofs.streams.Streams.add.Goals as goal

pub returns-clause-entries : goal.returns-clause-entries
returns-clause-entries c =
    let n = c.args.name in
    let es = c.self.inside.table.entries in
    let room : 0 < spare c.self.inside.table = rw (← c.self.view_is) at c.requires.room in
    let new = rw (← c.self.view_is) at c.requires.new in
    let none : lookup (eq-value.it n) es ≡ None =
    none_of (λ o. o.number) _ (sym (find-entries (eq-value.it n) (kind n.class) n.text.items (kept_test n) es)
    ∙ new) in
    rw (← c.self.view_is, ← ap (λ r. r.input) c.new-reader.ensures)
    (ap (map entry_of) (on_ok c.insert.result (c.insert.ensures.succeeds room) c.insert.ensures.entries)
    ∙ insert-entries eq-value.it n (record { number = c.args.number; reader = c.new-reader.result }) es none)
