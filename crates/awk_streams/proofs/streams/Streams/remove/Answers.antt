use Rattle.std.proofs.Common.{map, sym, ap, ◌∙◌}
use Rattle.awk_streams.specs.Tables.{kind, entry_of}
use Rattle.awk_streams.specs.contracts.streams.StreamNameEquivalentKeptName.TheImpl.{equivalent-value}
use Rattle.awk_streams.proofs.Entries.{without-entries, name_test}
use Rattle.awk_streams.proofs.streams.Streams.remove.Goals as goal

pub returns-clause-entries : goal.returns-clause-entries
returns-clause-entries c =
    let n = c.args.name.now in
    rw (← c.self.view_is) (ap (map entry_of) c.shift_remove-removed.ensures.entries
    ∙ sym (without-entries (equivalent-value.it n) (kind n.class) n.text.now (name_test n) c.self.inside.table.entries))
