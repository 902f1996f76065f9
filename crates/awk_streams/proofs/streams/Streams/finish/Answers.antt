use Rattle.std.proofs.Common.{map, true, sym, ap, ◌∙◌}
use Rattle.std.specs.Option.{option_copied_mut}
use Rattle.awk_streams.specs.Tables.{kind, entry_of}
use Rattle.awk_streams.specs.contracts.streams.StreamNameEquivalentKeptName.TheImpl.{equivalent-value}
use Rattle.awk_streams.proofs.Entries.{name_test, with_input-absent, with_input-entries}
use Rattle.awk_streams.proofs.streams.Streams.finish.Goals as goal
use Rattle.awk_streams.proofs.streams.Streams.finish.Goals.{in-Some, in_default}

pub returns-clause-entries : goal.returns-clause-entries
returns-clause-entries c =
    let n = c.args.name.now in
    let old = c.self.inside.table.entries in
    elim c.match-get_mut.branch [
      | in-Some w ↦ rw (w.self-inside-is, ← c.self.view_is)
          (ap (map entry_of) (c.get_mut.follows.holds (record w.in-Some.open.now { reader = w.finish.new.self })).0
          ∙ sym (with_input-entries (equivalent-value.it n) (kind n.class) n.text.now (name_test n)
          (λ i. record { unread = i.unread; ended = true }) old w.in-Some.open.now w.finish.new.self
          (sym c.get_mut.ensures.value ∙ ap option_copied_mut w.in-Some.is) w.finish.ensures.input))
      | in_default w ↦ rw (w.self-inside-is, ← c.self.view_is)
          (ap (λ t. map entry_of t.entries) c.get_mut.follows.holds-at-none
          ∙ sym (with_input-absent (equivalent-value.it n) (kind n.class) n.text.now (name_test n)
          (λ i. record { unread = i.unread; ended = true }) old (sym c.get_mut.ensures.value
          ∙ ap option_copied_mut w.in_default.is)))
    ]
