use Rattle.std.proofs.Common.{map, refl, sym, ap, ◌∙◌}
use Rattle.std.proofs.lemmas.Bool.{false≢true}
use Rattle.std.specs.Map.{set_value}
use Rattle.indexmap.specs.IndexMap.{spare}
use Rattle.std.specs.Option.{option_map, option_copied_mut}
use Rattle.awk_streams.specs.Tables.{kind, entry_of, has_name}
use Rattle.awk_streams.proofs.Entries.{input-entries, open_at, set_at, set_same, text_test, with_input-entries}
use Rattle.awk_streams.proofs.streams.Streams.take_line.Goals as goal
use Rattle.awk_streams.proofs.streams.Streams.take_line.Goals.{in-Some-get_index_mut, in-None}

pub returns-clause-taken : goal.returns-clause-taken
returns-clause-taken c =
    let class = kind c.args.name.now.class in
    let text = c.args.name.now.text.now in
    let test = has_name class text in
    let old = c.self.inside.table.entries in
    let at = c.in-Some.ensures.some in
    elim c.match-get_index_mut.branch [
      | in-Some-get_index_mut w ↦ rw (w.result-is, w.self-inside-is, w.room-is, ← c.self.view_is) (λ t.
          let held = w.in-Some-get_index_mut.open.now in
          let found = open_at class text old c.in-Some.place at.0 at.1 c.get_index_mut.ensures.unique at.2 at.3 _
          c.get_index_mut.ensures.value ∙ ap option_copied_mut w.in-Some-get_index_mut.is in
          let new = record held { reader = w.take_line.new.self } in (
            held.reader.input,
            input-entries test class text (text_test class text) old ∙ ap (option_map (λ o. o.reader.input)) found,
            w.take_line.new.self.input,
            w.take_line.ensures.taken t,
            ap (map entry_of) (set_at class text old c.in-Some.place at.0 at.1 new c.get_index_mut.ensures.unique at.2
                at.3)
                ∙ sym (with_input-entries test class text (text_test class text) (λ x. w.take_line.new.self.input) old
                held w.take_line.new.self found refl),
          ))
      | in-None w ↦ rw w.result-is (λ t. absurd (false≢true t))
    ]

pub returns-clause-not_taken : goal.returns-clause-not_taken
returns-clause-not_taken c =
    let class = kind c.args.name.now.class in
    let text = c.args.name.now.text.now in
    let test = has_name class text in
    let old = c.self.inside.table.entries in
    let at = c.in-Some.ensures.some in
    elim c.match-get_index_mut.branch [
      | in-Some-get_index_mut w ↦ rw (w.result-is, w.self-inside-is, ← c.self.view_is) (λ f.
          let held = w.in-Some-get_index_mut.open.now in
          let found = open_at class text old c.in-Some.place at.0 at.1 c.get_index_mut.ensures.unique at.2 at.3 _
          c.get_index_mut.ensures.value ∙ ap option_copied_mut w.in-Some-get_index_mut.is in
          let entries = set_at class text old c.in-Some.place at.0 at.1 (record held { reader = w.take_line.new.self })
          c.get_index_mut.ensures.unique at.2 at.3
          ∙ ap (λ z. set_value test old (record held { reader = z })) (w.take_line.ensures.not_taken f)
          ∙ set_same test old held found in
          ap (λ l. record {
            entries = map entry_of l;
            input = c.self.inside.input.input;
            room =
                spare c.self.inside.table;
          }) entries)
      | in-None w ↦ rw (w.result-is, w.self-inside-is, ← c.self.view_is) (λ f. refl)
    ]
