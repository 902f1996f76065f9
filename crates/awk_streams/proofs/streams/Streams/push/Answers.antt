use Rattle.std.proofs.Common.{map, false, ◌++◌, sym, ap, ◌∙◌}
use Rattle.std.proofs.lemmas.Result.{on_ok_weaker, on_err_weaker}
use Rattle.std.specs.Option.{option_map, option_copied_mut}
use Rattle.awk_streams.specs.Tables.{kind, entry_of, has_name}
use Rattle.awk_streams.proofs.Entries.{input-entries, not_gone, open_at, same-entries, set_at, text_test}
use Rattle.awk_streams.proofs.Entries.{with_input-absent, with_input-entries}
use Rattle.awk_streams.proofs.streams.Streams.push.Goals as goal
use Rattle.awk_streams.proofs.streams.Streams.push.Goals.{in-Some-get_index_mut, in-None}

pub push-requires : goal.push-requires
push-requires c =
    let class = kind c.args.name.now.class in
    let text = c.args.name.now.text.now in
    let test = has_name class text in
    let old = c.self.inside.table.entries in
    let at = c.in-Some.ensures.some in
    c.requires c.in-Some-get_index_mut.open.now.reader.input
    (rw (← c.self.view_is) (input-entries test class text (text_test class text) old
    ∙ ap (option_map (λ o. o.reader.input))
    (open_at class text old c.in-Some.place at.0 at.1 c.get_index_mut.ensures.unique at.2 at.3 _
    c.get_index_mut.ensures.value ∙ ap option_copied_mut c.in-Some-get_index_mut.is)))

pub returns-in_default-clause-ok : goal.returns-in_default-clause-ok
returns-in_default-clause-ok c =
    let class = kind c.args.name.now.class in
    let text = c.args.name.now.text.now in
    let test = has_name class text in
    let old = c.self.inside.table.entries in
    rw (← c.self.view_is)
    (sym (with_input-absent test class text (text_test class text)
    (λ i. record { unread = i.unread ++ c.args.bytes.now; ended = false }) old
    (c.place_of.ensures.none c.in_default.is)))

pub returns-clause-ok : goal.returns-clause-ok
returns-clause-ok c =
    let class = kind c.args.name.now.class in
    let text = c.args.name.now.text.now in
    let test = has_name class text in
    let old = c.self.inside.table.entries in
    let at = c.in-Some.ensures.some in
    elim c.match-get_index_mut.branch [
      | in-Some-get_index_mut w ↦ rw (w.result-is, w.self-inside-is, ← c.self.view_is) (on_ok_weaker w.push.result
          (λ added.
          let held = w.in-Some-get_index_mut.open.now in
          let found = open_at class text old c.in-Some.place at.0 at.1 c.get_index_mut.ensures.unique at.2 at.3 _
          c.get_index_mut.ensures.value ∙ ap option_copied_mut w.in-Some-get_index_mut.is in
          ap (map entry_of) (set_at class text old c.in-Some.place at.0 at.1 (record held { reader = w.push.new.self })
          c.get_index_mut.ensures.unique at.2 at.3)
          ∙ sym (with_input-entries test class text (text_test class text)
          (λ i. record { unread = i.unread ++ c.args.bytes.now; ended = false }) old held w.push.new.self found
          added))
          w.push.ensures.ok)
      | in-None w ↦ absurd (not_gone class text old c.in-Some.place at.0 at.1 at.2 _ c.get_index_mut.ensures.value
          (ap option_copied_mut w.in-None.is))
    ]

pub returns-clause-err : goal.returns-clause-err
returns-clause-err c =
    let class = kind c.args.name.now.class in
    let text = c.args.name.now.text.now in
    let test = has_name class text in
    let old = c.self.inside.table.entries in
    let at = c.in-Some.ensures.some in
    elim c.match-get_index_mut.branch [
      | in-Some-get_index_mut w ↦ rw (w.result-is, w.self-inside-is, ← c.self.view_is) (on_err_weaker w.push.result
          (λ same.
          let held = w.in-Some-get_index_mut.open.now in
          let found = open_at class text old c.in-Some.place at.0 at.1 c.get_index_mut.ensures.unique at.2 at.3 _
          c.get_index_mut.ensures.value ∙ ap option_copied_mut w.in-Some-get_index_mut.is in
          ap (map entry_of) (set_at class text old c.in-Some.place at.0 at.1 (record held { reader = w.push.new.self })
          c.get_index_mut.ensures.unique at.2 at.3)
          ∙ same-entries test old held w.push.new.self found same)
          w.push.ensures.err)
      | in-None w ↦ rw w.result-is tt
    ]
