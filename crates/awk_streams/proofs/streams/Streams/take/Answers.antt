use Rattle.std.proofs.Common.{◌≡◌, map, refl, sym, ap, ◌∙◌}
use Rattle.std.proofs.lemmas.Result.{on_err_weaker}
use Rattle.std.specs.Map.{set_value}
use Rattle.std.specs.Option.{option_map, option_copied_mut}
use Rattle.awk_streams.specs.Tables.{kind, entry_of, has_name}
use Rattle.awk_streams.proofs.Entries.{if_err, if_ok, input-entries, not_gone, open_at, set_at, set_same, some_of}
use Rattle.awk_streams.proofs.Entries.{text_test, with_input-entries}
use Rattle.awk_streams.proofs.streams.Streams.take.Goals as goal

pub returns-in_default-clause-ok : goal.returns-in_default-clause-ok
returns-in_default-clause-ok c =
    let class = kind c.args.name.now.class in
    let text = c.args.name.now.text.now in
    let test = has_name class text in
    let old = c.self.inside.table.entries in
    let input = input-entries test class text (text_test class text) old in
    rw (← c.self.view_is) (λ i e.
    let f = sym (ap (option_map (λ o. o.reader.input)) (c.place_of.ensures.none c.in_default.is)) ∙ sym input ∙ e in
    absurd (cc))

pub returns-in-Some-get_index_mut-clause-ok : goal.returns-in-Some-get_index_mut-clause-ok
returns-in-Some-get_index_mut-clause-ok c =
    let class = kind c.args.name.now.class in
    let text = c.args.name.now.text.now in
    let test = has_name class text in
    let old = c.self.inside.table.entries in
    let at = c.in-Some.ensures.some in
    let held = c.in-Some-get_index_mut.open.now in
    let found = open_at class text old c.in-Some.place at.0 at.1 c.get_index_mut.ensures.unique at.2 at.3 _
    c.get_index_mut.ensures.value ∙ ap option_copied_mut c.in-Some-get_index_mut.is in
    let input = input-entries test class text (text_test class text) old in
    rw (← c.self.view_is) (if_ok c.take.result
    (λ taken p i e.
    let same : held.reader.input ≡ i = some_of _ i (sym (ap (option_map (λ o. o.reader.input)) found) ∙ sym input ∙ e)
    in
    rw (← same) (
      c.take.new.self.input,
      p,
      ap (map entry_of) (set_at class text old c.in-Some.place at.0 at.1 (record held { reader = c.take.new.self })
          c.get_index_mut.ensures.unique at.2 at.3)
          ∙ sym (with_input-entries test class text (text_test class text) (λ x. c.take.new.self.input) old held
          c.take.new.self found refl),
    ))
    c.take.ensures.ok)

pub returns-in-None-clause-ok : goal.returns-in-None-clause-ok
returns-in-None-clause-ok c =
    let class = kind c.args.name.now.class in
    let text = c.args.name.now.text.now in
    let old = c.self.inside.table.entries in
    let at = c.in-Some.ensures.some in
    absurd (not_gone class text old c.in-Some.place at.0 at.1 at.2 _ c.get_index_mut.ensures.value
    (ap option_copied_mut c.in-None.is))

pub returns-in-Some-get_index_mut-clause-err : goal.returns-in-Some-get_index_mut-clause-err
returns-in-Some-get_index_mut-clause-err c =
    let class = kind c.args.name.now.class in
    let text = c.args.name.now.text.now in
    let test = has_name class text in
    let old = c.self.inside.table.entries in
    let at = c.in-Some.ensures.some in
    let held = c.in-Some-get_index_mut.open.now in
    let found = open_at class text old c.in-Some.place at.0 at.1 c.get_index_mut.ensures.unique at.2 at.3 _
    c.get_index_mut.ensures.value ∙ ap option_copied_mut c.in-Some-get_index_mut.is in
    rw (← c.self.view_is) (on_err_weaker c.take.result
    (λ same. ap (map entry_of) (set_at class text old c.in-Some.place at.0 at.1
    (record held { reader = c.take.new.self }) c.get_index_mut.ensures.unique at.2 at.3
    ∙ ap (λ z. set_value test old (record held { reader = z })) same
    ∙ set_same test old held found))
    c.take.ensures.err)

pub returns-in-Some-get_index_mut-clause-fault : goal.returns-in-Some-get_index_mut-clause-fault
returns-in-Some-get_index_mut-clause-fault c =
    let class = kind c.args.name.now.class in
    let text = c.args.name.now.text.now in
    let test = has_name class text in
    let old = c.self.inside.table.entries in
    let at = c.in-Some.ensures.some in
    let held = c.in-Some-get_index_mut.open.now in
    let found = open_at class text old c.in-Some.place at.0 at.1 c.get_index_mut.ensures.unique at.2 at.3 _
    c.get_index_mut.ensures.value ∙ ap option_copied_mut c.in-Some-get_index_mut.is in
    let input = input-entries test class text (text_test class text) old in
    rw (← c.self.view_is) (if_err c.take.result
    (λ fault p i e.
    let same : held.reader.input ≡ i = some_of _ i (sym (ap (option_map (λ o. o.reader.input)) found) ∙ sym input ∙ e)
    in
    rw (← same) p)
    c.take.ensures.fault)
