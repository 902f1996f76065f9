use Rattle.std.proofs.Common.{sym, ap, ◌∙◌, is_some, true≢false}
use Rattle.std.proofs.lemmas.Option.{same_Some}
use Rattle.std.specs.Map.Iter.{deref_pair}
use Rattle.std.specs.Option.{option_map}
use Rattle.awk_streams.specs.Tables.{kind, has_name}
use Rattle.awk_streams.proofs.Entries.{find-entries, found_by, text_test}
use Rattle.awk_streams.proofs.streams.Streams.number.Goals as goal

pub returns-in_err-place : goal.returns-in_err-place
returns-in_err-place c =
    let class = kind c.args.name.now.class in
    let text = c.args.name.now.text.now in
    rw (c.from_residual.ensures, ← c.self.view_is)
    (sym (find-entries (has_name class text) class text (text_test class text) c.self.inside.table.entries
    ∙ ap (option_map (λ o. o.number)) (c.place_of.ensures.none c.in_err-place.was)))

pub returns-in-Some : goal.returns-in-Some
returns-in-Some c =
    let class = kind c.args.name.now.class in
    let text = c.args.name.now.text.now in
    let at = c.in_ok-place.ensures.some in
    let held = c.in-Some.field-0-0.now in
    let same = same_Some (at.0, at.1) (held, c.in-Some.open.now) (sym at.2 ∙ sym c.get_index.ensures.entry
    ∙ ap (option_map deref_pair) c.in-Some.is) in
    let hit = sym (ap (λ x. has_name class text x.0) same) ∙ at.3 in
    rw (← c.self.view_is)
    (sym (find-entries (has_name class text) class text (text_test class text) c.self.inside.table.entries
    ∙ ap (option_map (λ o. o.number)) (found_by class text held hit c.self.inside.table.entries
    ∙ c.in-Some.ensures.value)))

pub returns-in-None : goal.returns-in-None
returns-in-None c =
    let gone = sym c.in_ok-place.ensures.some.2 ∙ sym c.get_index.ensures.entry
    ∙ ap (option_map deref_pair) c.in-None.is in
    absurd (true≢false (ap is_some gone))
