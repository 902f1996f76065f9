use Rattle.std.proofs.Common.{sym, ap, ◌∙◌, is_some}
use Rattle.std.specs.Map.{lookup}
use Rattle.std.specs.Map.Iter.{deref_pair}
use Rattle.std.specs.Option.{option_map}
use Rattle.awk_streams.specs.Tables.{kind, has_name}
use Rattle.awk_streams.proofs.Entries.{found_if, none_from}
use Rattle.awk_streams.proofs.streams.place_of.Goals as goal

pub returns-then-equivalent-clause-some : goal.returns-then-equivalent-clause-some
returns-then-equivalent-clause-some c = (
  c.in-Some.held.now,
  c.in-Some.field-0-1.now,
  sym c.get_index.ensures.entry
      ∙ ap (option_map deref_pair) c.in-Some.is,
  sym c.equivalent.ensures ∙ c.if-equivalent.true,
)

pub returns-clause-some : goal.returns-clause-some
returns-clause-some c =
    let n = c.args.name.now in
    found_if (has_name (kind n.class) n.text.now) c.args.table.now.entries c.get_index_of.result
    c.get_index_of.ensures.index

pub returns-clause-none : goal.returns-clause-none
returns-clause-none c = λ none.
    let n = c.args.name.now in
    none_from (lookup (has_name (kind n.class) n.text.now) c.args.table.now.entries) (sym (ap is_some none)
    ∙ c.get_index_of.ensures.found)
