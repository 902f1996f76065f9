use Rattle.std.proofs.Common.{◌∙◌, ap, sym}
use Rattle.std.specs.Map.{lookup}
use Rattle.std.specs.Str.{bytes_eq}
use Rattle.awk_resolve.proofs.ShortTables.{in_front, behind}
use Rattle.awk_resolve.proofs.text_tables.ShortTable.get.Goals as goal

pub returns-in-Some : goal.returns-in-Some
returns-in-Some g c =
    rw (← c.self.view_is)
    (sym (in_front c.args.text.now c.self.inside.few.items c.self.inside.more c.in-Some.value.now
    (sym (c.in-Some.ensures ∙ ap (lookup (bytes_eq c.args.text.now)) c.as_slice.ensures.value))))

pub returns-in-None : goal.returns-in-None
returns-in-None g c =
    rw (← c.self.view_is)
    (c.get.ensures ∙ sym (behind c.args.text.now c.self.inside.few.items c.self.inside.more
    (sym (c.in-None.ensures ∙ ap (lookup (bytes_eq c.args.text.now)) c.as_slice.ensures.value))))
