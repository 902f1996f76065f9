use Rattle.std.proofs.Common.{sym, ap, ◌∙◌}
use Rattle.std.specs.Str.{bytes_eq}
use Rattle.awk_lib.proofs.elements.Elements.is_at.Goals as goal

pub returns-in-Some : goal.returns-in-Some
returns-in-Some g c = λ e. (
  c.in-Some.there.now,
  c.in-Some.field-0-1.now,
  sym c.in-Some.ensures.entry,
  ap (bytes_eq c.args.key.now) (sym c.bytes.ensures) ∙ sym c.is_same.ensures ∙ e,
)
