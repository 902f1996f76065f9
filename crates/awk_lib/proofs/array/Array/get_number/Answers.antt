use Rattle.std.proofs.Common.{Some, refl, sym, ap, ◌∙◌}
use Rattle.std.specs.Fmt.{decimal}
use Rattle.awk_lib.proofs.Keeping.{missing_element, value_there}
use Rattle.awk_lib.proofs.array.Array.get_number.Goals as goal

pub returns-in_err-place : goal.returns-in_err-place
returns-in_err-place g c =
    rw (c.from_residual.ensures, ← c.self.view_is)
    (sym (missing_element c.self.inside.elements (decimal c.args.number) c.self.invariant.numbered.keys
    (c.in_err-place.ensures.none refl)))

pub returns : goal.returns
returns g c =
    let h = c.in_ok-place.ensures.some in
    rw (← c.self.view_is) (ap Some (c.value.ensures h.0 h.1)
    ∙ sym (value_there c.self.inside.elements c.in_ok-place.place h.0 (decimal c.args.number) h.1 h.2
    c.self.invariant.numbered.keys))
