use Rattle.std.proofs.Common.{Some, inl, refl, sym, ap, ◌∙◌}
use Rattle.std.specs.Fmt.{decimal}
use Rattle.awk_lib.specs.Kept.{rows_of}
use Rattle.awk_lib.proofs.Keeping.{missing_element, value_there, value_kept, value_shown}
use Rattle.awk_lib.proofs.Rows.{same_shown}
use Rattle.awk_lib.proofs.array.Array.get_number_mut.Goals as goal

pub returns-in_err-place : goal.returns-in_err-place
returns-in_err-place g c =
    let es = c.self.inside.elements in
    rw (c.from_residual.ensures, ← c.self.view_is) (
      refl,
      record {
        writes_back = tt;
        value = sym (missing_element es (decimal c.args.number) c.self.invariant.numbered.keys
            (c.in_err-place.ensures.none refl));
        same = λ v. same_shown (rows_of es) (decimal c.args.number) v c.self.invariant.numbered.keys;
      },
    )

pub invariant_of-self-lent : goal.invariant_of-self-lent
invariant_of-self-lent g c =
    let h = c.in_ok-place.ensures.some in
    λ w. value_kept c.self.inside.elements c.in_ok-place.place h.0 (decimal c.args.number) h.1 h.2 c.self.inside.settled
    c.self.inside.next w c.self.invariant

pub returns : goal.returns
returns g c =
    let es = c.self.inside.elements in
    let key = (decimal c.args.number) in
    let place = c.in_ok-place.place in
    let h = c.in_ok-place.ensures.some in
    let keys = c.self.invariant.numbered.keys in
    rw (← c.self.view_is) (
      (λ i. inl (c.value_mut.result.ghost_name, λ w. value_shown es place h.0 key h.1 h.2 w keys i)),
      record {
        writes_back = tt;
        value = ap Some (c.value_mut.ensures.value h.0 h.1) ∙ sym (value_there es place h.0 key h.1 h.2 keys);
        same = λ v. same_shown (rows_of es) key v keys;
      },
    )
