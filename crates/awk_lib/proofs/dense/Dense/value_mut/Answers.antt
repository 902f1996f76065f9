use Rattle.std.proofs.Common.{◌≡◌, length, slice_get, Some, refl, sym, ap, ◌∙◌}
use Rattle.std.proofs.lemmas.Option.{same_Some, slice_get_read, slice_get_within}
use Rattle.std.specs.Vec.{with_item}
use Rattle.awk_lib.specs.Dense.{number_in}
use Rattle.awk_lib.proofs.dense.Dense.value_mut.Goals as goal

pub returns : goal.returns
returns g c =
    let places = c.args.self.now.places.items in
    let k = c.args.k in
    let element = c.in-Some.element.now in
    let place = c.index_mut-place.result.now in
    let there : slice_get places k ≡ Some place = slice_get_read places (length places) k place refl
    (slice_get_within places k (Some c.requires.0) c.requires.1) c.index_mut-place.ensures.value in
    let is : slice_get places k ≡ Some (Some element) = there ∙ ap Some (sym c.in-Some.ensures.value) in
    let back = sym is in (
      (
        refl,
        λ w i. record {
          places = with_item c.args.self.now.places k
              (Some (record { number = number_in (back i); value = w }));
        },
      ),
      record {
        writes_back = tt;
        value =
            λ x e. ap (λ n. n.value) (same_Some element x (same_Some (Some element) (Some x) (back ∙ e)));
      },
    )
