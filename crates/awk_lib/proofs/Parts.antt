-- Texts that are put into the dense part one after the other.
use Rattle.std.proofs.Common.{◌≡◌, ℕ, suc, ◌+◌, ◌<◌, ◌≤◌, ◌^◌, true, false, List, [], ◌∷◌, ◌++◌, map, length, Option}
use Rattle.std.proofs.Common.{None, Some, refl, sym, ap, ◌∙◌, subst, arith, append-nil, length-append}
use Rattle.std.proofs.lemmas.List.{map-append}
use Rattle.std.proofs.lemmas.Option.{slice_get_within}
use Rattle.std.specs.Fmt.{decimal}
use Rattle.std.specs.List.{AllByRecursion}
use Rattle.std.specs.Map.{lookup}
use Rattle.std.specs.Str.{bytes_eq}
use Rattle.awk_text.specs.declared.value.Value.{Value}
use Rattle.awk_text.specs.declared.value.Value.TheVariants as v
use Rattle.awk_lib.specs.Arrays.{most_elements}
use Rattle.awk_lib.specs.Dense.{dense_rows, IsOutside}
use Rattle.awk_lib.specs.Filled.{AreFilled}
use Rattle.awk_lib.specs.Parts.{texts_from}
use Rattle.awk_lib.specs.Kept.{rows_of, AreKept}
use Rattle.awk_lib.specs.Numbering.{in_order, rows, shown, AreNumbered}
use Rattle.awk_lib.specs.declared.dense.Numbered.{Numbered}
use Rattle.awk_lib.specs.declared.elements.Elements.{Elements}
use Rattle.awk_lib.proofs.Digits.{outside_number}
use Rattle.awk_lib.proofs.Order.{in_order_push}
use Rattle.awk_lib.proofs.Rows.{Row, added, none_numbered}
use Rattle.awk_lib.proofs.Seams.{all_dense, dense_push, none_lookup}

pub texts_more : (n : ℕ) (xs : List (List ℕ)) (x : List ℕ) (k : ℕ) → k ≡ n + length xs → texts_from n (xs ++ x ∷ [])
    ≡ texts_from n xs ++ (decimal k, v.Input x) ∷ []
texts_more n [] x k e = let same : k ≡ n = omega (arith, e) in ap (λ j. (decimal j, v.Input x) ∷ []) (sym same)
texts_more n (y ∷ ys) x k e = ap (λ l. (decimal n, v.Input y) ∷ l) (texts_more (n + 1) ys x k (omega (arith, e)))

-- what lies at the places once these texts are there: the first place is empty
pub record Filling (places : List (Option (Numbered Value))) (done : List (List ℕ)) (number : ℕ) : Type 0 where
  pub count : number ≡ length done
  pub size : length places ≡ number + 1
  pub rows_count : length (dense_rows 0 places) ≡ number
  pub numbered : AreNumbered true number (dense_rows 0 places)
  pub list : shown (dense_rows 0 places) ≡ texts_from 1 done

pub begins : (places : List (Option (Numbered Value))) → places ≡ None ∷ [] → Filling places [] 0
begins places is = subst (λ ps. Filling ps [] 0) (sym is) (record {
  count = refl;
  size = refl;
  rows_count = refl;
  numbered = none_numbered true 0;
  list = refl;
})

module _ (places : List (Option (Numbered Value))) (done : List (List ℕ)) (number : ℕ) (part : List ℕ)
    (f : Filling places done number) (small : number + 1 < 2 ^ 64) where
  abbrev pub old : List (Row Value)
  old = dense_rows 0 places

  abbrev pub new : Row Value
  new = (number, (decimal (number + 1), v.Input part))

  one_more : dense_rows 0 (places ++ Some (record { number = number; value = v.Input part }) ∷ []) ≡ old ++ new ∷ []
  one_more = dense_push 0 places (number + 1) (record { number = number; value = v.Input part }) (omega (arith, f.size))

  absent : lookup (bytes_eq (decimal (number + 1))) (map (λ r. r.1) old) ≡ None
  absent =
      none_lookup (decimal (number + 1)) old
      (all_dense (λ r. bytes_eq (decimal (number + 1)) r.1.0 ≡ false) 0 places
      (λ i n x is at. outside_number (number + 1) (length places) small (omega (arith, f.size)) n
      (omega (arith, is, slice_get_within places i (Some x) at))))

  pub goes_on : Filling (places ++ Some (record { number = number; value = v.Input part }) ∷ []) (done ++ part ∷ [])
      (number + 1)
  goes_on = record {
    count = omega (arith, f.count, length-append done (part ∷ []));
    size = omega (arith, f.size, length-append places (Some (record { number = number; value = v.Input part }) ∷ []));
    rows_count = ap length one_more ∙ omega (arith, f.rows_count, length-append old (new ∷ []));
    numbered = subst (AreNumbered true (number + 1)) (sym one_more) (added true number old (decimal (number + 1))
        (v.Input part) f.numbered absent);
    list = ap shown one_more ∙ ap (map (λ r. r.1)) (in_order_push old new f.numbered.below)
        ∙ map-append (λ (r : Row Value). r.1) (in_order old) (new ∷ [])
        ∙ ap (λ l. l ++ (decimal (number + 1), v.Input part) ∷ []) f.list
        ∙ sym (texts_more 1 done part (number + 1) (omega (arith, f.count)));
  }

-- all are there
pub ends : (places : List (Option (Numbered Value))) (parts : List (List ℕ)) (number : ℕ) (es : Elements Value)
    → Filling places parts number → length parts ≤ most_elements
    → es.dense.places.items ≡ places → es.map.entries ≡ [] → es.count ≡ length parts → AreFilled parts es
ends places parts number es f few is none count =
    let all : rows_of es ≡ dense_rows 0 places = ap (λ l. dense_rows 0 es.dense.places.items ++ rows l) none
    ∙ append-nil (dense_rows 0 es.dense.places.items) ∙ ap (dense_rows 0) is in
    record {
      kept = record {
        apart = record {
          few = omega (arith, few, f.size, f.count, ap length is);
          outside = subst (λ l. AllByRecursion (λ r. IsOutside (length es.dense.places.items) r.1.0) (rows l))
              (sym none) tt;
        };
        numbered = subst (AreNumbered true (length parts)) (sym all)
            (subst (λ n. AreNumbered true n (dense_rows 0 places)) f.count f.numbered);
        count = count ∙ sym f.count ∙ sym f.rows_count ∙ ap length (sym all);
      };
      list = ap shown all ∙ f.list;
    }
