-- Parts that are set: how many bytes they have, and how long the whole text is.
use Rattle.std.proofs.Common.{◌≡◌, ℕ, ◌+◌, ◌-◌, ◌*◌, ◌≤◌, List, ◌++◌, length, map, take, drop, set, get_or, replicate}
use Rattle.std.proofs.Common.{min, sym, ap, subst, refl, ◌∙◌, arith, inl, inr}
use Rattle.std.specs.Prelude.{All}
use Rattle.std.proofs.lemmas.Bool.{cases_lt}
use Rattle.std.proofs.lemmas.List.{length-drop, take_all, get_or_past}
use Rattle.std.proofs.lemmas.List.Elements.{All-map}
use Rattle.std.proofs.lemmas.List.Sums.{get_or-le-sum_by, sum_by-take-le, sum_by-take-drop}
use Rattle.std.specs.List.{sum_by}
use Rattle.awk_text.specs.declared.value.Value.TheVariants.{Unset}
use Rattle.awk_fields.specs.Edits.{IsPartOf, part_bytes, field_of}
use Rattle.awk_fields.specs.Rows.{rebuilt, with_count, with_field}
use Rattle.awk_fields.specs.Spans.{IsWithin}
use Rattle.awk_fields.specs.declared.part.Part.{Part}
use Rattle.awk_fields.specs.declared.part.Part.TheVariants.{Cut, Own}
use Rattle.awk_fields.specs.declared.spans.Span.{Span}
use Rattle.awk_fields.proofs.EditLemmas.{rebuilt_bytes, put_length, put_sum, map_put, count_length, count_sum}
use Rattle.awk_fields.proofs.EditLemmas.{map_count}

pub cut_within : (text : List ℕ) (spans : List Span) (parts : List Part) → parts ≡ map Cut spans
    → All (IsWithin text) spans → All (IsPartOf text) parts
cut_within text spans parts is within = subst (λ ps. All (IsPartOf text) ps) (sym is)
    (All-map (IsPartOf text) Cut spans within)

-- ---- one is set

abbrev pub put_parts : List Part → ℕ → Part → List Part
put_parts parts at part = set (parts ++ replicate (at + 1 - length parts) (Own Unset)) at part

pub part_le : (text : List ℕ) (parts : List Part) (at : ℕ) → part_bytes text (get_or parts at (Own Unset)) ≤ sum_by
    (part_bytes text) parts
part_le text parts at =
    elim (cases_lt at (length parts)) [
      | inl inside ↦ get_or-le-sum_by (part_bytes text) parts at (Own Unset) inside
      | inr past ↦ rw (get_or_past parts at (Own Unset) past) (omega arith)
    ]

pub put_bytes : (text : List ℕ) (parts : List Part) (at : ℕ) (part : Part) (before gone new : ℕ)
    → before ≡ sum_by (part_bytes text) parts → gone ≡ part_bytes text (get_or parts at (Own Unset))
    → new ≡ part_bytes text part
    → before - gone + new ≡ sum_by (part_bytes text) (put_parts parts at part)
put_bytes text parts at part before gone new before_is gone_is new_is =
    let le = part_le text parts at in
    let sum : sum_by (part_bytes text) (put_parts parts at part) + part_bytes text (get_or parts at (Own Unset))
    ≡ sum_by (part_bytes text) parts + part_bytes text part = put_sum (part_bytes text) parts at part (Own Unset) refl
    in
    omega arith

pub put_whole : (text ofs : List ℕ) (parts : List Part) (at : ℕ) (part : Part) (bytes count gap : ℕ)
    → bytes ≡ sum_by (part_bytes text) (put_parts parts at part) → count ≡ length parts + (at + 1 - length parts)
    → gap ≡ length ofs
    → length (rebuilt ofs (with_field (map (field_of text) parts) at (field_of text part))) ≡ bytes + (count - 1) * gap
put_whole text ofs parts at part bytes count gap bytes_are count_is gap_is =
    let same : length (rebuilt ofs (with_field (map (field_of text) parts) at (field_of text part)))
    ≡ length (rebuilt ofs (map (field_of text) (put_parts parts at part))) =
    ap (λ fs. length (rebuilt ofs fs)) (sym (map_put (field_of text) parts at part (Own Unset) refl)) in
    let total : length (rebuilt ofs (map (field_of text) (put_parts parts at part))) ≡ sum_by (part_bytes text)
    (put_parts parts at part) + (length (put_parts parts at part) - 1) * length ofs =
    rebuilt_bytes (field_of text) ofs (put_parts parts at part) in
    same ∙ (total ∙ (ap (λ n. n + (length (put_parts parts at part) - 1) * length ofs) (sym bytes_are)
    ∙ (ap (λ n. bytes + (n - 1) * length ofs) (put_length parts at part (Own Unset) ∙ sym count_is)
    ∙ ap (λ n. bytes + (count - 1) * n) (sym gap_is))))

-- ---- some go, or are added

abbrev pub count_parts : List Part → ℕ → List Part
count_parts parts count = take count (parts ++ replicate (count - length parts) (Own Unset))

pub gone_le : (text : List ℕ) (parts : List Part) (n stay : ℕ)
    → sum_by (part_bytes text) (take n (drop stay parts)) ≤ sum_by (part_bytes text) parts
gone_le text parts n stay =
    let behind = sum_by-take-le (part_bytes text) (drop stay parts) n in
    let both = sum_by-take-drop (part_bytes text) parts stay in
    omega arith

pub count_bytes : (text : List ℕ) (parts : List Part) (count stay before gone : ℕ) → stay ≡ min count (length parts)
    → before ≡ sum_by (part_bytes text) parts
    → gone ≡ sum_by (part_bytes text) (take (length parts - stay) (drop stay parts))
    → before - gone ≡ sum_by (part_bytes text) (count_parts parts count)
count_bytes text parts count stay before gone stay_is before_is gone_is =
    let behind : take (length parts - stay) (drop stay parts) ≡ drop stay parts = take_all (length parts - stay)
    (drop stay parts) (omega (arith, length-drop stay parts)) in
    let rest : gone ≡ sum_by (part_bytes text) (drop (min count (length parts)) parts) =
    gone_is ∙ (ap (sum_by (part_bytes text)) behind ∙ ap (λ n. sum_by (part_bytes text) (drop n parts)) stay_is) in
    let sum = count_sum (part_bytes text) parts count (Own Unset) refl in
    omega arith

pub count_whole : (text ofs : List ℕ) (parts : List Part) (count bytes gap : ℕ)
    → bytes ≡ sum_by (part_bytes text) (count_parts parts count) → gap ≡ length ofs
    → length (rebuilt ofs (with_count (map (field_of text) parts) count)) ≡ bytes + (count - 1) * gap
count_whole text ofs parts count bytes gap bytes_are gap_is =
    let same : length (rebuilt ofs (with_count (map (field_of text) parts) count))
    ≡ length (rebuilt ofs (map (field_of text) (count_parts parts count))) =
    ap (λ fs. length (rebuilt ofs fs)) (sym (map_count (field_of text) parts count (Own Unset) refl)) in
    let total : length (rebuilt ofs (map (field_of text) (count_parts parts count))) ≡ sum_by (part_bytes text)
    (count_parts parts count) + (length (count_parts parts count) - 1) * length ofs =
    rebuilt_bytes (field_of text) ofs (count_parts parts count) in
    same ∙ (total ∙ (ap (λ n. n + (length (count_parts parts count) - 1) * length ofs) (sym bytes_are)
    ∙ (ap (λ n. bytes + (n - 1) * length ofs) (count_length parts count (Own Unset))
    ∙ ap (λ n. bytes + (count - 1) * n) (sym gap_is))))
