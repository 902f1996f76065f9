-- The test by cuts says that there is a division.
use Rattle.std.proofs.Common.{◌≡◌, ◌∙◌, Bool, true, false, ◌&&◌, ◌||◌, List, [], ◌∷◌, ◌++◌, map, sym, ap, subst, refl}
use Rattle.std.proofs.Common.{◌⊎◌, inl, inr}
use Rattle.std.specs.Bool.{Decides}
use Rattle.std.specs.List.{list_any, AllZip}
use Rattle.std.proofs.lemmas.Bool.{and_parts, and_from, or_cases, or_left, or_right, true≢false, false≢true}
use Rattle.box_policy.specs.Division.{Symbol, takes, cuts, fits}
use Rattle.box_policy.proofs.DivisionLemmas.{list_any-map}
use Rattle.box_policy.specs.Divides.{Divides, joined}

-- a cut that passes
record Cut {A : Type 0} (p : List A × List A → Bool) (subject : List A) : Type 0 where
  first : List A
  second : List A
  whole : first ++ second ≡ subject
  passes : p (first, second) ≡ true

cut_from : {A : Type 0} (p : List A × List A → Bool) (subject : List A) → list_any p (cuts subject) ≡ true
    → Cut p subject
cut_from p [] h =
    elim (or_cases (p ([], [])) false h) [
      | inl here ↦ record { first = []; second = []; whole = refl; passes = here }
      | inr never ↦ absurd (false≢true never)
    ]
cut_from p (x ∷ xs) h =
    elim (or_cases (p ([], x ∷ xs)) (list_any p (map (λ cut. (x ∷ cut.0, cut.1)) (cuts xs))) h) [
      | inl here ↦ record { first = []; second = x ∷ xs; whole = refl; passes = here }
      | inr later ↦
          let more = cut_from (λ cut. p (x ∷ cut.0, cut.1)) xs
          (sym (list_any-map p (λ cut. (x ∷ cut.0, cut.1)) (cuts xs)) ∙ later) in
          record {
            first = x ∷ more.first;
            second = more.second;
            whole = ap (λ rest. x ∷ rest) more.whole;
            passes =
                more.passes;
          }
    ]

cut_to : {A : Type 0} (p : List A × List A → Bool) (first second : List A) → p (first, second) ≡ true
    → list_any p (cuts (first ++ second)) ≡ true
cut_to p [] [] h = or_left _ _ h
cut_to p [] (y ∷ ys) h = or_left _ _ h
cut_to p (x ∷ xs) second h =
    or_right _ _ (list_any-map p (λ cut. (x ∷ cut.0, cut.1)) (cuts (xs ++ second))
    ∙ cut_to (λ cut. p (x ∷ cut.0, cut.1)) xs second h)

pub Divides-from_fits : {A : Type 0} (symbols : List (Symbol A)) (subject : List A) → fits symbols subject ≡ true
    → Divides symbols subject
Divides-from_fits [] [] h = record { parts = []; taken = tt; whole = refl }
Divides-from_fits [] (x ∷ xs) h = absurd (false≢true h)
Divides-from_fits (symbol ∷ symbols) subject h =
    let cut = cut_from (λ cut. takes symbol cut.0 && fits symbols cut.1) subject h in
    let both = and_parts (takes symbol cut.first) (fits symbols cut.second) cut.passes in
    let rest = Divides-from_fits symbols cut.second both.1 in
    record {
      parts = cut.first ∷ rest.parts;
      taken = (both.0, rest.taken);
      whole = ap (λ more. cut.first ++ more) rest.whole ∙ cut.whole;
    }

fits_from : {A : Type 0} (symbols : List (Symbol A)) (parts : List (List A))
    → AllZip (λ symbol part. takes symbol part ≡ true) symbols parts → fits symbols (joined parts) ≡ true
fits_from [] [] h = refl
fits_from [] (part ∷ parts) h = absurd h
fits_from (symbol ∷ symbols) [] h = absurd h
fits_from (symbol ∷ symbols) (part ∷ parts) h =
    cut_to (λ cut. takes symbol cut.0 && fits symbols cut.1) part (joined parts)
    (and_from _ _ h.0 (fits_from symbols parts h.1))

pub fits-from_Divides : {A : Type 0} (symbols : List (Symbol A)) (subject : List A) → Divides symbols subject
    → fits symbols subject ≡ true
fits-from_Divides symbols subject d = subst (λ (whole : List _). fits symbols whole ≡ true) d.whole
    (fits_from symbols d.parts d.taken)

pub fits-Decides : {A : Type 0} (symbols : List (Symbol A)) (subject : List A)
    → Decides (fits symbols subject) (Divides symbols subject)
fits-Decides symbols subject = (Divides-from_fits symbols subject, fits-from_Divides symbols subject)
