-- The search for the matches that separate.
use Rattle.std.proofs.Common.{◌≡◌, ℕ, ◌+◌, ◌≤◌, ◌<◌, Bool, List, [], ◌∷◌, ◌++◌, length, drop, Some, None, sym, subst}
use Rattle.std.proofs.Common.{refl, ◌∙◌, arith, append_assoc}
use Rattle.std.specs.List.{slice_range}
use Rattle.awk_ere.specs.Spelled.{Finds}
use Rattle.awk_fields.specs.Fields.{FindsSeparator, Separators, behind, no_more, passed, then_one, between}
use Rattle.awk_fields.specs.Seeking.{IsAhead, IsNextSeparator}
use Rattle.awk_fields.proofs.Bests.{later_best, later_none}

-- the match that is known still stands
pub still_none : (source s : List ℕ) (from : ℕ) → IsAhead source s from None → Finds source s from None
still_none source s from (before, low, found) = (found.0, found.1, later_none s found.0 before from found.2 low)

pub still_some : (source s : List ℕ) (from i j : ℕ) → IsAhead source s from (Some (i, j)) → from ≤ i
    → Finds source s from (Some (i, j))
still_some source s from i j (before, low, found) at =
    (found.0, found.1, later_best s found.0 before i j from found.2 low at)

-- the search has come from one place to another, and nothing separates between
abbrev pub Reaches : List ℕ → Bool → List ℕ → ℕ → ℕ → Type 0
Reaches source newline s from at = (from ≤ at) × ((rest : List (ℕ × ℕ)) → Separators source newline s at rest
    → Separators source newline s from rest)

pub reaches_on : (source : List ℕ) (newline : Bool) (s : List ℕ) (from at i j : ℕ) → Reaches source newline s from at
    → FindsSeparator source newline s at (Some (i, j)) → i ≡ j → Reaches source newline s from (i + 1)
reaches_on source newline s from at i j r found e = (
  omega (arith, r.0, found.2.after),
  λ rest h. r.1 rest (passed source newline s at i rest
      (subst (λ k. FindsSeparator source newline s at (Some (i, k))) (sym e) found) h),
)

pub reaches_none : (source : List ℕ) (newline : Bool) (s : List ℕ) (from at : ℕ) → Reaches source newline s from at
    → FindsSeparator source newline s at None → IsNextSeparator source newline s from None
reaches_none source newline s from at r found = r.1 [] (no_more source newline s at found)

pub reaches_end : (source : List ℕ) (newline : Bool) (s : List ℕ) (from at : ℕ) → Reaches source newline s from at
    → length s < at → IsNextSeparator source newline s from None
reaches_end source newline s from at r lt = r.1 [] (behind source newline s at lt)

pub reaches_one : (source : List ℕ) (newline : Bool) (s : List ℕ) (from at i j : ℕ) → Reaches source newline s from at
    → FindsSeparator source newline s at (Some (i, j)) → i < j → IsNextSeparator source newline s from (Some (i, j))
reaches_one source newline s from at i j r found lt =
    record {
      after = omega (arith, r.0, found.2.after);
      some = lt;
      within = found.2.within;
      leads = λ rest h. r.1 ((i, j) ∷ rest) (then_one source newline s at i j rest lt found h);
    }

-- the text is cut up to a place: whatever separates behind it, these parts come first
pub record SoughtTo (source : List ℕ) (newline : Bool) (s : List ℕ) (start : ℕ) (parts : List (List ℕ)) : Type 0 where
  pub inside : start ≤ length s
  pub leads : (rest : List (ℕ × ℕ)) → Separators source newline s start rest → (found : List (ℕ × ℕ))
      × Separators source newline s 0 found × (parts ++ between s start rest ≡ between s 0 found)

pub sought_begin : (source : List ℕ) (newline : Bool) (s : List ℕ) → SoughtTo source newline s 0 []
sought_begin source newline s = record { inside = omega arith; leads = λ rest h. (rest, h, refl) }

pub sought_step : (source : List ℕ) (newline : Bool) (s : List ℕ) (start i j : ℕ) (parts : List (List ℕ))
    → SoughtTo source newline s start parts → IsNextSeparator source newline s start (Some (i, j))
    → SoughtTo source newline s j (parts ++ slice_range s start i ∷ [])
sought_step source newline s start i j parts sought next =
    record {
      inside = next.within;
      leads = λ rest h.
          let on = sought.leads ((i, j) ∷ rest) (next.leads rest h) in
          (on.0, on.1, append_assoc parts (slice_range s start i ∷ []) (between s j rest) ∙ on.2);
    }

pub sought_end : (source : List ℕ) (newline : Bool) (s : List ℕ) (start : ℕ) (parts : List (List ℕ))
    → SoughtTo source newline s start parts → IsNextSeparator source newline s start None → (found : List (ℕ × ℕ))
    × Separators source newline s 0 found × (parts ++ drop start s ∷ [] ≡ between s 0 found)
sought_end source newline s start parts sought next = sought.leads [] next
