-- The lines of sites, one by one.
use Rattle.std.proofs.Common.{◌≡◌, ◌∙◌, ℕ, ◌+◌, ◌<◌, ◌≤◌, List, ◌++◌, length, get_or, drop, ap, sym, append_assoc}
use Rattle.std.proofs.Common.{append-nil}
use Rattle.std.specs.List.{flat_map}
use Rattle.std.proofs.lemmas.List.{drop_all}
use Rattle.box_listing.specs.declared.site.Site.{Site}
use Rattle.box_listing.proofs.Lists.{drop_here}

pub next_line : (line_of : Site → List ℕ) (old mid new : List ℕ) (xs : List Site) (i : ℕ) (x : Site) → i < length xs
    → x ≡ get_or xs i x →
    new ≡ mid ++ line_of x → old ++ flat_map line_of xs ≡ mid ++ flat_map line_of (drop i xs) →
    old ++ flat_map line_of xs ≡ new ++ flat_map line_of (drop (i + 1) xs)
next_line line_of old mid new xs i x below is added so_far =
    so_far ∙ ap (λ ys. mid ++ flat_map line_of ys) (drop_here xs i x below is)
    ∙ sym (append_assoc mid (line_of x) (flat_map line_of (drop (i + 1) xs)))
    ∙ ap (λ z. z ++ flat_map line_of (drop (i + 1) xs)) (sym added)

pub all_lines : (line_of : Site → List ℕ) (old new : List ℕ) (xs : List Site) (i : ℕ) → length xs ≤ i →
    old ++ flat_map line_of xs ≡ new ++ flat_map line_of (drop i xs) → new ≡ old ++ flat_map line_of xs
all_lines line_of old new xs i past so_far = sym (so_far ∙ ap (λ ys. new ++ flat_map line_of ys) (drop_all i xs past)
    ∙ append-nil new)
