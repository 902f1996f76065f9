-- The sorts of items, one by one.
use Rattle.std.proofs.Common.{Bool, Result, Ok, Err, subst, ◌≡◌, ◌∙◌, ℕ, ◌+◌, ◌<◌, ◌≤◌, List, [], ◌∷◌, ◌++◌, length}
use Rattle.std.proofs.Common.{get_or, drop, map, ap, sym, append_assoc, append-nil}
use Rattle.std.proofs.lemmas.List.{drop_all}
use Rattle.awk_tree.specs.declared.items.Item.{Item}
use Rattle.std.specs.Prelude.{IfOk}
use Rattle.awk_program.specs.declared.program.Program as code
use Rattle.awk_tree.specs.View.{view_item}
use Rattle.box_listing.specs.Scripts.{sort_of}
use Rattle.box_listing.specs.declared.site.Sort.{Sort}
use Rattle.box_listing.proofs.Lists.{drop_here}

pub next_sort : (mid new : List Sort) (xs : List Item) (i : ℕ) (x : Item) (s : Sort) → i < length xs → x ≡ get_or xs i x
    → s ≡ sort_of (view_item x) → new ≡ mid ++ s ∷ [] →
    map sort_of (map view_item xs) ≡ mid ++ map sort_of (map view_item (drop i xs)) → map sort_of (map view_item xs)
    ≡ new ++ map sort_of (map view_item (drop (i + 1) xs))
next_sort mid new xs i x s below is e added so_far =
    so_far ∙ ap (λ ys. mid ++ map sort_of (map view_item ys)) (drop_here xs i x below is)
    ∙ ap (λ z. mid ++ z ∷ map sort_of (map view_item (drop (i + 1) xs))) (sym e)
    ∙ sym (append_assoc mid (s ∷ []) (map sort_of (map view_item (drop (i + 1) xs))))
    ∙ ap (λ z. z ++ map sort_of (map view_item (drop (i + 1) xs))) (sym added)

pub all_sorts : (new : List Sort) (xs : List Item) (i : ℕ) → length xs ≤ i → map sort_of (map view_item xs) ≡ new
    ++ map sort_of (map view_item (drop i xs)) → new ≡ map sort_of (map view_item xs)
all_sorts new xs i past so_far = sym (so_far ∙ ap (λ ys. new ++ map sort_of (map view_item ys)) (drop_all i xs past)
    ∙ append-nil new)

pub given : {A E : Type 0} (r : Result A E) (P Q : A → Type 0) → ((a : A) → P a → Q a) → IfOk r P → IfOk r Q
given (Ok a) P Q f h = f a h
given (Err e) P Q f h = tt

pub moved : (P : code.Program → List Sort → Bool → Type 0) (p q : code.Program) (o u : List Sort) (n m : Bool) → p ≡ q
    → o ≡ u → n ≡ m → P p o n → P q u m
moved P p q o u n m e f g h = subst (λ z. P q u z) g (subst (λ z. P q z n) f (subst (λ z. P z o n) e h))
