-- Lists from an index on, and lists behind signs.
use Rattle.std.proofs.Common.{◌≡◌, ◌∙◌, ℕ, ◌+◌, ◌-◌, ◌<◌, ◌≤◌, List, [], ◌∷◌, ◌++◌, arith, suc, zero, length, get_or}
use Rattle.std.proofs.Common.{drop, take, map, ap, sym, refl, add-one, codes}
use Rattle.awk_tree.specs.declared.expressions.Expr.{Expr}
use Rattle.awk_tree.specs.View.{view}
use Rattle.awk_tree.specs.Tree as t
use Rattle.awk_tree.specs.Tree.{Tree, Trees, none, more, Perhaps, absent, present, trees_of}
use Rattle.awk_tree.specs.Terminals.{sign}
use Rattle.awk_tree.specs.Canon.{canon, canon_commas, canon_ands, canon_ors, canon_comma, canon_file, canon_list}
use Rattle.awk_canon.specs.Lists.{canon_behind, canon_behind_one}

drop_suc : {A : Type 0} (xs : List A) (i : ℕ) (d : A) → i < length xs → d ≡ get_or xs i d
    → drop i xs ≡ d ∷ drop (suc i) xs
drop_suc [] i d h e = absurd (omega arith)
drop_suc (x ∷ xs) zero d h e = ap (λ y. y ∷ xs) (sym e)
drop_suc (x ∷ xs) (suc i) d h e = drop_suc xs i d (omega arith) e

pub drop_here : {A : Type 0} (xs : List A) (i : ℕ) (d : A) → i < length xs → d ≡ get_or xs i d
    → drop i xs ≡ d ∷ drop (i + 1) xs
drop_here xs i d h e = rw add-one (drop_suc xs i d h e)

pub commas_are : (xs : Trees) → canon_commas xs ≡ canon_behind (codes ",") xs
commas_are none = refl
commas_are (more x xs) = ap (λ ts. sign (codes ",") ∷ canon x ++ ts) (commas_are xs)

pub ands_are : (xs : Trees) → canon_ands xs ≡ canon_behind (codes "&&") xs
ands_are none = refl
ands_are (more x xs) = ap (λ ts. sign (codes "&&") ∷ canon x ++ ts) (ands_are xs)

pub ors_are : (xs : Trees) → canon_ors xs ≡ canon_behind (codes "||") xs
ors_are none = refl
ors_are (more x xs) = ap (λ ts. sign (codes "||") ∷ canon x ++ ts) (ors_are xs)

pub comma_is : (x : Perhaps) → canon_comma x ≡ canon_behind_one (codes ",") x
comma_is absent = refl
comma_is (present x) = refl

pub file_is : (x : Perhaps) → canon_file x ≡ canon_behind_one (codes "<") x
file_is absent = refl
file_is (present x) = refl

pub and_is : (x : Tree) (xs : Trees) → canon (t.and x xs) ≡ canon x ++ canon_behind (codes "&&") xs
and_is x xs = ap (λ ts. canon x ++ ts) (ands_are xs)

pub or_is : (x : Tree) (xs : Trees) → canon (t.or x xs) ≡ canon x ++ canon_behind (codes "||") xs
or_is x xs = ap (λ ts. canon x ++ ts) (ors_are xs)

pub list_is : (x : Tree) (xs : Trees) → canon_list (more x xs) ≡ canon x ++ canon_behind (codes ",") xs
list_is x xs = ap (λ ts. canon x ++ ts) (commas_are xs)

take_all : {A : Type 0} (xs : List A) (n : ℕ) → n ≡ length xs → take n xs ≡ xs
take_all [] zero e = refl
take_all [] (suc n) e = refl
take_all (x ∷ xs) zero e = absurd (omega (arith, e))
take_all (x ∷ xs) (suc n) e = ap (λ ys. x ∷ ys) (take_all xs n (omega (arith, e)))

first_and_rest : {A : Type 0} (xs : List A) (d : A) → 1 ≤ length xs → d ≡ get_or xs 0 d
    → xs ≡ d ∷ take (length xs - 1) (drop 1 xs)
first_and_rest [] d h e = absurd (omega (arith, h))
first_and_rest (x ∷ xs) d h e = ap (λ y. y ∷ xs) (sym e) ∙ ap (λ ys. d ∷ ys)
    (sym (take_all xs (length (x ∷ xs) - 1) (omega arith)))

pub list_from : (xs : List Expr) (d : Expr) → 1 ≤ length xs → d ≡ get_or xs 0 d
    → canon_list (trees_of (map view xs)) ≡ canon (view d) ++ canon_behind (codes ",")
    (trees_of (map view (take (length xs - 1) (drop 1 xs))))
list_from xs d h e = ap (λ ys. canon_list (trees_of (map view ys))) (first_and_rest xs d h e) ∙ list_is (view d) _
