use Rattle.std.proofs.Common.{◌≡◌, ◌<◌, ◌≤◌, List, [], ◌∷◌, map, length, None, sym, refl, arith, get_or, ap}
use Rattle.awk_tree.specs.Tree.{trees_of}
use Rattle.awk_tree.specs.View.{view}
use Rattle.awk_tree.specs.declared.expressions.Expr.{Expr}
use Rattle.awk_resolve.specs.Mentions.{alone}
use Rattle.awk_resolve.proofs.expressions.alone.Goals as goal

just_one : (xs : List Expr) (x : Expr) → 1 ≤ length xs → length xs < 2 → x ≡ get_or xs 0 x → xs ≡ x ∷ []
just_one [] x n m e = absurd (omega (arith, n))
just_one (y ∷ []) x n m e = ap (λ z. z ∷ []) (sym e)
just_one (y ∷ z ∷ xs) x n m e = absurd (omega (arith, m))

-- no list but that of one name is a name
none_alone : (xs : List Expr) → length xs < 1 → alone (trees_of (map view xs)) ≡ None
none_alone [] h = refl
none_alone (x ∷ xs) h = absurd (omega (arith, h))

more_alone : (xs : List Expr) → 2 ≤ length xs → alone (trees_of (map view xs)) ≡ None
more_alone [] h = absurd (omega (arith, h))
more_alone (x ∷ []) h = absurd (omega (arith, h))
more_alone (x ∷ y ∷ xs) h = refl

pub returns-in-empty : goal.returns-in-empty
returns-in-empty c = sym (none_alone c.args.xs.now c.in-empty.len_below)

pub returns-in-len1 : goal.returns-in-len1
returns-in-len1 c = rw (just_one c.args.xs.now c.x-item.result c.in-len1.len_at_least c.in-len1.len_below c.x-item.is)
    c.bare.ensures

pub returns-in-len2-up : goal.returns-in-len2-up
returns-in-len2-up c = sym (more_alone c.args.xs.now c.in-len2-up.len_at_least)
