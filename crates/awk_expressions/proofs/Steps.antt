-- What the proofs of the code cite.
use Rattle.std.proofs.Common.{◌≡◌, ◌≢◌, ◌∙◌, ℕ, Bool, List, [], ◌∷◌, map, Result, Ok, Err, IfOk, ap, refl}
use Rattle.awk_tree.specs.Looks.{and_of, concat_of, member_of, or_of, pipe_of, product_of, sum_of}
use Rattle.awk_tree.specs.declared.names.Member.{Member}
use Rattle.awk_tree.specs.declared.expressions.Expr.{Expr}
use Rattle.awk_tree.specs.declared.expressions.Term.{Term}
use Rattle.awk_tree.specs.declared.expressions.Piped.{Piped}
use Rattle.awk_text.specs.declared.place.Place.{Place}
use Rattle.awk_tree.specs.declared.goals.Goal.{Goal}
use Rattle.awk_tree.specs.Input.{Parser, ◌>>=◌, pure}
use Rattle.awk_tree.specs.Tree as t
use Rattle.awk_tree.specs.Tree.{Tree, trees_of, terms_of, pipes_of}
use Rattle.awk_tree.specs.View.{view, view_term, view_piped}
use Rattle.awk_tree.specs.Expressions.{in_name, in_names, grouped}

-- what was boxed, by what it is seen as
pub seen_as : {E : Type 0} (made : Result Expr E) (x : Expr) (y : Tree) → IfOk made (λ e. e ≡ x) → view x ≡ y
    → IfOk made (λ e. view e ≡ y)
seen_as (Ok e) x y is same = ap view is ∙ same
seen_as (Err refused) x y is same = tt

-- a chain of more than its first operand
pub product_of-some : (left : Tree) (xs : List (Term Expr)) → xs ≢ [] → product_of left (map view_term xs)
    ≡ t.product left (terms_of (map view_term xs))
product_of-some left [] h = absurd (h refl)
product_of-some left (x ∷ xs) h = refl

pub sum_of-some : (left : Tree) (xs : List (Term Expr)) → xs ≢ [] → sum_of left (map view_term xs)
    ≡ t.sum left (terms_of (map view_term xs))
sum_of-some left [] h = absurd (h refl)
sum_of-some left (x ∷ xs) h = refl

pub concat_of-some : (left : Tree) (xs : List Expr) → xs ≢ [] → concat_of left (map view xs) ≡ t.concat left
    (trees_of (map view xs))
concat_of-some left [] h = absurd (h refl)
concat_of-some left (x ∷ xs) h = refl

pub pipe_of-some : (left : Tree) (xs : List (Piped Expr)) → xs ≢ [] → pipe_of left (map view_piped xs)
    ≡ t.pipe left (pipes_of (map view_piped xs))
pipe_of-some left [] h = absurd (h refl)
pipe_of-some left (x ∷ xs) h = refl

pub and_of-some : (left : Tree) (xs : List Expr) → xs ≢ []
    → and_of left (map view xs) ≡ t.and left (trees_of (map view xs))
and_of-some left [] h = absurd (h refl)
and_of-some left (x ∷ xs) h = refl

pub or_of-some : (left : Tree) (xs : List Expr) → xs ≢ []
    → or_of left (map view xs) ≡ t.or left (trees_of (map view xs))
or_of-some left [] h = absurd (h refl)
or_of-some left (x ∷ xs) h = refl

pub member_of-some : (left : Tree) (ms : List Member) → ms ≢ [] → member_of left ms ≡ t.member left ms
member_of-some left [] h = absurd (h refl)
member_of-some left (m ∷ ms) h = refl

-- a list of two or more in parentheses
pub grouped-some : (depth : ℕ) (inner : Goal → Parser Tree) (b : Bool) (p : Place) (x : Tree) (more : List Expr)
    → more ≢ []
    → grouped depth inner b p x (map view more)
    ≡ (in_name >>= λ m. in_names >>= λ ms. pure (t.group p (trees_of (x ∷ map view more)) (m ∷ ms)))
grouped-some depth inner b p x [] h = absurd (h refl)
grouped-some depth inner b p x (y ∷ more) h = refl
