-- Lists that are walked one by one.
use Rattle.std.proofs.Common.{◌≡◌, ◌∙◌, ℕ, zero, suc, arith, ◌+◌, ◌<◌, ◌≤◌, Option, None, Result, Ok, Err, inl, inr}
use Rattle.std.proofs.Common.{map, List, [], ◌∷◌, ◌++◌, length, get_or, drop, ap, sym, refl, append_assoc, append-nil}
use Rattle.std.proofs.lemmas.List.{drop_all}
use Rattle.awk_program.specs.declared.expressions.Argument.{Argument}
use Rattle.awk_program.specs.declared.expressions.Argument.TheVariants as argument
use Rattle.awk_program.specs.declared.expressions.Expr.{Expr}
use Rattle.awk_program.specs.declared.expressions.Piped.{Piped}
use Rattle.awk_program.specs.declared.program.Program as code
use Rattle.awk_program.specs.Slots.{Text}
use Rattle.awk_program.specs.View.{Names, view, view_target, view_arguments, view_pipes, view_statement, view_rule}
use Rattle.awk_program.specs.View.{view_function}
use Rattle.box_policy.specs.declared.policy.Kind.TheVariants.{Run}
use Rattle.box_listing.specs.declared.site.Behind.{Behind}
use Rattle.box_listing.specs.declared.site.Found.{Found}
use Rattle.box_listing.specs.declared.site.Sort.{Sort}
use Rattle.box_listing.specs.declared.site.Sort.TheVariants as sort
use Rattle.box_listing.specs.Walks.{Finds, Takes, left}
use Rattle.box_listing.specs.Sites as spec
use Rattle.box_listing.proofs.Finding.{Adds}
use Rattle.box_listing.proofs.Lists.{drop_here}

-- the first of a list, and then the rest
pub argument_first : (t : Names) (x : Argument Expr) (xs : List (Argument Expr)) →
    spec.arguments (view_arguments t (x ∷ xs)) ≡ spec.arguments (view_arguments t (x ∷ [])) ++ spec.arguments
    (view_arguments t xs)
argument_first t (argument.Value x) xs = ap (λ z. z ++ spec.arguments (view_arguments t xs))
    (sym (append-nil (spec.value (view t x))))
argument_first t (argument.Array v) xs = refl
argument_first t argument.Nothing xs = refl

pub piped_first : (t : Names) (text : Option Text) (x : Piped Expr) (xs : List (Piped Expr)) →
    spec.pipes text (view_pipes t (x ∷ xs)) ≡ spec.pipes text (view_pipes t (x ∷ [])) ++ spec.pipes None
    (view_pipes t xs)
piped_first t text x xs =
    ap (λ z. spec.site x.place Run text ++ (z ++ spec.pipes None (view_pipes t xs)))
    (sym (append-nil (spec.target (view_target t x.target))))

-- one turn of a walk over a list
pub turn : {X : Type 0} (found : Names → List X → List Found) (one : Names → List Found) (old mid new : List Found)
    (xs : List X) (i : ℕ) (x : X) → i < length xs → x ≡ get_or xs i x →
    ((t : Names) (ys : List X) → found t (x ∷ ys) ≡ one t ++ found t ys) → Adds mid new one →
    ((t : Names) → old ++ found t xs ≡ mid ++ found t (drop i xs)) → (t : Names)
    → old ++ found t xs ≡ new ++ found t (drop (i + 1) xs)
turn found one old mid new xs i x h e first added so_far t =
    so_far t ∙ ap (λ ys. mid ++ found t ys) (drop_here xs i x h e) ∙ ap (λ z. mid ++ z) (first t (drop (i + 1) xs))
    ∙ sym (append_assoc mid (one t) (found t (drop (i + 1) xs))) ∙ ap (λ z. z ++ found t (drop (i + 1) xs))
    (sym (added t))

-- and its end
pub all_found : {X : Type 0} (found : Names → List X → List Found) (old new : List Found) (xs : List X) (i : ℕ)
    → length xs ≤ i → ((t : Names) → found t [] ≡ []) →
    ((t : Names) → old ++ found t xs ≡ new ++ found t (drop i xs)) → Adds old new (λ t. found t xs)
all_found found old new xs i h none so_far t =
    sym (so_far t ∙ ap (λ ys. new ++ found t ys) (drop_all i xs h) ∙ ap (λ z. new ++ z) (none t) ∙ append-nil new)

-- the same of a chain: what is known of the first command is known of no later one
pub turn_pipes : (first known : Option Text) (old mid : List Found) {new : List Found} (xs : List (Piped Expr)) (i : ℕ)
    (x : Piped Expr) → i < length xs → x ≡ get_or xs i x →
    Adds mid new (λ t. spec.pipes known (view_pipes t (x ∷ []))) →
    ((t : Names) → old ++ spec.pipes first (view_pipes t xs) ≡ mid ++ spec.pipes known (view_pipes t (drop i xs))) →
    (t : Names) → old ++ spec.pipes first (view_pipes t xs) ≡ new ++ spec.pipes None (view_pipes t (drop (i + 1) xs))
turn_pipes first known old mid {new} xs i x h e added so_far t =
    so_far t ∙ ap (λ ys. mid ++ spec.pipes known (view_pipes t ys)) (drop_here xs i x h e) ∙ ap (λ z. mid ++ z)
    (piped_first t known x (drop (i + 1) xs))
    ∙ sym (append_assoc mid (spec.pipes known (view_pipes t (x ∷ [])))
    (spec.pipes None (view_pipes t (drop (i + 1) xs))))
    ∙ ap (λ z. z ++ spec.pipes None (view_pipes t (drop (i + 1) xs))) (sym (added t))

pub all_pipes : (first known : Option Text) (old new : List Found) (xs : List (Piped Expr)) (i : ℕ) → length xs ≤ i →
    ((t : Names) → old ++ spec.pipes first (view_pipes t xs) ≡ new ++ spec.pipes known (view_pipes t (drop i xs)))
    → Adds old new (λ t. spec.pipes first (view_pipes t xs))
all_pipes first known old new xs i h so_far t =
    sym (so_far t ∙ ap (λ ys. new ++ spec.pipes known (view_pipes t ys)) (drop_all i xs h) ∙ append-nil new)

-- ---- the items of each sort

step : {X : Type 0} (found : Names → X → List Found) (A B : Names → List X → List Found) (xs : List X) (at n : ℕ)
    (old new : List Found) → ((t : Names) → A t [] ≡ B t []) →
    ((t : Names) (x : X) (ys : List X) → A t (x ∷ ys) ≡ found t x ++ B t ys) → Takes found xs at n old new → (t : Names)
    → old ++ A t (drop at xs) ≡ new ++ B t (drop n xs)
step found A B xs at n old new none some (inl h) t =
    ap (λ ys. old ++ A t ys) h.0 ∙ ap (λ z. old ++ z) (none t) ∙ sym (ap (λ ys. old ++ B t ys) h.0)
    ∙ ap (λ k. old ++ B t (drop k xs)) (sym h.1) ∙ ap (λ z. z ++ B t (drop n xs)) (sym h.2)
step found A B xs at n old new none some (inr h) t =
    ap (λ ys. old ++ A t ys) h.1 ∙ ap (λ z. old ++ z) (some t h.0 (drop n xs))
    ∙ sym (append_assoc old (found t h.0) (B t (drop n xs))) ∙ ap (λ z. z ++ B t (drop n xs)) (sym (h.2 t))

module _ (program : code.Program) (at : Behind) (n : ℕ) (old new : List Found) where
  pub next_begin : Takes (λ t x. spec.all_done (map (view_statement t) x)) program.begin at.begin n old new
      → (t : Names) (more : List Sort) →
      old ++ left (sort.Begin ∷ more) at t program ≡ new ++ left more (record at { begin = n }) t program
  next_begin h t more =
      step (λ t x. spec.all_done (map (view_statement t) x))
      (λ t ys. spec.items (sort.Begin ∷ more) (map (map (view_statement t)) ys)
      (map (view_rule t) (drop at.rules program.rules)) (map (map (view_statement t)) (drop at.end program.end))
      (map (view_function t) (drop at.functions program.functions)))
      (λ t ys. spec.items more (map (map (view_statement t)) ys) (map (view_rule t) (drop at.rules program.rules))
      (map (map (view_statement t)) (drop at.end program.end))
      (map (view_function t) (drop at.functions program.functions)))
      program.begin at.begin n old new (λ t. refl) (λ t x ys. refl) h t

  pub next_rule : Takes (λ t x. spec.rule (view_rule t x)) program.rules at.rules n old new
      → (t : Names) (more : List Sort) →
      old ++ left (sort.Rule ∷ more) at t program ≡ new ++ left more (record at { rules = n }) t program
  next_rule h t more =
      step (λ t x. spec.rule (view_rule t x))
      (λ t ys. spec.items (sort.Rule ∷ more) (map (map (view_statement t)) (drop at.begin program.begin))
      (map (view_rule t) ys) (map (map (view_statement t)) (drop at.end program.end))
      (map (view_function t) (drop at.functions program.functions)))
      (λ t ys. spec.items more (map (map (view_statement t)) (drop at.begin program.begin)) (map (view_rule t) ys)
      (map (map (view_statement t)) (drop at.end program.end))
      (map (view_function t) (drop at.functions program.functions)))
      program.rules at.rules n old new (λ t. refl) (λ t x ys. refl) h t

  pub next_end : Takes (λ t x. spec.all_done (map (view_statement t) x)) program.end at.end n old new
      → (t : Names) (more : List Sort) →
      old ++ left (sort.End ∷ more) at t program ≡ new ++ left more (record at { end = n }) t program
  next_end h t more =
      step (λ t x. spec.all_done (map (view_statement t) x))
      (λ t ys. spec.items (sort.End ∷ more) (map (map (view_statement t)) (drop at.begin program.begin))
      (map (view_rule t) (drop at.rules program.rules)) (map (map (view_statement t)) ys)
      (map (view_function t) (drop at.functions program.functions)))
      (λ t ys. spec.items more (map (map (view_statement t)) (drop at.begin program.begin))
      (map (view_rule t) (drop at.rules program.rules)) (map (map (view_statement t)) ys)
      (map (view_function t) (drop at.functions program.functions)))
      program.end at.end n old new (λ t. refl) (λ t x ys. refl) h t

  pub next_function : Takes (λ t x. spec.all_done (map (view_statement t) x.body)) program.functions at.functions n old
      new → (t : Names) (more : List Sort) →
      old ++ left (sort.Function ∷ more) at t program ≡ new ++ left more (record at { functions = n }) t program
  next_function h t more =
      step (λ t x. spec.all_done (map (view_statement t) x.body))
      (λ t ys. spec.items (sort.Function ∷ more) (map (map (view_statement t)) (drop at.begin program.begin))
      (map (view_rule t) (drop at.rules program.rules)) (map (map (view_statement t)) (drop at.end program.end))
      (map (view_function t) ys))
      (λ t ys. spec.items more (map (map (view_statement t)) (drop at.begin program.begin))
      (map (view_rule t) (drop at.rules program.rules)) (map (map (view_statement t)) (drop at.end program.end))
      (map (view_function t) ys))
      program.functions at.functions n old new (λ t. refl) (λ t x ys. refl) h t

same_at : {X : Type 0} (xs : List X) (i : ℕ) (d e : X) → i < length xs → get_or xs i d ≡ get_or xs i e
same_at [] i d e h = absurd (omega (arith, h))
same_at (x ∷ xs) zero d e h = refl
same_at (x ∷ xs) (suc i) d e h = same_at xs i d e (omega (arith, h))

-- one turn of the walk over the order
pub in_turn : (program : code.Program) (order : List Sort) (i : ℕ) (d : Sort) (start at next : Behind)
    (old mid new : List Found) → i < length order →
    ((t : Names) (more : List Sort) → mid ++ left (get_or order i d ∷ more) at t program ≡ new
    ++ left more next t program) →
    ((t : Names) → old ++ left order start t program ≡ mid ++ left (drop i order) at t program) →
    (t : Names) → old ++ left order start t program ≡ new ++ left (drop (i + 1) order) next t program
in_turn program order i d start at next old mid new below one so_far t =
    so_far t ∙ ap (λ xs. mid ++ left xs at t program) (drop_here order i (get_or order i d) below
    (same_at order i d (get_or order i d) below)) ∙ one t (drop (i + 1) order)

-- and its end
pub after_turns : {A E : Type 0} (r : Result A E) (program : code.Program) (order : List Sort) (i : ℕ)
    (start at : Behind) (old mid new : List Found) → length order ≤ i →
    ((t : Names) → old ++ left order start t program ≡ mid ++ left (drop i order) at t program)
    → Finds r mid new (λ t. left [] at t program) →
    Finds r old new (λ t. left order start t program)
after_turns (Ok x) program order i start at old mid new past so_far last = λ t.
    last t ∙ sym (so_far t ∙ ap (λ xs. mid ++ left xs at t program) (drop_all i order past))
after_turns (Err x) program order i start at old mid new past so_far last = tt
