-- Steps, and the statements that one is taken before.
use Rattle.std.proofs.Common.{◌≡◌, refl, sym, ap, ◌∙◌, ℕ, suc, ◌<◌, ◌≤◌, Bool, true, false, List, [], ◌∷◌, length, map}
use Rattle.std.proofs.Common.{arith}
use Rattle.std.proofs.lemmas.Bool.Decides.{nat_tests}
use Rattle.std.specs.Prelude.{Ok, Err, nat_lt, ◌==◌, if◌then◌else◌}
use Rattle.awk_program.specs.Program as p
use Rattle.awk_program.specs.Program.{statements_of}
use Rattle.awk_program.specs.View.{Names, view_statement}
use Rattle.awk_program.specs.declared.statements.Statement.{Statement}
use Rattle.awk_program.specs.declared.statements.Statement.TheVariants as s
use Rattle.awk_program.specs.declared.statements.Statement.TheOpen.{Statement-F}
use Rattle.awk_program.specs.declared.statements.Statement.TheViews.{roll-Statement, out-Statement, roll-out-Statement}
use Rattle.awk_program.proofs.Views as views
use Rattle.awk_machine.specs.Pieces.{Piece, Do, Step}
use Rattle.awk_machine.specs.Statements.{stepping}
use Rattle.awk_store.specs.Changes as changes
use Rattle.awk_store.specs.Kept.{Kept}
use Rattle.awk_streams.specs.Tables.{Table}
use Rattle.awk_streams.specs.declared.halt.Halt.TheVariants as halt
use Rattle.awk_store.specs.Steps.{Steps}

-- ---- a step

is_less : (n m : ℕ) → nat_lt n m ≡ true → n < m
is_less n m e = grind (arith, nat_tests)

is_more : (n m : ℕ) → nat_lt n m ≡ false → m ≤ n
is_more n m e = grind (arith, nat_tests)

module _ (bound : ℕ) (old new : Kept) (t : Table) (left : Bool) (is : left ≡ nat_lt old.used bound)
    (after : new ≡ (if nat_lt old.used bound then changes.stepped old else old)) where
  pub taken : left ≡ true → Steps bound (old, t) (Ok (tt {0})) (new, t)
  taken e = (
    is_less old.used bound (sym is ∙ e),
    ap (λ k. (k, t)) (after ∙ ap (λ b. if b then changes.stepped old else old) (sym is ∙ e)),
  )

  pub none_left : left ≡ false → Steps bound (old, t) (Err halt.Cut) (new, t)
  none_left e = (
    refl,
    is_more old.used bound (sym is ∙ e),
    ap (λ k. (k, t)) (after ∙ ap (λ b. if b then changes.stepped old else old) (sym is ∙ e)),
  )

-- ---- blocks, and all other statements

not_none : (n : ℕ) (b : Bool) → (suc n == 0) ≡ b → (suc n == 0) ≡ false
not_none n true e = absurd (grind (arith, nat_tests))
not_none n false e = e

module _ (names : Names) (k : List Piece) where
  block_by : (xs : List Statement) → stepping (p.block (statements_of (map (view_statement names) xs))) k
      ≡ (if length xs == 0 then Do Step ∷ k else k)
  block_by [] = refl
  block_by (x ∷ xs) = sym (ap (λ b. if b then Do Step ∷ k else k) (not_none (length xs) (length (x ∷ xs) == 0) refl))

  pub of_block : (x : Statement) (xs ys : List Statement) (b : Bool) → x ≡ s.Block xs → ys ≡ xs → b ≡ (length ys == 0)
      → stepping (view_statement names x) k ≡ (if b then Do Step ∷ k else k)
  of_block x xs ys b is same e =
      ap (λ y. stepping (view_statement names y) k) is ∙ ap (λ y. stepping y k) (views.statement-Block names xs)
      ∙ block_by xs
      ∙ ap (λ zs. if length zs == 0 then Do Step ∷ k else k) (sym same) ∙ ap (λ b. if b then Do Step ∷ k else k) (sym e)

  told : (x y : Statement) (z : p.Statement) → x ≡ y → view_statement names y ≡ z → stepping z k ≡ Do Step ∷ k
      → stepping (view_statement names x) k ≡ Do Step ∷ k
  told x y z is view e = ap (λ u. stepping (view_statement names u) k) is ∙ ap (λ u. stepping u k) view ∙ e

  by_form : (d : Statement-F Statement) (x : Statement) → x ≡ roll-Statement d → ((xs : List Statement) → x ≡ s.Block xs
      → ⊥) → stepping (view_statement names x) k ≡ Do Step ∷ k
  by_form (Statement-F.Expr a) x e not = told x _ _ (e ∙ s.rolls-Expr a) (views.statement-Expr names a) refl
  by_form (Statement-F.Print q xs r) x e not = told x _ _ (e ∙ s.rolls-Print q xs r)
      (views.statement-Print names q xs r) refl
  by_form (Statement-F.Printf q a xs r) x e not = told x _ _ (e ∙ s.rolls-Printf q a xs r)
      (views.statement-Printf names q a xs r) refl
  by_form (Statement-F.Delete q a xs) x e not = told x _ _ (e ∙ s.rolls-Delete q a xs)
      (views.statement-Delete names q a xs) refl
  by_form (Statement-F.DeleteAll a) x e not = told x _ _ (e ∙ s.rolls-DeleteAll a) (views.statement-DeleteAll names a)
      refl
  by_form (Statement-F.Jump which) x e not = told x _ _ (e ∙ s.rolls-Jump which) (views.statement-Jump names which) refl
  by_form (Statement-F.Exit q a) x e not = told x _ _ (e ∙ s.rolls-Exit q a) (views.statement-Exit names q a) refl
  by_form (Statement-F.Return a) x e not = told x _ _ (e ∙ s.rolls-Return a) (views.statement-Return names a) refl
  by_form (Statement-F.Block xs) x e not = absurd (not xs (e ∙ s.rolls-Block xs))
  by_form (Statement-F.If a y) x e not = told x _ _ (e ∙ s.rolls-If a y) (views.statement-If names a y) refl
  by_form (Statement-F.IfElse a y z) x e not = told x _ _ (e ∙ s.rolls-IfElse a y z)
      (views.statement-IfElse names a y z) refl
  by_form (Statement-F.While a y) x e not = told x _ _ (e ∙ s.rolls-While a y) (views.statement-While names a y) refl
  by_form (Statement-F.Do y a) x e not = told x _ _ (e ∙ s.rolls-Do y a) (views.statement-Do names y a) refl
  by_form (Statement-F.For a b c y) x e not = told x _ _ (e ∙ s.rolls-For a b c y) (views.statement-For names a b c y)
      refl
  by_form (Statement-F.ForIn q a b y) x e not = told x _ _ (e ∙ s.rolls-ForIn q a b y)
      (views.statement-ForIn names q a b y) refl

  pub of_other : (x : Statement) → ((xs : List Statement) → x ≡ s.Block xs → ⊥) → stepping (view_statement names x) k
      ≡ Do Step ∷ k
  of_other x not = by_form (out-Statement x) x (sym (roll-out-Statement x)) not
