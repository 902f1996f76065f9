-- A pattern as a row of cells, without empty steps between them.
use Rattle.std.specs.Prelude.{◌≡◌, ℕ, zero, suc, Bool, true, false, ◌&&◌, ◌||◌, List, [], ◌∷◌, if◌then◌else◌}
use Rattle.box_policy.specs.Division.{Symbol}

-- before a symbol that stands for one element: the elements that may be passed over, and those that lead behind it
pub record Cell (A : Type 0) : Type 0 where
  pub loop : A → Bool
  pub test : A → Bool

abbrev pub cell : {A : Type 0} → (A → Bool) → (A → Bool) → Cell A
cell loop test = record { loop = loop; test = test }

abbrev pub never : {A : Type 0} → A → Bool
never x = false

-- the cells of a pattern behind runs of elements that pass; the last one stands behind all
abbrev pub row : {A : Type 0} → (A → Bool) → List (Symbol A) → List (Cell A)
row passes [] = cell passes never ∷ []
row passes (symbol ∷ symbols) =
    if symbol.is_run then row (λ x. passes x || symbol.test x) symbols else cell passes symbol.test ∷ row never symbols

abbrev pub is_nil : {A : Type 0} → List A → Bool
is_nil [] = true
is_nil (x ∷ xs) = false

-- the elements lead from the first cell to the last one
abbrev pub row_fits : {A : Type 0} → List (Cell A) → List A → Bool
row_fits [] subject = false
row_fits (c ∷ cs) [] = is_nil cs
row_fits (c ∷ cs) (x ∷ xs) = (c.loop x && row_fits (c ∷ cs) xs) || (c.test x && row_fits cs xs)

-- the elements that cell k passes over, and those that lead behind it
abbrev pub loop_at : {A : Type 0} → List (Cell A) → ℕ → A → Bool
loop_at [] k x = false
loop_at (c ∷ cs) zero x = c.loop x
loop_at (c ∷ cs) (suc k) x = loop_at cs k x

abbrev pub test_at : {A : Type 0} → List (Cell A) → ℕ → A → Bool
test_at [] k x = false
test_at (c ∷ cs) zero x = c.test x
test_at (c ∷ cs) (suc k) x = test_at cs k x

-- the subject leads from some cell that is reached to the last one
abbrev pub reach : {A : Type 0} → (ℕ → Bool) → List (Cell A) → List A → Bool
reach reached [] subject = false
reach reached (c ∷ cs) subject = (reached 0 && row_fits (c ∷ cs) subject) || reach (λ k. reached (suc k)) cs subject

-- the cells that an element leads to: it leads from the cell before, or to the first one where it is moved to
abbrev pub came : {A : Type 0} → (ℕ → Bool) → Bool → List (Cell A) → ℕ → A → Bool
came reached moved cs zero x = moved
came reached moved cs (suc k) x = reached k && test_at cs k x

-- the symbols that stand for one element
abbrev pub ones : {A : Type 0} → List (Symbol A) → ℕ
ones [] = 0
ones (symbol ∷ symbols) = if symbol.is_run then ones symbols else suc (ones symbols)

-- of the runs that follow at once each is inside the run
abbrev pub IsInside : {A : Type 0} → (A → Bool) → List (Symbol A) → Type 0
IsInside passes [] = Unit {0}
IsInside passes (symbol ∷ symbols) = symbol.is_run ≡ true → (x : _) → symbol.test x ≡ true → passes x ≡ true

abbrev pub IsNested : {A : Type 0} → List (Symbol A) → Type 0
IsNested [] = Unit {0}
IsNested (symbol ∷ symbols) = (symbol.is_run ≡ true → IsInside symbol.test symbols) × IsNested symbols

-- one number is the other
abbrev pub is_at : ℕ → ℕ → Bool
is_at zero zero = true
is_at zero (suc n) = false
is_at (suc k) zero = false
is_at (suc k) (suc n) = is_at k n
