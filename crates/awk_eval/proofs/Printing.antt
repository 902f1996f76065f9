-- print, printf and `delete array [ list ]`: the items, the target, and what is done with a value that no request
-- answers.
use Rattle.std.proofs.Common.{◌≡◌, refl, sym, ap, ◌∙◌, ℕ, ◌+◌, zero, suc, List, [], ◌∷◌, ◌++◌, length, reverse, map}
use Rattle.std.proofs.Common.{arith}
use Rattle.std.specs.Prelude.{Err, Option, Some, None, slice_get}
use Rattle.std.proofs.lemmas.List.{length-reverse, length-map}
use Rattle.awk_text.specs.declared.place.Place.{Place}
use Rattle.awk_text.specs.declared.value.Value.{Value}
use Rattle.awk_text.specs.Values.{text_of}
use Rattle.box_world.specs.Events.{Named}
use Rattle.box_world.specs.declared.world.World.{Ghosts}
use Rattle.awk_program.specs.Program as p
use Rattle.awk_program.specs.Program.{Expression}
use Rattle.awk_program.specs.declared.statements.Redirection.{Redirection}
use Rattle.awk_machine.specs.Advances.{advance, held}
use Rattle.awk_machine.specs.Forms.{value, each_by}
use Rattle.awk_program.specs.Slots.{Text}
use Rattle.awk_machine.specs.Pieces.{Part, Piece, At, Close, Do, Doing, Open, Put, Value_of, Goes, Then}
use Rattle.awk_machine.specs.Printing.{class_of, mode_of, target_of}
use Rattle.awk_machine.specs.State.{State, Given}
use Rattle.awk_streams.specs.declared.halt.Halt.{Halt}
use Rattle.awk_streams.specs.Chains.{Meets}
use Rattle.awk_store.specs.Wholes.{Whole, Agreeing, base, used}
use Rattle.awk_forms.specs.Runs.{Waits}
use Rattle.awk_forms.proofs.Turns.{waits_each}

-- ---- the items

within : {X : Type 0} (xs ys : List X) (m : ℕ) (x : X) → slice_get xs m ≡ Some x → slice_get (xs ++ ys) m ≡ Some x
within [] ys m x e = absurd (cc)
within (z ∷ xs) ys zero x e = e
within (z ∷ xs) ys (suc m) x e = within xs ys m x e

behind : {X : Type 0} (xs : List X) (y : X) (n : ℕ) → n ≡ length xs → slice_get (xs ++ y ∷ []) n ≡ Some y
behind [] y n e = ap (slice_get (y ∷ [])) e
behind (x ∷ xs) y zero e = absurd (let h = e in omega (arith, h))
behind (x ∷ xs) y (suc n) e = behind xs y n (let h = e in omega (arith, h))

none_plus : (m : ℕ) → 0 + m ≡ m
none_plus m = omega (arith)

one_plus : (m : ℕ) → 1 + m ≡ suc m
one_plus m = omega (arith)

pub waits_printed : (g : Given) (place : Place) (xs : List Expression) (r : Option (Redirection Expression))
    → Waits g (Doing (p.print place xs r)) 0 xs
waits_printed g place xs r =
    waits_each g (Doing (p.print place xs r)) (xs ++ target_of r) xs 0 _ (λ vs k s. refl)
    (λ m x got. ap (slice_get (xs ++ target_of r)) (none_plus m) ∙ within xs (target_of r) m x got) (λ vs k. refl)

pub waits_formatted : (g : Given) (place : Place) (x : Expression) (xs : List Expression)
    (r : Option (Redirection Expression)) → Waits g (Doing (p.printf place x xs r)) 1 xs
waits_formatted g place x xs r =
    waits_each g (Doing (p.printf place x xs r)) ((x ∷ xs) ++ target_of r) xs 1 _ (λ vs k s. refl)
    (λ m y got. ap (slice_get ((x ∷ xs) ++ target_of r)) (one_plus m) ∙ within xs (target_of r) m y got)
    (λ vs k. refl)

pub waits_deleted : (g : Given) (place : Place) (a : p.Variable) (xs : List Expression)
    → Waits g (Doing (p.delete place a xs)) 0 xs
waits_deleted g place a xs = waits_each g (Doing (p.delete place a xs)) xs xs 0 _ (λ vs k s. refl)
    (λ m x got. ap (slice_get xs) (none_plus m) ∙ got) (λ vs k. refl)

-- ---- the target

targeted : (g : Given) (part : Part) (xs : List Expression) (r : Redirection Expression) (vs : List Value)
    (f : List Value → Then) → length xs ≡ length vs → (k : List Piece) (s : State) →
    held g s (each_by (slice_get (xs ++ r.target ∷ []) (length (reverse vs))) part f (reverse vs) k s)
    ≡ Goes (value r.target ∷ At part (reverse vs) ∷ k) s
targeted g part xs r vs f count k s = ap (λ o. held g s (each_by o part f (reverse vs) k s))
    (behind xs r.target (length (reverse vs)) (length-reverse vs ∙ sym count))

pub print_target : (g : Given) (place : Place) (xs : List Expression) (r : Redirection Expression) (vs : List Value)
    → length xs ≡ length vs → (k : List Piece) (s : State) →
    advance g (At (Doing (p.print place xs (Some r))) (reverse vs) ∷ k) s
    ≡ Goes (value r.target ∷ At (Doing (p.print place xs (Some r))) (reverse vs) ∷ k) s
print_target g place xs r vs count k s = targeted g (Doing (p.print place xs (Some r))) xs r vs _ count k s

pub printf_target : (g : Given) (place : Place) (x : Expression) (xs : List Expression) (r : Redirection Expression)
    (vs : List Value) → length (x ∷ xs) ≡ length vs → (k : List Piece) (s : State) →
    advance g (At (Doing (p.printf place x xs (Some r))) (reverse vs) ∷ k) s
    ≡ Goes (value r.target ∷ At (Doing (p.printf place x xs (Some r))) (reverse vs) ∷ k) s
printf_target g place x xs r vs count k s = targeted g (Doing (p.printf place x xs (Some r))) (x ∷ xs) r vs _ count k s

-- the stream of this name is opened, and the text put to it
abbrev pub streamed : Redirection Expression → Text → Text → List Piece → List Piece
streamed r name text k = Do (Open r.place (mode_of r.how) (class_of r.how) name) ∷ Do
    (Put r.place (Named (class_of r.how) name) text) ∷ k

pub count_items : {X : Type 0} (f : X → Expression) (xs : List X) (had has : List Value) → had ≡ []
    → length has ≡ length had + length xs → length (map f xs) ≡ length has
count_items f xs had has none e = let a = length-map xs f in let b = rw none at e in omega (arith, a, b)

pub count_formatted : {X : Type 0} (f : X → Expression) (x : Expression) (xs : List X) (had has : List Value)
    (y : Value) → had ≡ y ∷ [] → length has ≡ length had + length xs → length (x ∷ map f xs) ≡ length has
count_formatted f x xs had has y one e = let a = length-map xs f in let b = rw one at e in omega (arith, a, b)

-- ---- what is halted is halted wherever its value would have gone

pub halts : {W A B : Type 0} {ghosts : Ghosts W} {g : Given} {q : Piece} {to : A → List Piece → List Piece} {on : B
    → List Piece → List Piece} {old new : Whole} {w w' : W} (h : Halt) →
    Meets ghosts (base g) (Agreeing g) used g q to old w (Err h) new w'
    → Meets ghosts (base g) (Agreeing g) used g q on old w (Err h) new w'
halts h m = record { plays = λ first k hid c a. m.plays first k hid c a }
