-- The steps that a run takes never pass the bound.
use Rattle.std.proofs.Common.{◌≡◌, ◌≤◌, ◌<◌, ◌+◌, ℕ, Bool, true, false, List, Option, refl, arith, nat_lt}
use Rattle.std.specs.Prelude.{Some, None, if◌then◌else◌, [], ◌∷◌}
use Rattle.std.proofs.lemmas.Bool.Decides.{nat_tests}
use Rattle.box_world.specs.declared.ask.Reply.{Reply}
use Rattle.box_world.specs.Events.{Named, Shuts, Want, Stream, open_streams}
use Rattle.awk_machine.specs.Advances.{known, asked_by, over_by, held}
use Rattle.awk_machine.specs.Laws.{WithinBound}
use Rattle.awk_machine.specs.Moves.{move}
use Rattle.awk_machine.specs.Pieces.{nowhere, Piece, Next, Goes, Steps, Asks, Seeks, Over, Outcome, Cut, ends}
use Rattle.awk_machine.specs.Plays.{Reaches, here, goes, steps, asks, seeks}
use Rattle.awk_machine.specs.State.{State, Course, Given}
use Rattle.awk_machine.specs.Streams.{want, seen}

-- ---- a step is taken only below the bound

asked-steps : (known : Option Reply) (w : Want) (then_ : Reply → List Piece) (s t : State) (l : List Piece)
    → asked_by known w then_ s ≡ Steps l t → ⊥
asked-steps (Some r) w then_ s t l e = cc
asked-steps None w then_ s t l e = cc

over-steps : (xs : List Stream) (o : Outcome) (s t : State) (l : List Piece) → over_by xs o s ≡ Steps l t → ⊥
over-steps [] o s t l e = cc
over-steps (x ∷ xs) o s t l e =
    asked-steps (known (Shuts (Named x.class x.text)) s.course.events) (want nowhere (Shuts (Named x.class x.text)))
    (λ r. ends o) s t l e

less : (n m : ℕ) → nat_lt n m ≡ true → n < m
less n m h = grind (arith, nat_tests)

below_by : (b : Bool) (n m : ℕ) (k l : List Piece) (t u : State) → nat_lt n m ≡ b
    → (if b then Steps k t else Goes (ends Cut) t) ≡ Steps l u → n < m
below_by true n m k l t u h e = less n m h
below_by false n m k l t u h e = absurd (cc)

below : (g : Given) (s : State) (x : Next) (l : List Piece) (u : State) → held g s x ≡ Steps l u
    → s.course.used < g.bound
below g s (Goes k t) l u e = absurd (cc)
below g s (Steps k t) l u e = below_by (nat_lt s.course.used g.bound) s.course.used g.bound k l t u refl e
below g s (Asks w then_ t) l u e = absurd (asked-steps (known w.wish s.course.events) w then_ t u l e)
below g s (Seeks q then_ t) l u e = absurd (cc)
below g s (Over o) l u e = absurd (over-steps (open_streams s.course.events) o s u l e)

-- ---- so it is through a chain

bounded : {g : Given} {k m : List Piece} {s u : State} {c d : Course} → Reaches g k s c m u d → c.used ≤ g.bound
    → d.used ≤ g.bound
bounded here h = h
bounded (goes e x) h = bounded x h
bounded {g = g} {k = k} {s = s} {c = c} (steps {l = l} {t = t} e x) h =
    let b : c.used < g.bound = below g (seen s c) (move g k (seen s c)) l t e in
    let f : c.used + 1 ≤ g.bound = omega (arith, b) in
    bounded x f
bounded (asks r e fits x) h = bounded x h
bounded (seeks a e is x) h = bounded x h

pub within_bound : WithinBound
within_bound g es o n w x = let z : 0 ≤ g.bound = omega arith in bounded x.chain z
