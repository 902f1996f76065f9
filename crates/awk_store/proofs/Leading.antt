-- What asks nothing of the world, in any world: jumps, and steps.
use Rattle.std.proofs.Common.{◌≡◌, refl, sym, ap, subst, ◌∙◌, ℕ, ◌<◌, ◌≤◌, Bool, true, false, List, ◌∷◌, arith}
use Rattle.std.proofs.lemmas.Bool.Decides.{nat_tests}
use Rattle.std.specs.Prelude.{Result, Ok, Err, nat_lt, if◌then◌else◌}
use Rattle.box_world.specs.Events.{Key}
use Rattle.box_world.specs.declared.world.World.{Ghosts}
use Rattle.awk_machine.specs.Advances.{advance}
use Rattle.awk_machine.specs.Pieces.{Piece, Goes, Steps as Stepping, Do, Step, Cut, ends}
use Rattle.awk_machine.specs.State.{State, Course, Given}
use Rattle.awk_machine.specs.Streams.{seen, with_step}
use Rattle.awk_store.specs.States.{phase_of}
use Rattle.awk_streams.specs.Chains.{Leads, Meets}
use Rattle.awk_streams.specs.Tables.{Table}
use Rattle.awk_streams.specs.Tasks.{goes_on, IsTable}
use Rattle.awk_streams.specs.declared.halt.Halt.{Halt}
use Rattle.awk_streams.specs.declared.halt.Halt.TheVariants as halt
use Rattle.awk_streams.proofs.Chain.{at_once, stepped, done, closed, cut, nexts, exits}
use Rattle.awk_store.specs.Acts.{Passes}
use Rattle.awk_store.specs.Wholes.{Whole, Agreeing, base, used}
use Rattle.awk_store.specs.Jumps.{Jumps}
use Rattle.awk_store.specs.Steps.{Steps}

-- ---- jumps

module _ {W : Type 0} {ghosts : Ghosts W} {g : Given} {p : Piece} {old new : Whole} {w : W} where
  pub led : {to : List Piece → List Piece} → Passes g p old to new
      → Leads ghosts (base g) (Agreeing g) used g p old w to new w
  led h = record {
    plays = λ first k hid c a. let y = h.settles k hid c a.agrees in
        record {
          course = c;
          hidden = y.hidden;
          knows = record {
            leads = a.leads;
            agrees = y.agrees;
            spent =
                a.spent ∙ sym h.same;
          };
          chain = y.chain;
        };
  }

  pub jumped : {A : Type 0} {to : A → List Piece → List Piece} (h : Halt) → Jumps g p old h new
      → Meets ghosts (base g) (Agreeing g) used g p to old w (Err h) new w
  jumped (halt.Fault fault place) x = closed (led x)
  jumped halt.Next x = nexts (led x)
  jumped halt.Exit x = exits (phase_of new.0.phase) (λ hid. refl) (led x)
  jumped halt.Cut x = absurd x
  jumped halt.Memory x = absurd x
  jumped (halt.Log place) x = absurd x

-- ---- steps

again : {t : Table} {taken : Key → ℕ} {c : Course} → IsTable t taken c → IsTable t taken (with_step c)
again x = record {
  streams = x.streams;
  distinct = x.distinct;
  inputs = λ key input e. let r = x.inputs key input e in
      record { unread = r.unread; ended = r.ended; within = r.within };
}

pub is_below : (n m : ℕ) (b : Bool) → n < m → nat_lt n m ≡ b → nat_lt n m ≡ true
is_below n m true h e = e
is_below n m false h e = absurd (grind (arith, nat_tests))

pub is_above : (n m : ℕ) (b : Bool) → m ≤ n → nat_lt n m ≡ b → nat_lt n m ≡ false
is_above n m true h e = absurd (grind (arith, nat_tests))
is_above n m false h e = e

takes_now : (g : Given) (k : List Piece) (s : State) → s.course.used < g.bound
    → advance g (Do Step ∷ k) s ≡ Stepping k s
takes_now g k s h = ap (λ b. if b then Stepping k s else Goes (ends Cut) s)
    (is_below s.course.used g.bound (nat_lt s.course.used g.bound) h refl)

cut_now : (g : Given) (k : List Piece) (s : State) → g.bound ≤ s.course.used
    → advance g (Do Step ∷ k) s ≡ Goes (ends Cut) s
cut_now g k s h = ap (λ b. if b then Stepping k s else Goes (ends Cut) s)
    (is_above s.course.used g.bound (nat_lt s.course.used g.bound) h refl)

module _ {W : Type 0} {ghosts : Ghosts W} {g : Given} {old new : Whole} {w : W} where
  takes_at : (r : Result (Unit {0}) Halt) → Steps g.bound old r new
      → Meets ghosts (base g) (Agreeing g) used g {A = Unit {0}} (Do Step) goes_on old w r new w
  takes_at (Ok u) (below, is) =
      subst (λ n. Meets ghosts (base g) (Agreeing g) used g {A = Unit {0}} (Do Step) goes_on old w (Ok u) n w) (sym is)
      (done (stepped below refl (at_once _ _ _) (λ k hid c under a. (
        hid,
        record { tells = again a.tells; row = a.row; cells = a.cells; sound = a.sound },
        takes_now g k (seen (base g old hid) c) under,
      ))))
  takes_at (Err h) (is, over, same) =
      subst (λ n. Meets ghosts (base g) (Agreeing g) used g {A = Unit {0}} (Do Step) goes_on old w (Err h) n w)
      (sym same)
      (subst (λ x. Meets ghosts (base g) (Agreeing g) used g {A = Unit {0}} (Do Step) goes_on old w (Err x) old w)
      (sym is)
      (cut over (at_once _ _ _) (λ k hid c above. cut_now g k (seen (base g old hid) c) above)))

  pub takes : {bound : ℕ} {r : Result (Unit {0}) Halt} → g.bound ≡ bound → Steps bound old r new
      → Meets ghosts (base g) (Agreeing g) used g {A = Unit {0}} (Do Step) goes_on old w r new w
  takes {r = r} e s = takes_at r (subst (λ n. Steps n old r new) (sym e) s)
