-- What a task does to the table, it does to the whole: the store stays as it is.
use Rattle.std.proofs.Common.{ℕ, List, [], ◌∷◌}
use Rattle.std.specs.Prelude.{Result, Ok, Err, MatchResult}
use Rattle.box_world.specs.declared.world.World.{Ghosts}
use Rattle.awk_fields.specs.Rows.{Row}
use Rattle.awk_machine.specs.Pieces.{Piece}
use Rattle.awk_machine.specs.State.{State, Course, Given}
use Rattle.awk_streams.specs.declared.halt.Halt.{Halt}
use Rattle.awk_streams.specs.declared.halt.Halt.TheVariants as halt
use Rattle.awk_streams.specs.Chains.{Comes, Halted, Meets}
use Rattle.awk_streams.specs.Tables.{Table}
use Rattle.awk_streams.specs.Tasks.{MeetsTable, IsTable, Agrees, beside, whole}

module _ {W R : Type 0} (ghosts : Ghosts W) (base : R → Row → State) (Sound : R → Row → Type 0) (used : R
    → ℕ) (g : Given) (r : R) (row : Row) (sound : Sound r row) where
  lift_comes : (first w : W) (from k : List Piece) (s : State) (c : Course) (t : Table) →
      Comes ghosts (beside (record (base r row) { course = record { events = []; used = used r } })) IsTable
      (λ x. used r) g first from s c k t w →
      Comes ghosts (whole base) (Agrees Sound) (λ x. used x.0) g first from s c k (r, t) w
  lift_comes first w from k s c t x = record {
    course = x.course;
    hidden = record { taken = x.hidden; row = row };
    knows = record { leads = x.knows.leads; agrees = (x.knows.agrees, sound); spent = x.knows.spent };
    chain = x.chain;
  }

  lift_halted : (h : Halt) (first w : W) (from k : List Piece) (s : State) (c : Course) (t : Table) →
      Halted ghosts (beside (record (base r row) { course = record { events = []; used = used r } })) IsTable
      (λ x. used r) g first from s c k t w h →
      Halted ghosts (whole base) (Agrees Sound) (λ x. used x.0) g first from s c k (r, t) w h
  unfolding lift_comes
  lift_halted (halt.Fault fault place) first w from k s c t x = lift_comes first w from _ s c t x
  lift_halted halt.Cut first w from k s c t x = lift_comes first w from _ s c t x
  lift_halted halt.Next first w from k s c t x = lift_comes first w from _ s c t x
  lift_halted halt.Exit first w from k s c t x =
      record { phase = x.phase; comes = lift_comes first w from _ s c t x.comes; its_phase = x.its_phase }
  lift_halted halt.Memory first w from k s c t x = record {
    todo = x.todo;
    last = x.last;
    course = x.course;
    leads =
        x.leads;
    spent = x.spent;
    chain = x.chain;
    stands = x.stands;
  }
  lift_halted (halt.Log place) first w from k s c t x = record {
    todo = x.todo;
    last = x.last;
    course = x.course;
    want = x.want;
    ended = x.ended;
    spent = x.spent;
    chain = x.chain;
    stands = x.stands;
  }

  lift_result : {A : Type 0} (result : Result A Halt) (to : A → List Piece → List Piece) (first w : W)
      (from k : List Piece) (s : State) (c : Course) (t : Table) →
      MatchResult result (λ x. Comes ghosts
      (beside (record (base r row) { course = record { events = []; used = used r } })) IsTable (λ y. used r) g first
      from s c (to x k) t w)
      (λ h. Halted ghosts (beside (record (base r row) { course = record { events = []; used = used r } })) IsTable
      (λ y. used r) g first from s c k t w h) →
      MatchResult result (λ x. Comes ghosts (whole base) (Agrees Sound) (λ y. used y.0) g first from s c (to x k)
      (r, t) w)
      (λ h. Halted ghosts (whole base) (Agrees Sound) (λ y. used y.0) g first from s c k (r, t) w h)
  lift_result (Ok x) to first w from k s c t p = lift_comes first w from (to x k) s c t p
  lift_result (Err h) to first w from k s c t p = lift_halted h first w from k s c t p

-- A task of the table is one of the whole.
pub lifted : {W R A : Type 0} {ghosts : Ghosts W} (base : R → Row → State) (Sound : R → Row → Type 0) (used : R
    → ℕ) (g : Given) (r : R)
    {p : Piece} {to : A → List Piece → List Piece} {old new : Table} {w w' : W} {result : Result A Halt}
    → ((s : State) → MeetsTable ghosts g s p to old w result new w') →
    Meets ghosts (whole base) (Agrees Sound) (λ x. used x.0) g p to (r, old) w result (r, new) w'
lifted {ghosts = ghosts} base Sound used g r {p = p} {to = to} {old = old} {new = new} {w' = w'} {result = result} h =
    record {
      plays = λ first k hid c a.
          lift_result ghosts base Sound used g r hid.row a.agrees.1 result to first w' (p ∷ k) k _ c new
          ((h (record (base r hid.row) { course = record { events = []; used = used r } })).plays first k hid.taken c
          (record { leads = a.leads; agrees = a.agrees.0; spent = a.spent }));
    }
