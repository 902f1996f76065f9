-- What a task does to the streams, it does to the whole that a run holds: the store stays as it is.
use Rattle.std.proofs.Common.{◌≡◌, List, [], ◌∷◌}
use Rattle.std.specs.Prelude.{Result, Ok, Err, MatchResult, length}
use Rattle.box_world.specs.declared.world.World.{Ghosts}
use Rattle.awk_fields.specs.Rows.{Row, IsKept}
use Rattle.awk_machine.specs.Pieces.{Piece}
use Rattle.awk_machine.specs.State.{State, Course, Given}
use Rattle.awk_program.specs.Slots.{name_of}
use Rattle.awk_program.specs.declared.variables.Own.{Own}
use Rattle.awk_machine.specs.Variables.{own_text}
use Rattle.awk_store.proofs.Reading as law
use Rattle.awk_store.specs.Kept as kept
use Rattle.awk_store.specs.Kept.{Kept}
use Rattle.awk_store.specs.States.{Sound, state}
use Rattle.awk_streams.specs.declared.halt.Halt.{Halt}
use Rattle.awk_streams.specs.declared.halt.Halt.TheVariants as halt
use Rattle.awk_streams.specs.Chains.{Comes, Halted, Meets}
use Rattle.awk_streams.specs.Tables.{Table}
use Rattle.awk_streams.specs.Tasks.{MeetsTable, IsTable, beside}
use Rattle.awk_store.specs.Wholes.{Agreeing, base, names_in, used}

-- what the store alone stands for, with this record, and with the steps that it has
abbrev pub apart : Given → Kept → Row → State
apart g k row = record (state (names_in g) k (record { taken = λ key. 0; row = row })) {
  course =
      record { events = []; used = k.used };
}

module _ {W : Type 0} (ghosts : Ghosts W) (g : Given) (k : Kept) (row : Row) (kept : IsKept row k.row)
    (cells : length k.cells ≡ length (names_in g)) (sound : Sound (names_in g)) where
  lift_comes : (first w : W) (from to : List Piece) (s : State) (c : Course) (t : Table)
      → Comes ghosts (beside (apart g k row)) IsTable (λ x. k.used) g first from s c to t w
      → Comes ghosts (base g) (Agreeing g) used g first from s c to (k, t) w
  lift_comes first w from to s c t x = record {
    course = x.course;
    hidden = record { taken = x.hidden; row = row };
    knows = record {
      leads = x.knows.leads;
      agrees = record {
        tells = x.knows.agrees;
        row = kept;
        cells = cells;
        sound =
            sound;
      };
      spent = x.knows.spent;
    };
    chain = x.chain;
  }

  lift_halted : (h : Halt) (first w : W) (from to : List Piece) (s : State) (c : Course) (t : Table)
      → Halted ghosts (beside (apart g k row)) IsTable (λ x. k.used) g first from s c to t w h →
      Halted ghosts (base g) (Agreeing g) used g first from s c to (k, t) w h
  unfolding lift_comes
  lift_halted (halt.Fault fault place) first w from to s c t x = lift_comes first w from _ s c t x
  lift_halted halt.Cut first w from to s c t x = lift_comes first w from _ s c t x
  lift_halted halt.Next first w from to s c t x = lift_comes first w from _ s c t x
  lift_halted halt.Exit first w from to s c t x =
      record { phase = x.phase; comes = lift_comes first w from _ s c t x.comes; its_phase = x.its_phase }
  lift_halted halt.Memory first w from to s c t x = record {
    todo = x.todo;
    last = x.last;
    course = x.course;
    leads =
        x.leads;
    spent = x.spent;
    chain = x.chain;
    stands = x.stands;
  }
  lift_halted (halt.Log place) first w from to s c t x = record {
    todo = x.todo;
    last = x.last;
    course = x.course;
    want = x.want;
    ended = x.ended;
    spent = x.spent;
    chain = x.chain;
    stands = x.stands;
  }

  lift_result : {A : Type 0} (result : Result A Halt) (on : A → List Piece → List Piece) (first w : W)
      (from to : List Piece) (s : State) (c : Course) (t : Table) →
      MatchResult result (λ x. Comes ghosts (beside (apart g k row)) IsTable (λ y. k.used) g first from s c (on x
      to) t w)
      (λ h. Halted ghosts (beside (apart g k row)) IsTable (λ y. k.used) g first from s c to t w h) →
      MatchResult result (λ x. Comes ghosts (base g) (Agreeing g) used g first from s c (on x to) (k, t) w)
      (λ h. Halted ghosts (base g) (Agreeing g) used g first from s c to (k, t) w h)
  lift_result (Ok x) on first w from to s c t p = lift_comes first w from (on x to) s c t p
  lift_result (Err h) on first w from to s c t p = lift_halted h first w from to s c t p

-- A task of the streams is one of the whole: where it owes something of what the store alone stands for, and so of all
-- states.
pub lifted_at : {W A : Type 0} {ghosts : Ghosts W} (g : Given) (k : Kept)
    {p : Piece} {to : A → List Piece → List Piece} {old new : Table} {w w' : W} {result : Result A Halt} →
    ((row : Row) → length k.cells ≡ length (names_in g) → Sound (names_in g)
    → MeetsTable ghosts g (apart g k row) p to old w result new w') →
    Meets ghosts (base g) (Agreeing g) used g p to (k, old) w result (k, new) w'
lifted_at {ghosts = ghosts} g k {p = p} {to = to} {old = old} {new = new} {w' = w'} {result = result} h = record {
  plays = λ first rest hid c a.
      lift_result ghosts g k hid.row a.agrees.row a.agrees.cells a.agrees.sound result to first w' (p ∷ rest) rest _ c
      new
      ((h hid.row a.agrees.cells a.agrees.sound).plays first rest hid.taken c
      (record { leads = a.leads; agrees = a.agrees.tells; spent = a.spent }));
}

pub lifted : {W A : Type 0} {ghosts : Ghosts W} (g : Given) (k : Kept)
    {p : Piece} {to : A → List Piece → List Piece} {old new : Table} {w w' : W} {result : Result A Halt}
    → ((s : State) → MeetsTable ghosts g s p to old w result new w') →
    Meets ghosts (base g) (Agreeing g) used g p to (k, old) w result (k, new) w'
lifted g k h = lifted_at g k (λ row cells sound. h (apart g k row))

-- ---- what a task of the streams reads of the store

pub apart-text : (g : Given) (k : Kept) (row : Row) → length k.cells ≡ length (names_in g) → Sound (names_in g)
    → (x : Own) → own_text (apart g k row) (name_of x) ≡ kept.own_text k x
apart-text g k row cells sound x = law.text (names_in g) k (record { taken = λ key. 0; row = row }) sound cells x
