-- What a part of a run owes: from its piece the machine comes to what is left to be done, or the part is halted.
use Rattle.std.specs.Prelude.{◌≡◌, ℕ, List, ◌∷◌, Some, None, Result, Ok, Err, MatchResult}
use Rattle.awk_text.specs.declared.place.Place.{Place}
use Rattle.awk_text.specs.declared.fault.Fault.{Fault}
use Rattle.awk_text.specs.declared.fault.Fault.TheVariants.{Memory as NoMemory, Log as NoLog}
use Rattle.box_world.specs.Calls.{Call}
use Rattle.box_world.specs.declared.ask.Ask.{Ask}
use Rattle.box_world.specs.declared.ask.Stop.{Stop}
use Rattle.box_world.specs.declared.ask.Stop.TheVariants as stop
use Rattle.box_world.specs.Events.{Want, calls, ask_of, open_streams}
use Rattle.box_world.specs.declared.world.World.{Ghosts}
use Rattle.awk_machine.specs.Pieces.{Piece, Cut, Faulted, ends}
use Rattle.awk_machine.specs.Plays.{Reaches, Stands}
use Rattle.awk_machine.specs.State.{State, Course, Given, Phase}
use Rattle.awk_machine.specs.Statements.{to_records, after_exit}
use Rattle.awk_machine.specs.Streams.{seen}
use Rattle.awk_streams.specs.declared.halt.Halt.{Halt}
use Rattle.awk_streams.specs.declared.halt.Halt.TheVariants as halt

-- ---- worlds

-- the one world led to the other by these calls, and stopped no more than it had
pub record Follows {W : Type 0} (ghosts : Ghosts W) (old : W) (cs : List Call) (new : W) : Type 0 where
  pub leads : ghosts.follows old cs new
  pub same : ghosts.has_stopped new ≡ ghosts.has_stopped old

-- it led to the other by these calls, which stopped at this ask
pub record Ended {W : Type 0} (ghosts : Ghosts W) (old : W) (cs : List Call) (ask : Ask) (new : W) : Type 0 where
  pub leads : ghosts.follows old cs new
  pub stopped : ghosts.stops old cs ask new

-- how a part ends whose request was not answered
abbrev pub halt_by : Place → Stop → Halt
halt_by place stop.Memory = halt.Memory
halt_by place stop.Log = halt.Log place

-- how a part ends that met a fault at a place: for want of memory the run ends as it stands
abbrev pub halt_at : Place → Fault → Halt
halt_at place NoMemory = halt.Memory
halt_at place fault = halt.Fault fault place

-- what was made at a place, or how the part ends
abbrev pub result_at : {A : Type 0} → Place → Result A Fault → Result A Halt
result_at place (Ok x) = Ok x
result_at place (Err fault) = Err (halt_at place fault)

-- ---- parts

-- W is the world. St is what the code holds and H what it does not: `base` is the machine's state, less the course;
-- `Agreeing` says what of the three agrees, and `used` how many steps were taken.
module _ {W St H : Type 0} (ghosts : Ghosts W) (base : St → H → State) (Agreeing : St → H → Course → Type 0)
    (used : St → ℕ) where
  abbrev pub at : St → H → Course → State
  at store hid c = seen (base store hid) c

  pub record Knows (first : W) (store : St) (hid : H) (c : Course) (world : W) : Type 0 where
    pub leads : Follows ghosts first (calls c.events) world
    pub agrees : Agreeing store hid c
    pub spent : c.used ≡ used store

  module _ (g : Given) where
    -- from these pieces, this state and this course the machine came to the pieces k with this store, and the world by
    -- its calls
    pub record Comes (first : W) (from : List Piece) (s : State) (c : Course) (k : List Piece) (store : St) (world : W)
        : Type 0 where
      pub course : Course
      pub hidden : H
      pub knows : Knows first store hidden course world
      pub chain : Reaches g from s c k (at store hidden course) course

    -- it came where a run may end for want of memory
    pub record Lacks (first : W) (from : List Piece) (s : State) (c : Course) (store : St) (world : W) : Type 0 where
      pub todo : List Piece
      pub last : State
      pub course : Course
      pub leads : Follows ghosts first (calls course.events) world
      pub spent : course.used ≡ used store
      pub chain : Reaches g from s c todo last course
      pub stands : (place : Place) → Stands g todo last course (Faulted NoMemory place) None

    -- it came to a request at this place, and the world ended at it
    pub record Unlogged (first : W) (from : List Piece) (s : State) (c : Course) (place : Place) (store : St)
        (world : W) : Type 0 where
      pub todo : List Piece
      pub last : State
      pub course : Course
      pub want : Want
      pub ended : Ended ghosts first (calls course.events) (ask_of want (open_streams course.events)) world
      pub spent : course.used ≡ used store
      pub chain : Reaches g from s c todo last course
      pub stands : Stands g todo last course (Faulted NoLog place) (Some want)

    -- it came to what is done after an `exit`
    pub record Exits (first : W) (from : List Piece) (s : State) (c : Course) (store : St) (world : W) : Type 0 where
      pub phase : Phase
      pub comes : Comes first from s c (after_exit phase) store world
      pub its_phase : (base store comes.hidden).phase ≡ phase

    -- a part is halted, where k is left to be done
    abbrev pub Halted : W → List Piece → State → Course → List Piece → St → W → Halt → Type 0
    Halted first from s c k store world (halt.Fault fault place) =
        Comes first from s c (ends (Faulted fault place)) store world
    Halted first from s c k store world halt.Cut = Comes first from s c (ends Cut) store world
    Halted first from s c k store world halt.Next = Comes first from s c (to_records k) store world
    Halted first from s c k store world halt.Exit = Exits first from s c store world
    Halted first from s c k store world halt.Memory = Lacks first from s c store world
    Halted first from s c k store world (halt.Log place) = Unlogged first from s c place store world

    -- from the piece p the machine leads on to other pieces, whatever is left to be done
    pub record Leads (p : Piece) (old : St) (world : W) (to : List Piece → List Piece) (new : St) (world' : W) : Type 0
      where
        pub plays : (first : W) (k : List Piece) (hid : H) (c : Course) → Knows first old hid c world →
            Comes first (p ∷ k) (at old hid c) c (to k) new world'

    -- what the doing of a piece owes: with a value it leads on to where `to` says, and else the part is halted
    pub record Meets {A : Type 0} (p : Piece) (to : A → List Piece → List Piece) (old : St) (world : W)
        (result : Result A Halt) (new : St) (world' : W) : Type 0 where
      pub plays : (first : W) (k : List Piece) (hid : H) (c : Course) → Knows first old hid c world →
          MatchResult result (λ x. Comes first (p ∷ k) (at old hid c) c (to x k) new world')
          (λ h. Halted first (p ∷ k) (at old hid c) c k new world' h)
