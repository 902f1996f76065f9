-- How the machine goes on with the main input.
use Rattle.std.proofs.Common.{◌≡◌, inr, refl, sym, ap, subst, ◌∙◌, ℤ, Bool, true, false, List, [], ◌∷◌}
use Rattle.std.specs.Prelude.{Result, Ok, Err, Some, None, not, pos, int_lt, if◌then◌else◌}
use Rattle.awk_text.specs.declared.fault.Fault.{Fault}
use Rattle.awk_text.specs.declared.value.Value.{Value}
use Rattle.awk_text.specs.declared.value.Value.TheVariants as v
use Rattle.box_world.specs.declared.ask.Reply.{Reply}
use Rattle.box_world.specs.declared.ask.Request.TheVariants as request
use Rattle.box_world.specs.Events.{Key, Standard, Writes, calls}
use Rattle.box_world.specs.declared.world.World.{Ghosts}
use Rattle.awk_program.specs.Program as p
use Rattle.awk_program.specs.Slots.{Text}
use Rattle.awk_program.specs.declared.variables.Own.TheVariants as own
use Rattle.awk_machine.specs.Advances.{advance, held}
use Rattle.awk_machine.specs.Getline.{counting, got, main_counters}
use Rattle.awk_machine.specs.MainInput as m
use Rattle.awk_machine.specs.MainInput.{next_operand, take_by, take_from, take_on}
use Rattle.awk_machine.specs.Pieces as machine
use Rattle.awk_machine.specs.Pieces.{nowhere, Piece, At, Do, Goes, Asks, Look, Operand, Past, Records, Report, Set}
use Rattle.awk_machine.specs.Pieces.{Step, Take, Value_of, Faulted, ends, give, granted}
use Rattle.awk_machine.specs.State.{State, Course, Given, Main}
use Rattle.awk_machine.specs.Streams.{seen, want}
use Rattle.awk_store.specs.Changes.{with_main}
use Rattle.awk_store.specs.Kept as kept
use Rattle.awk_store.specs.Kept.{Kept}
use Rattle.awk_store.specs.Numbers.{whole_number}
use Rattle.awk_store.specs.States.{Hidden}
use Rattle.awk_store.proofs.Reading as law
use Rattle.awk_streams.specs.declared.getline.NextRecord.TheVariants as found
use Rattle.awk_streams.specs.declared.halt.Halt.{Halt}
use Rattle.awk_streams.specs.declared.halt.Halt.TheVariants as halt
use Rattle.awk_streams.specs.Chains.{Halted, Leads, Meets}
use Rattle.awk_streams.specs.Readings.{IsReading}
use Rattle.awk_streams.specs.Tables.{Table}
use Rattle.awk_streams.specs.Tasks.{Answered, Refused, goes_on}
use Rattle.awk_streams.proofs.Asking.{fits_here, tells_written}
use Rattle.awk_streams.proofs.Chain.{Laws, asked, at_once, done as finished, halted-after, part, quiet, unanswered}
use Rattle.awk_streams.proofs.MoreSteps.{gives}
use Rattle.awk_streams.specs.Chains.{halt_at, result_at}
use Rattle.awk_store.specs.Acts.{Acts, HaltsSo, Passes}
use Rattle.awk_store.specs.Spots.{IsSpotOf, meant, value_of}
use Rattle.awk_store.specs.Wholes.{Whole, Agreeing, base, names_in, used}
use Rattle.awk_store.specs.declared.spot.Spot.{Spot}
use Rattle.awk_store.proofs.Lifting.{apart, apart-text, lifted_at}
use Rattle.awk_store.proofs.Acting.{acted, at_rest, moves, alters, done, faulted}
use Rattle.awk_input.specs.Gots.{IsGot}
use Rattle.awk_input.specs.Operands.{operand_count}
use Rattle.awk_input.specs.Performs.{LeadsWhole, MeetsWhole, MeetsIn}
use Rattle.awk_input.specs.Inputs.{IsMainLine, after_operands, found_main, meeting, message, past_standard, taken}

-- ---- how far the main input is read

-- it is taken out of the store, changed, and put back
pub main_changed : (f : Main → Main) (old mid new : Kept) (x a b : Main) → mid ≡ with_main x old → new ≡ with_main b mid
    → b ≡ f a → a ≡ old.main → new ≡ with_main (f old.main) old
main_changed f old mid new x a b e1 e2 e3 e4 = e2 ∙ ap (λ k. with_main b k) e1 ∙ ap (λ z. with_main z old)
    (e3 ∙ ap f e4)

not_so : (b : Bool) → not b ≡ (if b then false else true)
not_so true = refl
not_so false = refl

pub past_so : (x : Main) → record x { current = None; ended = not x.named } ≡ past_standard x
past_so x = ap (λ b. record x { current = None; ended = b }) (not_so x.named)

pub main_agrees : (g : Given) (old : Whole) (main : Main) (hid : Hidden) (c : Course) → Agreeing g old hid c
    → Agreeing g (with_main main old.0, old.1) hid c
main_agrees g old main hid c a = record { tells = a.tells; row = a.row; cells = a.cells; sound = a.sound }

-- ---- operands

err_of : Halt → Result (Unit {0}) Halt
err_of h = Err h

module _ (g : Given) (old : Whole) where
  pub operand_by : (made : Result ℤ Fault) → operand_count old.0 ≡ made
      → (k : List Piece) (hid : Hidden) (c : Course) → Agreeing g old hid c →
      advance g (Do Operand ∷ k) (seen (base g old hid) c) ≡ held g (seen (base g old hid) c)
      (granted nowhere made next_operand k (seen (base g old hid) c))
  operand_by made is k hid c a =
      ap (λ r. held g (seen (base g old hid) c) (granted nowhere r next_operand k (seen (base g old hid) c)))
      (ap (whole_number old.0.numbers) (law.own (names_in g) old.0 hid a.sound a.cells own.Argc) ∙ is)

  halt_is : (fault : Fault) (h : Halt) → result_at {A = ℤ} nowhere (Err fault) ≡ Err h → halt_at nowhere fault ≡ h
  halt_is fault h e = cc

  -- their count is no number
  pub no_count : (r : Result ℤ Fault) (h : Halt) → r ≡ operand_count old.0
      → result_at nowhere r ≡ Err h → Acts g (Do Operand) (goes_on {A = Unit {0}}) old (Err h) old
  no_count (Ok n) h same e = absurd (cc)
  no_count (Err fault) h same e =
      subst (λ (q : Halt). Acts g (Do Operand) (goes_on {A = Unit {0}}) old (Err q) old) (halt_is fault h e)
      (faulted refl (inr (moves (at_rest _ old) (operand_by (Err fault) (sym same)))))

  passed_by : (b : Bool) (k : List Piece) (hid : Hidden) (c : Course) →
      held g (seen (base g old hid) c)
      (if b then Goes k (m.with_main (record old.0.main { ended = true }) (seen (base g old hid) c)) else Goes k
      (m.with_main (record old.0.main { current = Some (Standard 0) }) (seen (base g old hid) c)))
      ≡ Goes k (seen (base g (
        with_main (if b then record old.0.main { ended = true } else record old.0.main {
          current =
              Some (Standard 0);
        }) old.0,
        old.1,
      ) hid) c)
  passed_by true k hid c = refl
  passed_by false k hid c = refl

  -- none is left
  pub passes_operands : (n : ℤ) (new : Kept) → operand_count old.0 ≡ Ok n
      → int_lt (pos old.0.main.position) n ≡ false → new ≡ with_main (after_operands old.0.main) old.0 →
      Acts g (Do Operand) goes_on old (Ok (tt {0})) (new, old.1)
  passes_operands n new is over same =
      subst (λ (x : Kept). Acts g (Do Operand) goes_on old (Ok (tt {0})) (x, old.1)) (sym same)
      (done (alters refl (at_rest _ old) (λ k hid c a. (
        hid,
        main_agrees g old (after_operands old.0.main) hid c a,
        operand_by (Ok n) is k hid c a
            ∙ ap (λ b. held g (seen (base g old hid) c) (if b then Goes (Do Step ∷ Do Look ∷ k)
            (seen (base g old hid) c)
            else (if old.0.main.named then Goes k (m.with_main (record old.0.main { ended = true })
            (seen (base g old hid) c)) else Goes k (m.with_main (record old.0.main { current = Some (Standard 0) })
            (seen (base g old hid) c))))) over
            ∙ passed_by old.0.main.named k hid c,
      ))))

  -- ---- the standard input is done with

  pub passes_standard : (new : Kept) → new ≡ with_main (past_standard old.0.main) old.0
      → Acts g (Do (Past (Standard 0))) goes_on old (Ok (tt {0})) (new, old.1)
  passes_standard new same =
      subst (λ (x : Kept). Acts g (Do (Past (Standard 0))) goes_on old (Ok (tt {0})) (x, old.1)) (sym same)
      (done (alters refl (at_rest _ old) (λ k hid c a. (
        hid,
        main_agrees g old (past_standard old.0.main) hid c a,
        refl,
      ))))

  -- ---- a record is taken

  pub has_ended : old.0.main.ended ≡ true → Acts g (Do Take) taken old (Ok (Some (v.Num (pos 0)))) old
  has_ended e = done (moves (at_rest _ old)
      (λ k hid c a. ap (λ b. held g (seen (base g old hid) c) (if b then Goes (give (v.Num (pos 0)) k)
      (seen (base g old hid) c) else take_from old.0.main.current k (seen (base g old hid) c))) e))

  pub to_operand : old.0.main.ended ≡ false → old.0.main.current ≡ None
      → Passes g (Do Take) old (λ k. Do Operand ∷ Do Take ∷ k) old
  to_operand e f = moves (at_rest _ old) (λ k hid c a.
      ap (λ b. held g (seen (base g old hid) c) (if b then Goes (give (v.Num (pos 0)) k) (seen (base g old hid) c) else
      take_from old.0.main.current k (seen (base g old hid) c))) e
      ∙ ap (λ o. held g (seen (base g old hid) c) (take_from o k (seen (base g old hid) c))) f)

pub takes_so : (g : Given) (s : State) (key : Key) → s.main.ended ≡ false → s.main.current ≡ Some key
    → IsReading g s (Do Take) nowhere key (found_main key)
takes_so g s key e f = record {
  by_head = take_by key;
  then_ = λ k r. take_on key k r;
  moves = λ k table t c.
      let u = seen (record s { taken = t }) c in
      ap (λ b. if b then Goes (give (v.Num (pos 0)) k) u else take_from s.main.current k u) e
      ∙ ap (λ o. take_from o k u) f;
  takes = λ text rest k t. refl;
  ends = λ k t. refl;
  faults = λ k t. refl;
  asks = λ k t. refl;
  again = λ k b. refl;
  ended = λ k. refl;
  failed = λ k. refl;
}

-- a line of the main input is taken
pub line_taken : {W : Type 0} {ghosts : Ghosts W} (g : Given) (k : Kept) (old new : Table) (text : Text) (w : W)
    → IsMainLine k old text new →
    MeetsWhole ghosts g (Do Take) give (k, old) w (Ok (v.Input text)) (k, new) w
line_taken {ghosts = ghosts} g k old new text w x =
    let read : MeetsWhole ghosts g (Do Take) (found_main x.key) (k, old) w (Ok (found.Record text)) (k, new) w =
    lifted_at g k (λ row cells sound.
    let s = apart g k row in
    gives ghosts g s nowhere x.key (kept.own_text k own.Rs) (apart-text g k row cells sound own.Rs) old new
    x.line.before x.line.live (takes_so g s x.key x.going x.current) (at_once _ old w) (found.Record text)
    x.line.first) in
    finished (part (found.Record text) (at_once _ (k, old) w) read refl)

-- ---- a message

module _ {W : Type 0} {ghosts : Ghosts W} (laws : Laws ghosts) (g : Given) (what name text : Text)
    (is : text ≡ message what name) (old : Kept) (t : Table) where
  pub reports : (r : Reply) (w w' : W) (new : Kept) → new ≡ with_main (record old.main { failed = true }) old
      → Answered ghosts (record { place = nowhere; given = false; request = request.Put 2 text }) w r w' →
      Meets ghosts (base g) (Agreeing g) used g (Do (Report what name)) goes_on (old, t) w (Ok (tt {0})) (new, t) w'
  reports r w w' new same x =
      let y : Answered ghosts (record { place = nowhere; given = false; request = request.Put 2 (message what name) }) w
      r w' =
      subst (λ z. Answered ghosts (record { place = nowhere; given = false; request = request.Put 2 z }) w r w') is x in
      subst (λ (z : Kept). Meets ghosts (base g) (Agreeing g) used g (Do (Report what name)) goes_on (old, t) w
      (Ok (tt {0})) (z, t) w') (sym same)
      (finished (asked {then_ = λ k r. k} (want nowhere (Writes (Standard 2) (message what name)))
      (record { place = nowhere; given = false; request = request.Put 2 (message what name) }) r laws refl
      (at_once _ (old, t) w)
      (λ first k hid c led a. (
        hid,
        refl,
        fits_here laws first w (calls c.events) (request.Put 2 (message what name)) r led y.fits,
        refl,
        record {
          tells = tells_written t hid.taken c nowhere (Standard 2) (message what name) r a.tells;
          row = a.row;
          cells = a.cells;
          sound = a.sound;
        },
      ))
      y.call))

  pub report_refused : {A : Type 0} {on : A → List Piece → List Piece} (h : Halt) (w w' : W)
      → Refused ghosts (record { place = nowhere; given = false; request = request.Put 2 text }) w h w' →
      Meets ghosts (base g) (Agreeing g) used g (Do (Report what name)) on (old, t) w (Err h) (old, t) w'
  report_refused {A} {on} h w w' x =
      let y : Refused ghosts (record { place = nowhere; given = false; request = request.Put 2 (message what name) }) w
      h w' =
      subst (λ z. Refused ghosts (record { place = nowhere; given = false; request = request.Put 2 z }) w h w') is x in
      subst (λ (q : Halt). Meets ghosts (base g) (Agreeing g) used g (Do (Report what name)) on (old, t) w (Err q) (
        old,
        t,
      ) w') (sym y.is)
      (unanswered {then_ = λ k r. k} (want nowhere (Writes (Standard 2) (message what name)))
      (record { place = nowhere; given = false; request = request.Put 2 (message what name) }) y.by laws
      (at_once _ (old, t) w)
      (λ k hid c a. (seen (base g (with_main (record old.main { failed = true }) old, t) hid) c, refl, refl))
      y.memory y.log)

-- what is halted is halted whatever was to come
pub halts_whole : {W A B : Type 0} {ghosts : Ghosts W} {last : B → List Piece → List Piece} {on : A → List Piece
    → List Piece} (g : Given) (p : Piece) (old new : Whole) (w w' : W) (h : Halt) →
    Meets ghosts (base g) (Agreeing g) used g p on old w (Err h) new w'
    → Meets ghosts (base g) (Agreeing g) used g p last old w (Err h) new w'
halts_whole g p old new w w' h x = record { plays = λ first k hid c a. x.plays first k hid c a }

-- ---- getline from the main input, and the records that the rules meet

module _ (g : Given) (r : p.Reference) (spot : Spot) (place : _) where
  pub main_first : {W : Type 0} {ghosts : Ghosts W} (old : Whole) (w : W) →
      Leads ghosts (base g) (Agreeing g) used g (At (Value_of (p.getline place r)) (value_of spot ∷ [])) old w
      (λ k. Do Take ∷ At (Value_of (p.getline place r)) (value_of spot ∷ []) ∷ k) old w
  main_first old w = quiet (at_once _ old w) (λ k hid c. refl)

  pub main_got : (x : Value) → IsSpotOf (names_in g) r spot
      → IsGot g (At (Value_of (p.getline place r)) (x ∷ value_of spot ∷ [])) place (meant (names_in g) spot)
      main_counters x (λ k. k)
  main_got x is k s = ap (λ z. got place z main_counters x k s) is

pub record_first : (g : Given) (text : Text) (vs : List Value) (old : Whole) →
    Passes g (At Records (v.Input text ∷ vs)) old (λ k. Do (Set (machine.Field 0) nowhere (v.Input text)) ∷ counting
    nowhere main_counters (Do Step ∷ Do (machine.Rules 0 g.program.rules) ∷ At Records [] ∷ k)) old
record_first g text vs old = moves (at_rest _ old) (λ k hid c a. refl)

pub records_first : {W : Type 0} {ghosts : Ghosts W} (g : Given) (old : Whole) (w : W)
    → Leads ghosts (base g) (Agreeing g) used g (At Records []) old w (λ k. Do Take ∷ At Records [] ∷ k) old w
records_first g old w = quiet (at_once _ old w) (λ k hid c. refl)

-- where no record is left, the rules are done with
pub no_record : (g : Given) (x : Value) (vs : List Value) (old : Whole) → ((text : Text) → x ≡ v.Input text → ⊥)
    → Passes g (At Records (x ∷ vs)) old (λ k. k) old
no_record g (v.Input text) vs old f = absurd (f text refl)
no_record g v.Unset vs old f = moves (at_rest _ old) (λ k hid c a. refl)
no_record g (v.Num n) vs old f = moves (at_rest _ old) (λ k hid c a. refl)
no_record g (v.Real y) vs old f = moves (at_rest _ old) (λ k hid c a. refl)
no_record g (v.Text text) vs old f = moves (at_rest _ old) (λ k hid c a. refl)

pub no_record_meets : {W : Type 0} {ghosts : Ghosts W} (g : Given) (x : Value) (old : Whole) (w : W)
    → ((text : Text) → x ≡ v.Input text → ⊥) →
    Meets ghosts (base g) (Agreeing g) used g (At Records (x ∷ [])) (meeting g) old w (Ok false) old w
no_record_meets g x old w f = acted (done (no_record g x [] old f))

-- ---- in the midst of records

-- a task of the store halts wherever it stands
anywhere : {W : Type 0} (ghosts : Ghosts W) (g : Given) (mid new : Whole) (w : W) (h : Halt) (first : W)
    (from k l : List Piece) (s : State) (c d : Course) (here : Hidden) →
    HaltsSo g from mid here d new h → Halted ghosts (base g) (Agreeing g) used g first from s c k new w h
    → Halted ghosts (base g) (Agreeing g) used g first from s c l new w h
anywhere ghosts g mid new w (halt.Fault fault place) first from k l s c d here x y = y
anywhere ghosts g mid new w halt.Cut first from k l s c d here x y = y
anywhere ghosts g mid new w halt.Next first from k l s c d here x y = absurd x
anywhere ghosts g mid new w halt.Exit first from k l s c d here x y = y
anywhere ghosts g mid new w halt.Memory first from k l s c d here x y = y
anywhere ghosts g mid new w (halt.Log place) first from k l s c d here x y = y

module _ {W : Type 0} {ghosts : Ghosts W} {g : Given} {p : Piece} {rest : List Piece → List Piece} {old new : Whole}
    {w w' : W} where
  pub done_in : {A : Type 0} {to : A → List Piece → List Piece} {x : A} → LeadsWhole ghosts g p old w (λ k. to x k)
      new w'
      → MeetsIn ghosts g p to rest old w (Ok x) new w'
  done_in h = record { plays = λ first k hid c a. h.plays first k hid c a }

  module _ {mid : Whole} where
    pub stop_in : {A B : Type 0} {to : A → List Piece → List Piece} {on : B → List Piece → List Piece} {q : Piece}
        {r : Result B Halt} {w'' : W} (x : Halt) →
        LeadsWhole ghosts g p old w (λ k. q ∷ rest k) mid w' → MeetsWhole ghosts g q on mid w' r new w'' → r ≡ Err x
        → MeetsIn ghosts g p to rest old w (Err x) new w''
    stop_in {q = q} {w'' = w''} x h m e = record {
      plays = λ first k hid c a. let y = h.plays first k hid c a in
          let z : Halted ghosts (base g) (Agreeing g) used g first (q ∷ rest k) (seen (base g mid y.hidden) y.course)
          y.course (rest k) new w'' x = rw e at (m.plays first (rest k) y.hidden y.course y.knows) in
          halted-after ghosts (base g) (Agreeing g) used g x first (p ∷ k) (q ∷ rest k) (rest k) (rest k)
          (seen (base g old hid) c) (seen (base g mid y.hidden) y.course) c y.course new w'' y.chain refl z;
    }

    pub stop_acts : {A B : Type 0} {to : A → List Piece → List Piece} {on : B → List Piece → List Piece} {q : Piece}
        {r : Result B Halt} (x : Halt) →
        LeadsWhole ghosts g p old w (λ k. q ∷ k) mid w' → Acts g q on mid r new → r ≡ Err x
        → MeetsIn ghosts g p to rest old w (Err x) new w'
    stop_acts {on = on} {q = q} {r = r} x h m e = record {
      plays = λ first k hid c a. let y = h.plays first k hid c a in
          let u : HaltsSo g (q ∷ k) mid y.hidden y.course new x = rw e at (m.settles k y.hidden y.course y.knows.agrees)
          in
          let t : MeetsWhole ghosts g q on mid w' r new w' = acted m in
          let z : Halted ghosts (base g) (Agreeing g) used g first (q ∷ k) (seen (base g mid y.hidden) y.course)
          y.course k new w' x = rw e at (t.plays first k y.hidden y.course y.knows) in
          let v = anywhere ghosts g mid new w' x first (q ∷ k) k (rest k) (seen (base g mid y.hidden) y.course) y.course
          y.course y.hidden u z in
          halted-after ghosts (base g) (Agreeing g) used g x first (p ∷ k) (q ∷ k) (rest k) (rest k)
          (seen (base g old hid) c) (seen (base g mid y.hidden) y.course) c y.course new w' y.chain refl v;
    }
