-- How a run begins.
use Rattle.std.proofs.Common.{◌≡◌, inl, refl, sym, ap, subst, ◌∙◌, ℕ, Bool, true, false, List, [], ◌∷◌, ◌++◌, map}
use Rattle.std.proofs.Common.{arith, append_assoc}
use Rattle.std.specs.Prelude.{Option, Some, None, Result, Ok, Err, codes, if◌then◌else◌, ◌==◌}
use Rattle.std.proofs.lemmas.List.{length-map}
use Rattle.box_world.specs.Events.{Key, Standard, Named}
use Rattle.box_world.specs.declared.world.World.{Ghosts}
use Rattle.awk_fields.specs.Takes.{Input}
use Rattle.awk_program.specs.Slots.{Text}
use Rattle.awk_program.specs.View.{names_of}
use Rattle.awk_text.specs.declared.value.Value.TheVariants as v
use Rattle.awk_text.specs.Escapes.{unescaped}
use Rattle.awk_program.specs.Program.{global}
use Rattle.awk_machine.specs.Begins.{assigns, first_pieces, first_state, nothing, operands, separators, set_at_start}
use Rattle.awk_machine.specs.Pieces.{Piece, Variable, Faulted}
use Rattle.awk_machine.specs.Plays.{Reaches, here, lacks}
use Rattle.awk_machine.specs.State.{Given}
use Rattle.awk_machine.specs.Streams.{seen}
use Rattle.awk_text.specs.declared.fault.Fault.TheVariants.{Memory as NoMemory}
use Rattle.awk_text.specs.declared.place.Place.{Place}
use Rattle.awk_store.specs.Changes.{first_cell, first_kept}
use Rattle.awk_store.specs.Kept.{Kept}
use Rattle.awk_store.specs.Laws.{first_hidden}
use Rattle.awk_store.specs.States.{Sound}
use Rattle.awk_store.proofs.Beginning.{begins}
use Rattle.awk_streams.specs.declared.halt.Halt.{Halt}
use Rattle.awk_streams.specs.declared.halt.Halt.TheVariants as halt
use Rattle.awk_streams.specs.Tables.{Table}
use Rattle.awk_streams.specs.Tasks.{Owns, IsTable, IsRead, input_at}
use Rattle.awk_streams.proofs.Chain.{join}
use Rattle.awk_store.specs.Acts.{HaltsSo, Settles}
use Rattle.awk_store.specs.Wholes.{Whole, Agreeing, base, names_in, used}
use Rattle.awk_forms.specs.Runs.{IsGiven}
use Rattle.awk_forms.specs.declared.context.Context.{Context}
use Rattle.awk_run.specs.Reports.{Reported}
use Rattle.awk_run.specs.Runs.{Reached, Stopped}
use Rattle.awk_run.specs.Starts.{Prepares, assigning}

-- ---- the host's own assignments, one after the other

abbrev assigned : Text × Text → Piece
assigned a = set_at_start (Variable (global a.0)) (v.Input (unescaped a.1))

pub assigns_first : (can : Text → Bool) (a : Text × Text) (rest : List (Text × Text)) → can a.0 ≡ true
    → assigning can (a ∷ rest) ≡ assigned a ∷ assigning can rest
assigns_first can a rest e = rw e refl

pub passes_first : (can : Text → Bool) (a : Text × Text) (rest : List (Text × Text)) → can a.0 ≡ false
    → assigning can (a ∷ rest) ≡ assigning can rest
passes_first can a rest e = rw e refl

-- ---- what is done before BEGIN

pieces_so : (g : Given) (k : List Piece) (ops : List Text) (sep : Option Text) (pairs : List (Text × Text))
    → g.operands ≡ ops → g.separator ≡ sep → g.assigns ≡ pairs →
    operands 0 (codes "awk" ∷ ops) ++ (separators sep ++ (assigning g.can_assign pairs ++ k))
    ≡ operands 0 (codes "awk" ∷ g.operands) ++ separators g.separator ++ assigns g ++ k
pieces_so g k ops sep pairs e f h =
    sym (append_assoc (operands 0 (codes "awk" ∷ ops) ++ separators sep) (assigning g.can_assign pairs) k ∙ append_assoc
    (operands 0 (codes "awk" ∷ ops)) (separators sep) (assigning g.can_assign pairs ++ k)) ∙
    ap (λ x. operands 0 (codes "awk" ∷ x) ++ separators sep ++ assigning g.can_assign pairs ++ k) (sym e)
    ∙ ap (λ y. operands 0 (codes "awk" ∷ g.operands) ++ separators y ++ assigning g.can_assign pairs ++ k) (sym f)
    ∙ ap (λ z. operands 0 (codes "awk" ∷ g.operands) ++ separators g.separator ++ assigning g.can_assign z ++ k) (sym h)

pub prepares_so : {g : Given} {k : List Piece} {old new : Whole} {r : Result (Unit {0}) Halt} (ops : List Text)
    (sep : Option Text) (pairs : List (Text × Text)) → g.operands ≡ ops → g.separator ≡ sep → g.assigns ≡ pairs →
    Prepares g (operands 0 (codes "awk" ∷ ops) ++ (separators sep ++ (assigning g.can_assign pairs ++ k))) k old r new
    → Prepares g (operands 0 (codes "awk" ∷ g.operands) ++ separators g.separator ++ assigns g ++ k) k old r new
prepares_so {g = g} {k = k} {old = old} {new = new} {r = r} ops sep pairs e f h x =
    subst (λ l. Prepares g l k old r new) (pieces_so g k ops sep pairs e f h) x

module _ {W : Type 0} {ghosts : Ghosts W} {g : Given} {first : W} {mid : Whole} {w : W} where
  pub then_prepared : {from to : List Piece} {new : Whole} {r : Result (Unit {0}) Halt}
      → Reached ghosts g first from mid w → Prepares g from to mid r new → r ≡ Ok (tt {0})
      → Reached ghosts g first to new w
  then_prepared {from = from} {to = to} {new = new} y m e =
      let z : Settles g from mid y.hidden y.course to new = rw e at (m.settles y.hidden y.course y.knows.agrees) in
      record {
        course = y.course;
        hidden = z.hidden;
        knows = record {
          leads = y.knows.leads;
          agrees = z.agrees;
          spent =
              y.knows.spent ∙ sym m.same;
        };
        chain = join y.chain z.chain;
      }

  stopped_by : (h : Halt) (from : List Piece) (new : Whole) → used new ≡ used mid
      → (y : Reached ghosts g first from mid w) → HaltsSo g from mid y.hidden y.course new h
      → (p : Piece) (k : List Piece) → from ≡ p ∷ k →
      Stopped ghosts g first h new w
  stopped_by (halt.Fault fault place) from new same y z p k e = record {
    course = y.course;
    hidden = z.hidden;
    knows =
        record { leads = y.knows.leads; agrees = z.agrees; spent = y.knows.spent ∙ sym same };
    chain =
        join y.chain z.chain;
  }
  stopped_by halt.Memory from new same y z p k e = record {
    todo = p ∷ k;
    last = _;
    course = y.course;
    leads = y.knows.leads;
    spent = y.knows.spent ∙ sym same;
    chain = subst (λ l. Reaches g (first_pieces g) (first_state g) nothing l (seen (base g mid y.hidden) y.course)
        y.course) e y.chain;
    stands = λ place. lacks;
  }
  stopped_by halt.Cut from new same y z p k e = absurd z
  stopped_by halt.Next from new same y z p k e = absurd z
  stopped_by halt.Exit from new same y z p k e = absurd z
  stopped_by (halt.Log place) from new same y z p k e = absurd z

  pub then_unprepared : {to : List Piece} {new : Whole} {r : Result (Unit {0}) Halt} (h : Halt) (p : Piece)
      (k : List Piece) → Reached ghosts g first (p ∷ k) mid w → Prepares g (p ∷ k) to mid r new → r ≡ Err h →
      Stopped ghosts g first h new w
  then_unprepared {new = new} h p k y m e = let z : HaltsSo g (p ∷ k) mid y.hidden y.course new h =
      rw e at (m.settles y.hidden y.course y.knows.agrees) in stopped_by h (p ∷ k) new m.same y z p k refl

-- ---- the first state

-- no stream is open
abbrev pub none_open : Table
none_open = record { entries = []; input = record { unread = []; ended = false }; room = 0 }

abbrev some_input : Input → Option Input
some_input x = Some x

standard_by : (b : Bool) (input : Input) → (if b then Some none_open.input else None) ≡ Some input
    → input ≡ none_open.input
standard_by true input e = sym (some_is none_open.input input e)
  where
    some_is : (x y : Input) → some_input x ≡ some_input y → x ≡ y
    some_is x y e = cc
standard_by false input e = absurd (cc)

tells_none : (t : Table) → t.entries ≡ [] → t.input ≡ record { unread = []; ended = false }
    → IsTable t first_hidden.taken nothing
tells_none t es i = record { streams = rw es refl; distinct = rw es tt; inputs = inputs }
  where
    inputs : (key : Key) (input : Input) → input_at key t ≡ Some input → IsRead key input 0 nothing
    inputs (Standard n) input e =
        let s : input ≡ none_open.input = standard_by (n == 0) input (ap (λ x. if n == 0 then Some x else None) (sym i)
        ∙ e) in
        rw s (record { unread = refl; ended = refl; within = omega arith })
    inputs (Named c text) input e = absurd (let f = rw es at e in cc)

pub owns_none : (numbers : List ℕ) (t : Table) → t.entries ≡ [] → Owns numbers t
owns_none numbers t es = rw es (λ n. omega arith)

module _ (g : Given) (cx : Context) (is : IsGiven cx g) (sound : Sound (names_of cx.program.now)) where
  names_so : names_in g ≡ names_of cx.program.now
  names_so = ap (λ q. map (λ n. n.text) q.variables) is.program

  sound_so : Sound (names_in g)
  sound_so = subst (λ ns. Sound ns) (sym names_so) sound

  agrees_first : (k : Kept) (t : Table) → k ≡ first_kept g.numbers g.seed g.program.variables → t.entries ≡ []
      → t.input ≡ record { unread = []; ended = false } → Agreeing g (k, t) first_hidden nothing
  agrees_first k t same es i = rw same (record {
    tells = tells_none t es i;
    row = inl refl;
    cells = length-map g.program.variables first_cell ∙ sym (length-map g.program.variables (λ n. n.text));
    sound = sound_so;
  })

  state_first : (k : Kept) (t : Table) → k ≡ first_kept g.numbers g.seed g.program.variables
      → seen (base g (k, t) first_hidden) nothing ≡ first_state g
  state_first k t same = ap (λ x. seen (base g (x, t) first_hidden) nothing) same ∙ ap (λ s. seen s nothing)
      (begins g sound_so.once)

  pub reached_first : {W : Type 0} (ghosts : Ghosts W) (w : W) → ghosts.follows w [] w → (k : Kept) (t : Table)
      → k ≡ first_kept cx.host.now.numbers cx.host.now.seed cx.program.now.variables → t.entries ≡ []
      → t.input ≡ record { unread = []; ended = false } → Reached ghosts g w (first_pieces g) (k, t) w
  reached_first ghosts w none k t same es i =
      let mine : k ≡ first_kept g.numbers g.seed g.program.variables = same
      ∙ (ap (λ numbers. first_kept numbers cx.host.now.seed cx.program.now.variables) (sym is.host.numbers)
      ∙ (ap (λ seed. first_kept g.numbers seed cx.program.now.variables) (sym is.host.seed)
      ∙ ap (λ q. first_kept g.numbers g.seed q.variables) (sym is.program))) in
      record {
        course = nothing;
        hidden = first_hidden;
        knows = record {
          leads = record { leads = none; same = refl };
          agrees = agrees_first k t mine es i;
          spent =
              rw mine refl;
        };
        chain = subst (λ s. Reaches g (first_pieces g) (first_state g) nothing (first_pieces g) s nothing)
            (sym (state_first k t mine)) here;
      }

-- where there is no memory for a store
pub reported_none : {W : Type 0} (ghosts : Ghosts W) (g : Given) (w : W) (place : Place) → ghosts.follows w [] w
    → Reported ghosts.follows ghosts.has_stopped ghosts.stops g w (Faulted NoMemory place) 0 w
reported_none ghosts g w place none = record {
  told = tt;
  played = record {
    events = [];
    last = None;
    plays =
        record { todo = first_pieces g; end = first_state g; chain = here; stands = lacks };
    leads = none;
    ends = refl;
  };
}
