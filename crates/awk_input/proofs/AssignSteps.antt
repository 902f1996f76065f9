-- Variables that the host sets.
use Rattle.std.proofs.Common.{◌≡◌, refl, sym, ap, subst, ◌∙◌, ℕ, zero, suc, Bool, true, false, true≢false, ◌||◌, List}
use Rattle.std.proofs.Common.{[], ◌∷◌}
use Rattle.std.specs.Prelude.{Result, Ok, Err, Option, Some, None, option_map, get_or, codes, if◌then◌else◌}
use Rattle.std.specs.List.{list_any}
use Rattle.std.specs.Str.{bytes_eq}
use Rattle.std.proofs.lemmas.Slice.Eq.{bytes_eq-Decides}
use Rattle.std.proofs.Math.Path.{fun_ext}
use Rattle.awk_text.specs.declared.value.Value.{Value}
use Rattle.awk_text.specs.declared.value.Value.TheVariants as v
use Rattle.awk_text.specs.Escapes.{unescaped}
use Rattle.box_world.specs.declared.ask.Reply.{Reply}
use Rattle.box_world.specs.declared.ask.Reply.TheVariants as reply
use Rattle.box_world.specs.declared.ask.Request.TheVariants as request
use Rattle.box_world.specs.Events.{Key, Assigns, Stream, ask_of, calls, open_streams}
use Rattle.box_world.specs.declared.world.World.{Ghosts}
use Rattle.awk_program.specs.Program as p
use Rattle.awk_program.specs.Slots.{Text, slot_of}
use Rattle.awk_program.specs.declared.variables.Own.TheVariants as own
use Rattle.awk_program.specs.declared.variables.Variable.TheVariants.{Global}
use Rattle.awk_machine.specs.Advances.{advance, held}
use Rattle.awk_machine.specs.MainInput.{assigned, assignment, operand_want}
use Rattle.awk_machine.specs.Pieces as machine
use Rattle.awk_machine.specs.Pieces.{nowhere, Piece, Do, Set, Goes, Asks}
use Rattle.awk_machine.specs.State.{Course, Given}
use Rattle.awk_machine.specs.Streams.{seen, with_event}
use Rattle.awk_machine.specs.Targets.{set_nf}
use Rattle.awk_machine.specs.Variables.{changed, with_variable}
use Rattle.awk_store.specs.declared.cell.Cell.{Cell}
use Rattle.awk_store.specs.Kept.{scalar}
use Rattle.awk_store.specs.States.{Hidden, Sound, cell_named, values_of}
use Rattle.awk_store.proofs.Slots.{differs}
use Rattle.awk_streams.specs.declared.halt.Halt.{Halt}
use Rattle.awk_streams.specs.Chains.{Leads, Meets}
use Rattle.awk_streams.specs.Tables.{Table}
use Rattle.awk_streams.specs.Tasks.{Answered, Refused, IsTable, goes_on}
use Rattle.awk_streams.proofs.Asking.{fits_here}
use Rattle.awk_streams.proofs.Chain.{Laws, asked, at_once, unanswered}
use Rattle.awk_store.specs.Acts.{Acts}
use Rattle.awk_store.specs.Spots.{meant}
use Rattle.awk_store.specs.Wholes.{Whole, Agreeing, base, names_in, used}
use Rattle.awk_store.specs.declared.spot.Spot.TheVariants as spot
use Rattle.awk_store.proofs.Acting.{at_rest, done, moves}
use Rattle.awk_input.specs.Hosts as host
use Rattle.awk_input.specs.Hosts.{Hosted, IsHost, IsSlotIn, can_set, is_given}
use Rattle.awk_input.specs.Operands.{Moves, is_done}
use Rattle.awk_input.proofs.Restored.{restored}

-- ---- a name of no variable

neither : (a b : Bool) → (a || b) ≡ false → (a ≡ false) × (b ≡ false)
neither true b e = absurd (true≢false e)
neither false b e = (refl, e)

not_same : (x n : Text) → bytes_eq x n ≡ false → x ≡ n → ⊥
not_same x n e same = true≢false (sym ((bytes_eq-Decides x n).1 same) ∙ e)

cell_absent : (names : List Text) (cells : List Cell) (x : Text) → list_any (bytes_eq x) names ≡ false
    → cell_named names cells x ≡ None
cell_absent [] cells x e = refl
cell_absent (n ∷ ns) [] x e = refl
cell_absent (n ∷ ns) (c ∷ cs) x e =
    let f = neither (bytes_eq x n) (list_any (bytes_eq x) ns) e in
    rw (differs n x (not_same x n f.0)) (cell_absent ns cs x f.1)

not_among : (names : List Text) (x : Text) → list_any (bytes_eq x) names ≡ false → (k : ℕ) → get_or names k [] ≡ x
    → x ≡ []
not_among [] x e k same = sym same
not_among (n ∷ ns) x e zero same = absurd (not_same x n (neither (bytes_eq x n) (list_any (bytes_eq x) ns) e).0
    (sym same))
not_among (n ∷ ns) x e (suc k) same = not_among ns x (neither (bytes_eq x n) (list_any (bytes_eq x) ns) e).1 k same

not_nf : (names : List Text) (x : Text) → Sound names → list_any (bytes_eq x) names ≡ false → (b : Bool)
    → bytes_eq x (codes "NF") ≡ b → b ≡ false
not_nf names x sound e false f = refl
not_nf names x sound e true f =
    let is = (bytes_eq-Decides x (codes "NF")).0 f in
    let empty = not_among names x e (slot_of own.Nf) (sound.own own.Nf ∙ sym is) in
    let no : codes "NF" ≡ [] = sym is ∙ empty in
    absurd (cc)

-- to set it changes nothing
module _ (f : Text → Option Value) (name : Text) (val : Value) (none : f name ≡ None) where
  still : (x : Option Value) → x ≡ None → option_map (λ old. val) x ≡ x
  still None e = refl
  still (Some x) e = absurd (cc)

  unset_at : (other : Text) (b : Bool) → bytes_eq name other ≡ b → changed f name val other ≡ f other
  unset_at other true e = rw e (still (f other) (ap f (sym ((bytes_eq-Decides name other).0 e)) ∙ none))
  unset_at other false e = rw e refl

  unset : changed f name val ≡ f
  unset = fun_ext (λ other. unset_at other (bytes_eq name other) refl)

pub sets_nothing : (g : Given) (old : Whole) (name : Text) (val : Value) → list_any (bytes_eq name) (names_in g) ≡ false
    → Acts g (Do (Set (machine.Variable (p.global name)) nowhere val)) goes_on old (Ok (tt {0})) old
sets_nothing g old name val e = done (moves (at_rest _ old) (λ k hid c a.
    ap (λ b. held g (seen (base g old hid) c) (if b then set_nf nowhere val k (seen (base g old hid) c) else Goes k
    (with_variable (p.global name) val (seen (base g old hid) c))))
    (not_nf (names_in g) name a.sound e (bytes_eq name (codes "NF")) refl)
    ∙ ap (λ (f : Text → Option Value). Goes k (record (seen (base g old hid) c) { values = f }))
    (unset (values_of (names_in g) old.0.cells) name val
    (ap scalar (cell_absent (names_in g) old.0.cells name e)))))

-- ---- a name that the host may set

module _ (g : Given) (h : Hosted) (is : IsHost h g) (name : Text) (val : Value) (free : can_set h name ≡ true)
    (old : Whole) where
  pub sets_named : (k : ℕ) (r : Result (Unit {0}) Halt) (new : Whole) → Some k ≡ host.slot_of h name
      → Acts g (Do (Set (meant (names_in g) (spot.Variable (Global k))) nowhere val)) goes_on old r new →
      Acts g (Do (Set (machine.Variable (p.global name)) nowhere val)) goes_on old r new
  sets_named k r new e x =
      let slot : get_or (names_in g) k [] ≡ name = subst (IsSlotIn (names_in g) name) (sym e) (is.slots name free) in
      subst (λ z. Acts g (Do (Set (machine.Variable (p.global z)) nowhere val)) goes_on old r new) slot x

  pub sets_none : None ≡ host.slot_of h name → Acts g (Do (Set (machine.Variable (p.global name)) nowhere val)) goes_on
      old (Ok (tt {0})) old
  sets_none e =
      let none : list_any (bytes_eq name) (names_in g) ≡ false = subst (IsSlotIn (names_in g) name) (sym e)
      (is.slots name free) in
      sets_nothing g old name val none

-- ---- an operand that assigns

pub sets_so : (name text : Text) (k : List Piece) (r : Reply) → is_done r ≡ true
    → assigned name text k r ≡ Do (Set (machine.Variable (p.global name)) nowhere (v.Input (unescaped text))) ∷ k
sets_so name text k reply.Done e = refl
sets_so name text k (reply.Opened n) e = absurd (true≢false (sym e))
sets_so name text k (reply.Bytes b) e = absurd (true≢false (sym e))
sets_so name text k reply.End e = absurd (true≢false (sym e))
sets_so name text k (reply.Status z) e = absurd (true≢false (sym e))
sets_so name text k (reply.Value b) e = absurd (true≢false (sym e))
sets_so name text k reply.Failed e = absurd (true≢false (sym e))

pub denied_so : (name text : Text) (k : List Piece) (r : Reply) → is_done r ≡ false → assigned name text k r ≡ k
denied_so name text k reply.Done e = absurd (true≢false e)
denied_so name text k (reply.Opened n) e = refl
denied_so name text k (reply.Bytes b) e = refl
denied_so name text k reply.End e = refl
denied_so name text k (reply.Status z) e = refl
denied_so name text k (reply.Value b) e = refl
denied_so name text k reply.Failed e = refl

-- an assignment changes no stream
tells_assigned : (g : Given) (operand name text : Text) (table : Table) (taken : Key → ℕ) (c : Course) (r : Reply)
    → IsTable table taken c → IsTable table taken (with_event (operand_want g operand (Assigns name text)) r c)
tells_assigned g operand name text table taken c r a = record {
  streams = a.streams;
  distinct = a.distinct;
  inputs = λ other input e. let x = a.inputs other input e in
      record { unread = x.unread; ended = x.ended; within = x.within };
}

module _ {W : Type 0} {ghosts : Ghosts W} (laws : Laws ghosts)
    (g : Given) (h : Hosted) (is : IsHost h g) (operand name text : Text) (p : Piece) (old mid : Whole)
    (m : Moves g p old (assignment g operand name text) mid) where
  assign_want : (ss : List Stream) → ask_of (operand_want g operand (Assigns name text)) ss ≡ record {
    place = nowhere;
    given = is_given h operand;
    request = request.Assign name text;
  }
  assign_want ss = ap (λ b. record { place = nowhere; given = b; request = request.Assign name text })
      (is.words operand)

  assign_asks : (k : List Piece) (hid : Hidden) (c : Course) → Agreeing g old hid c
      → advance g (p ∷ k) (seen (base g old hid) c) ≡ Asks (operand_want g operand (Assigns name text))
      (λ r. assigned name text k r) (seen (base g mid hid) c)
  assign_asks k hid c a = ap (held g (seen (base g old hid) c)) (m.moves k hid c a)

  pub assigns : (r : Reply) (w w' : W)
      → Answered ghosts (record { place = nowhere; given = is_given h operand; request = request.Assign name text }) w r
      w' →
      Leads ghosts (base g) (Agreeing g) used g p old w (λ k. assigned name text k r) mid w'
  assigns r w w' x =
      asked {then_ = λ k r. assigned name text k r} (operand_want g operand (Assigns name text))
      (record { place = nowhere; given = is_given h operand; request = request.Assign name text }) r laws
      (sym m.same) (at_once p old w)
      (λ first k hid c led a.
      let b = m.agrees hid c a in (
        hid,
        assign_asks k hid c a,
        fits_here laws first w (calls c.events) (request.Assign name text) r led x.fits,
        assign_want (open_streams c.events),
        record {
          tells = tells_assigned g operand name text mid.1 hid.taken c r b.tells;
          row = b.row;
          cells = b.cells;
          sound = b.sound;
        },
      ))
      x.call

  pub assign_refused : {A : Type 0} {on : A → List Piece → List Piece} (halt : Halt) (w w' : W)
      → Refused ghosts (record { place = nowhere; given = is_given h operand; request = request.Assign name text }) w
      halt w' →
      Meets ghosts (base g) (Agreeing g) used g p on old w (Err halt) mid w'
  assign_refused halt w w' x =
      rw x.is (restored nowhere x.by m.same (unanswered {then_ = λ k r. assigned name text k r}
      (operand_want g operand (Assigns name text)) (record {
        place = nowhere;
        given = is_given h operand;
        request =
            request.Assign name text;
      }) x.by laws (at_once p old w)
      (λ k hid c a. (seen (base g mid hid) c, assign_asks k hid c a, assign_want (open_streams c.events)))
      x.memory x.log))
