-- The files of operands: they are opened, read and shut.
use Rattle.std.proofs.Common.{◌≡◌, inr, refl, sym, ap, subst, ◌∙◌, ◌-◌, arith, ℕ, Bool, true, false, true≢false, List}
use Rattle.std.proofs.Common.{[], ◌∷◌, map, length}
use Rattle.std.specs.Prelude.{Result, Ok, Err, Option, Some, None, option_map, is_some, pos, codes, if◌then◌else◌}
use Rattle.std.specs.Prelude.{unwrap_or, OnOk}
use Rattle.std.specs.Str.{bytes_eq}
use Rattle.awk_text.specs.declared.value.Value.TheVariants as v
use Rattle.awk_fields.specs.Takes.{Input}
use Rattle.box_world.specs.Calls.{IsStream, without}
use Rattle.box_world.specs.declared.ask.Mode.TheVariants as mode
use Rattle.box_world.specs.declared.ask.Reply.{Reply}
use Rattle.box_world.specs.declared.ask.Reply.TheVariants as reply
use Rattle.box_world.specs.declared.ask.Request.TheVariants as request
use Rattle.box_world.specs.Events.{Class, OperandFile, Key, Standard, Named, Opens, Shuts, Stream, ask_of, calls}
use Rattle.box_world.specs.Events.{find_stream, is_named, open_streams, without_stream}
use Rattle.box_world.specs.declared.world.World.{Ghosts}
use Rattle.awk_program.specs.Slots.{Text}
use Rattle.awk_program.specs.declared.variables.Own.TheVariants as own
use Rattle.awk_machine.specs.Advances.{advance, asked_by, held}
use Rattle.awk_machine.specs.MainInput.{file, begin_opened, operand_want}
use Rattle.awk_machine.specs.Pieces as machine
use Rattle.awk_machine.specs.Pieces.{nowhere, Piece, Begun, Do, Past, Goes, Asks}
use Rattle.awk_machine.specs.State.{State, Course, Given}
use Rattle.awk_machine.specs.Streams.{came, same_key, seen, want}
use Rattle.awk_machine.specs.Variables as variables
use Rattle.awk_store.specs.Changes as changes_
use Rattle.awk_store.specs.Changes.{with_main}
use Rattle.awk_store.specs.Kept.{Kept}
use Rattle.awk_store.specs.States.{Hidden}
use Rattle.awk_store.proofs.Cells.{change_count}
use Rattle.awk_store.proofs.Setting as set
use Rattle.awk_streams.specs.declared.getline.NextRecord.{NextRecord}
use Rattle.awk_streams.specs.declared.halt.Halt.{Halt}
use Rattle.awk_streams.specs.Chains.{Leads, Meets}
use Rattle.awk_streams.specs.Tables.{Table, Entry, entries_without, find_input, open_of, with_input}
use Rattle.awk_streams.specs.Tasks.{Answered, Refused, Opening, IsRead, IsSame, Owns, IsTable, beside, goes_on}
use Rattle.awk_streams.specs.Tasks.{input_at}
use Rattle.awk_streams.specs.Tasks.{number_opened}
use Rattle.awk_streams.proofs.Asking.{fits_here, number_at}
use Rattle.awk_streams.proofs.Chain.{Laws, asked, at_once, changes, done as finished, turned, unanswered}
use Rattle.awk_streams.proofs.Firsts.{drop_all}
use Rattle.awk_streams.proofs.Numbers.{among_all, found_once, times-without, times-without_stream}
use Rattle.awk_streams.proofs.Reading.{key_is, read_at, tells_taken}
use Rattle.awk_store.specs.Acts.{Acts}
use Rattle.awk_store.specs.Wholes.{Whole, Agreeing, base, names_in, used}
use Rattle.awk_store.proofs.Acting.{at_rest, alters, done}
use Rattle.awk_input.specs.Hosts.{Hosted, IsHost, is_given}
use Rattle.awk_input.specs.Operands.{IsBut, Moves, begun_or, current_key, opening_of}
use Rattle.awk_input.specs.Inputs.{found_main}
use Rattle.awk_input.specs.Performs.{LeadsWhole, MeetsWhole}
use Rattle.awk_input.proofs.MainSteps.{main_agrees}
use Rattle.awk_input.proofs.Opening.{fresh, tells_opening, tells_same}
use Rattle.awk_input.proofs.Restored.{restored}
use Rattle.awk_input.proofs.Shutting.{tells_closed, without_streams}

-- ---- an input begins

pub begins : (g : Given) (old : Whole) (key : Key) (text : Text) (new : Kept) →
    new ≡ changes_.with_own own.Fnr (v.Num (pos 0)) (changes_.with_own own.Filename (v.Input text)
    (with_main (record old.0.main { current = Some key }) old.0))
    → Acts g (Do (Begun key text)) goes_on old (Ok (tt {0})) (new, old.1)
begins g old key text new same =
    let begun : Kept = with_main (record old.0.main { current = Some key }) old.0 in
    let named : Kept = changes_.with_own own.Filename (v.Input text) begun in
    subst (λ (z : Kept). Acts g (Do (Begun key text)) goes_on old (Ok (tt {0})) (z, old.1)) (sym same)
    (done (alters refl (at_rest _ old) (λ k hid c a. (
      hid,
      record {
        tells = a.tells;
        row = a.row;
        cells = change_count _ _ _ ∙ change_count _ _ _ ∙ a.cells;
        sound =
            a.sound;
      },
      ap (λ s. Goes k (seen (variables.with_own (codes "FNR") (v.Num (pos 0)) s) c))
          (set.own (names_in g) begun hid a.sound own.Filename (v.Input text))
          ∙ ap (λ s. Goes k (seen s c)) (set.own (names_in g) named hid a.sound own.Fnr (v.Num (pos 0))),
    ))))

-- ---- a file is opened

opened_so : (text : Text) (k : List Piece) (found : Option ℕ) (r : Reply) → number_opened r ≡ found
    → begin_opened text k r ≡ begun_or text (is_some found) k
opened_so text k found (reply.Opened n) e = ap (λ o. begun_or text (is_some o) k) e
opened_so text k found (reply.Bytes b) e = ap (λ o. begun_or text (is_some o) k) e
opened_so text k found reply.End e = ap (λ o. begun_or text (is_some o) k) e
opened_so text k found reply.Done e = ap (λ o. begun_or text (is_some o) k) e
opened_so text k found (reply.Status z) e = ap (λ o. begun_or text (is_some o) k) e
opened_so text k found (reply.Value b) e = ap (λ o. begun_or text (is_some o) k) e
opened_so text k found reply.Failed e = ap (λ o. begun_or text (is_some o) k) e

module _ {W : Type 0} {ghosts : Ghosts W} (laws : Laws ghosts)
    (g : Given) (h : Hosted) (is : IsHost h g) (text : Text) (p : Piece) (old : Whole) (k : Kept) (t : Table)
    (m : Moves g p old (opening_of g text) (k, t)) where
  open_want : (ss : List Stream) → ask_of (operand_want g text (Opens mode.Read OperandFile text)) ss
      ≡ record { place = nowhere; given = is_given h text; request = request.Open mode.Read text }
  open_want ss = ap (λ b. record { place = nowhere; given = b; request = request.Open mode.Read text }) (is.words text)

  open_at : (l : List Piece) (hid : Hidden) (c : Course) → Agreeing g old hid c → (o : Option ℕ)
      → find_stream OperandFile text (open_of t) ≡ o →
      advance g (p ∷ l) (seen (base g old hid) c) ≡ asked_by (option_map reply.Opened o)
      (operand_want g text (Opens mode.Read OperandFile text)) (λ r. begin_opened text l r)
      (seen (base g (k, t) hid) c)
  open_at l hid c a o e =
      ap (held g (seen (base g old hid) c)) (m.moves l hid c a)
      ∙ ap (λ z. asked_by (option_map reply.Opened z) (operand_want g text (Opens mode.Read OperandFile text))
      (λ r. begin_opened text l r) (seen (base g (k, t) hid) c))
      (ap (find_stream OperandFile text) (m.agrees hid c a).tells.streams ∙ e)

  -- it is open
  pub operand_known : (n : ℕ) (w : W) → find_stream OperandFile text (open_of t) ≡ Some n
      → Leads ghosts (base g) (Agreeing g) used g p old w (λ l. begun_or text true l) (k, t) w
  operand_known n w e = changes (sym m.same) (at_once p old w)
      (λ l hid c a. (hid, m.agrees hid c a, open_at l hid c a (Some n) e))

  -- the world was asked
  pub operand_asked : (found : Option ℕ) (new : Table) (w w' : W) → find_stream OperandFile text (open_of t) ≡ None →
      Opening ghosts (record { place = nowhere; given = is_given h text; request = request.Open mode.Read text })
      OperandFile text t w found new w' →
      Leads ghosts (base g) (Agreeing g) used g p old w (λ l. begun_or text (is_some found) l) (k, new) w'
  operand_asked found new w w' none x =
      turned (asked {then_ = λ l r. begin_opened text l r} (operand_want g text (Opens mode.Read OperandFile text))
      (record { place = nowhere; given = is_given h text; request = request.Open mode.Read text }) x.reply laws
      (sym m.same) (at_once p old w)
      (λ first l hid c led a.
      let b = m.agrees hid c a in (
        record { taken = fresh OperandFile text hid.taken; row = hid.row },
        open_at l hid c a None none,
        fits_here laws first w (calls c.events) (request.Open mode.Read text) x.reply led x.answer.fits,
        open_want (open_streams c.events),
        record {
          tells = tells_opening nowhere (operand_want g text (Opens mode.Read OperandFile text)).given mode.Read
              OperandFile text t hid.taken c b.tells none x.reply found new x.number x.entries x.input;
          row = b.row;
          cells = b.cells;
          sound = b.sound;
        },
      ))
      x.answer.call)
      (λ l. opened_so text l found x.reply x.number)

  pub operand_refused : {A : Type 0} {on : A → List Piece → List Piece} (halt : Halt) (new : Table) (w w' : W)
      → find_stream OperandFile text (open_of t) ≡ None →
      Refused ghosts (record { place = nowhere; given = is_given h text; request = request.Open mode.Read text }) w halt
      w' →
      Meets ghosts (base g) (Agreeing g) used g p on old w (Err halt) (k, new) w'
  operand_refused halt new w w' none x =
      rw x.is (restored nowhere x.by m.same (unanswered {then_ = λ l r. begin_opened text l r}
      (operand_want g text (Opens mode.Read OperandFile text)) (record {
        place = nowhere;
        given = is_given h text;
        request = request.Open mode.Read text;
      }) x.by laws (at_once p old w)
      (λ l hid c a. (
        seen (base g (k, t) (record { taken = fresh OperandFile text hid.taken; row = hid.row })) c,
        open_at l hid c a None none,
        open_want (open_streams c.events),
      ))
      x.memory x.log))

-- ---- entries of one name

module _ (c : Class) (text : Text) where
  pub with_same_streams : (f : Input → Input) (es : List Entry) → map (λ e. e.stream) (with_input c text f es)
      ≡ map (λ e. e.stream) es
  with_same_streams f [] = refl
  with_same_streams f (e ∷ es) = by (is_named c text e.stream) (with_same_streams f es)
    where
      by : (b : Bool) → map (λ x. x.stream) (with_input c text f es) ≡ map (λ x. x.stream) es →
          map (λ x. x.stream) (if b then record e { input = f e.input } ∷ es else e ∷ with_input c text f es)
          ≡ e.stream ∷ map (λ x. x.stream) es
      by true rest = refl
      by false rest = ap (λ ss. e.stream ∷ ss) rest

  without_with : (f : Input → Input) (es : List Entry) → entries_without c text (with_input c text f es)
      ≡ entries_without c text es
  without_with f [] = refl
  without_with f (e ∷ es) = by (is_named c text e.stream) refl (without_with f es)
    where
      by : (b : Bool) → is_named c text e.stream ≡ b → entries_without c text (with_input c text f es)
          ≡ entries_without c text es →
          entries_without c text (if b then record e { input = f e.input } ∷ es else e ∷ with_input c text f es)
          ≡ (if b then es else e ∷ entries_without c text es)
      by true n rest = ap (λ b. if b then es else record e { input = f e.input } ∷ entries_without c text es) n
      by false n rest = ap (λ b. if b then with_input c text f es else e ∷ entries_without c text
          (with_input c text f es)) n ∙ ap (λ l. e ∷ l) rest

  with_absent : (f : Input → Input) (es : List Entry) → find_input c text es ≡ None → with_input c text f es ≡ es
  with_absent f [] h = refl
  with_absent f (e ∷ es) h = by (is_named c text e.stream) h (with_absent f es)
    where
      by : (b : Bool) → (if b then Some e.input else find_input c text es) ≡ None
          → (find_input c text es ≡ None → with_input c text f es ≡ es) →
          (if b then record e { input = f e.input } ∷ es else e ∷ with_input c text f es) ≡ e ∷ es
      by true n rest = absurd (cc)
      by false n rest = ap (λ l. e ∷ l) (rest n)

  without_absent : (es : List Entry) → find_stream c text (map (λ e. e.stream) es) ≡ None
      → entries_without c text es ≡ es
  without_absent [] h = refl
  without_absent (e ∷ es) h = by (is_named c text e.stream) h (without_absent es)
    where
      by : (b : Bool) → (if b then Some e.stream.number else find_stream c text (map (λ x. x.stream) es)) ≡ None
          → (find_stream c text (map (λ x. x.stream) es) ≡ None → entries_without c text es ≡ es) →
          (if b then es else e ∷ entries_without c text es) ≡ e ∷ es
      by true n rest = absurd (cc)
      by false n rest = ap (λ l. e ∷ l) (rest n)

-- ---- what is unread of a file is dropped

abbrev pub forgotten : Class → Text → Table → Table
forgotten c text t = record t { entries = with_input c text (λ i. record { unread = []; ended = i.ended }) t.entries }

pub but_itself : (c : Class) (text : Text) (t : Table) → IsBut c text t t
but_itself c text t = record { streams = refl; others = refl; input = refl }

pub but_forgotten : (c : Class) (text : Text) (t : Table) → IsBut c text (forgotten c text t) t
but_forgotten c text t = record {
  streams = sym (with_same_streams c text (λ i. record { unread = []; ended = i.ended }) t.entries);
  others = sym (without_with c text (λ i. record { unread = []; ended = i.ended }) t.entries);
  input = refl;
}

minus_nothing : (n : ℕ) → n - length {A = ℕ} [] ≡ n
minus_nothing n = omega arith

module _ (c : Class) (text : Text) (old : Table) (taken : Key → ℕ) (co : Course) (a : IsTable old taken co) where
  forgotten_by : (o : Option Input) → find_input c text old.entries ≡ o
      → IsTable (forgotten c text old) (λ other. if same_key (Named c text) other then length
      (came (Named c text) co.events) else taken other) co
  forgotten_by (Some i) e =
      subst (λ n. IsTable (forgotten c text old) (λ other. if same_key (Named c text) other then n else taken other) co)
      (minus_nothing (length (came (Named c text) co.events)))
      (tells_taken (Named c text) old (forgotten c text old) taken co i [] (length i.unread) a e
      (sym (drop_all i.unread)) (read_at c text (λ j. record { unread = []; ended = j.ended }) i old
      (forgotten c text old) e refl refl))
  forgotten_by None e =
      subst (λ (es : List Entry). IsTable (record old { entries = es })
      (λ other. if same_key (Named c text) other then length (came (Named c text) co.events) else taken other) co)
      (sym (with_absent c text (λ i. record { unread = []; ended = i.ended }) old.entries e))
      (record {
        streams = a.streams;
        distinct = a.distinct;
        inputs = λ other input h. named other input
            (same_key (Named c text) other) refl h;
      })
    where
      named : (other : Key) (input : Input) (b : Bool) → same_key (Named c text) other ≡ b
          → input_at other old ≡ Some input
          → IsRead other input (if b then length (came (Named c text) co.events) else taken other) co
      named other input true f h =
          let is : input_at (Named c text) old ≡ Some input = subst (λ z. input_at z old ≡ Some input)
          (sym (key_is (Named c text) other f)) h in
          absurd (cc)
      named other input false f h = a.inputs other input h

  pub tells_forgotten : IsTable (forgotten c text old) (λ other. if same_key (Named c text) other then length
      (came (Named c text) co.events) else taken other) co
  tells_forgotten = forgotten_by (find_input c text old.entries) refl

pub forgets_file : {W : Type 0} (ghosts : Ghosts W) (g : Given) (s : State) (c : Class) (text : Text) (old : Table)
    (w : W) →
    Meets ghosts (beside s) IsTable (λ t. s.course.used) g (Do (machine.Forget (Named c text))) (goes_on {A = Unit {0}})
    old w (Ok (tt {0})) (forgotten c text old) w
forgets_file ghosts g s c text old w = finished (changes refl (at_once _ old w) (λ k t co a. (
  λ other. if same_key (Named c text) other then length (came (Named c text) co.events) else t other,
  tells_forgotten c text old t co a,
  refl,
)))

-- ---- a file is shut

pub shut_duty : (numbers : List ℕ) (c : Class) (text : Text) (n : ℕ) (table : Table)
    → find_stream c text (open_of table) ≡ Some n → Owns numbers table → IsStream numbers n
shut_duty numbers c text n table h owns =
    let one = found_once c text (open_of table) n h in
    let all = owns n in
    inr (among_all n numbers (omega (arith, one, all)))

pub owns_gone : (numbers after : List ℕ) (c : Class) (text : Text) (n : ℕ) (table new : Table)
    → find_stream c text (open_of table) ≡ Some n → new.entries ≡ entries_without c text table.entries
    → after ≡ without n numbers → Owns numbers table → Owns after new
owns_gone numbers after c text n table new h es is owns = λ m.
    let o = owns m in
    let gone : open_of new ≡ without_stream c text (open_of table) = ap (map (λ e. e.stream)) es
    ∙ sym (without_streams c text table.entries) in
    let less = times-without_stream m c text (open_of table) n h in
    rw (is, gone, times-without n m numbers, less) (omega (arith, o))

module _ {W : Type 0} {ghosts : Ghosts W} (laws : Laws ghosts)
    (g : Given) (text : Text) (k : Kept) (t now : Table) (but : IsBut OperandFile text t now) (rest : List Piece
    → List Piece) (p : Piece) (old : Whole) (first w : W)
    (lead : LeadsWhole ghosts g p old first (λ l. Do (Past (Named OperandFile text)) ∷ rest l) (k, t) w) where
  abbrev passed : Kept
  passed = with_main (record k.main { current = None }) k

  past_agrees : (hid : Hidden) (c : Course) → Agreeing g (k, t) hid c → Agreeing g (passed, t) hid c
  past_agrees hid c a = main_agrees g (k, t) (record k.main { current = None }) hid c a

  past_at : (l : List Piece) (hid : Hidden) (c : Course) → Agreeing g (k, t) hid c → (o : Option ℕ)
      → find_stream OperandFile text (open_of now) ≡ o →
      advance g (Do (Past (Named OperandFile text)) ∷ l) (seen (base g (k, t) hid) c)
      ≡ asked_by (if is_some o then None else Some reply.Failed) (want nowhere (Shuts (Named OperandFile text)))
      (λ r. l) (seen (base g (passed, t) hid) c)
  past_at l hid c a o e =
      ap (λ z. asked_by (if is_some z then None else Some reply.Failed) (want nowhere (Shuts (Named OperandFile text)))
      (λ r. l) (seen (base g (passed, t) hid) c))
      (ap (find_stream OperandFile text) (a.tells.streams ∙ sym but.streams) ∙ e)

  -- it is not open
  pub passes_unopened : find_stream OperandFile text (open_of now) ≡ None
      → LeadsWhole ghosts g p old first rest (passed, now) w
  passes_unopened none =
      let there : find_stream OperandFile text (open_of t) ≡ None = ap (find_stream OperandFile text) (sym but.streams)
      ∙ none in
      let same : IsSame t now = record {
        entries = sym (without_absent OperandFile text now.entries none) ∙ but.others
            ∙ without_absent OperandFile text t.entries there;
        input = but.input;
      } in
      changes refl lead (λ l hid c a.
      let b = past_agrees hid c a in (
        hid,
        record { tells = tells_same t now hid.taken c same b.tells; row = b.row; cells = b.cells; sound = b.sound },
        past_at (rest l) hid c a None none,
      ))

  -- it was shut
  pub passes_shut : (n : ℕ) (new : Table) (r : Reply) (w' : W) → find_stream OperandFile text (open_of now) ≡ Some n
      → new.entries ≡ entries_without OperandFile text now.entries → new.input ≡ now.input →
      Answered ghosts (record { place = nowhere; given = false; request = request.Shut n }) w r w' →
      LeadsWhole ghosts g p old first rest (passed, new) w'
  passes_shut n new r w' found es same x =
      let there : find_stream OperandFile text (open_of t) ≡ Some n = ap (find_stream OperandFile text)
      (sym but.streams) ∙ found in
      asked {then_ = λ l r. rest l} (want nowhere (Shuts (Named OperandFile text)))
      (record { place = nowhere; given = false; request = request.Shut n }) r laws refl lead
      (λ begin l hid c led a.
      let b = past_agrees hid c a in (
        hid,
        past_at (rest l) hid c a (Some n) found,
        fits_here laws begin w (calls c.events) (request.Shut n) r led x.fits,
        ap (λ m. record { place = nowhere; given = false; request = request.Shut m })
            (number_at (Named OperandFile text) n t hid.taken c there a.tells),
        record {
          tells = tells_closed nowhere OperandFile text t new hid.taken c r (es ∙ but.others) (same ∙ but.input)
              b.tells;
          row = b.row;
          cells = b.cells;
          sound = b.sound;
        },
      ))
      x.call

  pub shut_refused : {A : Type 0} {on : A → List Piece → List Piece} (n : ℕ) (halt : Halt) (w' : W)
      → find_stream OperandFile text (open_of now) ≡ Some n →
      Refused ghosts (record { place = nowhere; given = false; request = request.Shut n }) w halt w' →
      Meets ghosts (base g) (Agreeing g) used g p on old first (Err halt) (passed, now) w'
  shut_refused n halt w' found x =
      let there : find_stream OperandFile text (open_of t) ≡ Some n = ap (find_stream OperandFile text)
      (sym but.streams) ∙ found in
      rw x.is (restored nowhere x.by refl (unanswered {q = λ l. Do (Past (Named OperandFile text))} {to = rest} {then_ =
      λ l r. rest l} (want nowhere (Shuts (Named OperandFile text))) (record {
        place = nowhere;
        given = false;
        request = request.Shut n;
      }) x.by laws lead
      (λ l hid c a. (
        seen (base g (passed, t) hid) c,
        past_at (rest l) hid c a (Some n) found,
        ap (λ m. record { place = nowhere; given = false; request = request.Shut m })
            (number_at (Named OperandFile text) n t hid.taken c there a.tells),
      ))
      x.memory x.log))

-- ---- the stream that is read

pub current_is : (k : Kept) (key : Key) → k.main.current ≡ Some key → current_key k ≡ key
current_is k key e = ap (λ o. unwrap_or o (Standard 0)) e

-- ---- what an operand names

pub file_standard : (g : Given) (text : Text) (k : List Piece) (s : State) → bytes_eq text (codes "-") ≡ true
    → file g text k s ≡ Goes (Do (Begun (Standard 0) text) ∷ k) s
file_standard g text k s e = ap (λ b. if b then Goes (Do (Begun (Standard 0) text) ∷ k) s else Asks
    (operand_want g text (Opens mode.Read OperandFile text)) (λ r. begin_opened text k r) s) e

pub file_named : (g : Given) (text : Text) (k : List Piece) (s : State) → bytes_eq text (codes "-") ≡ false
    → file g text k s ≡ opening_of g text k s
file_named g text k s e = ap (λ b. if b then Goes (Do (Begun (Standard 0) text) ∷ k) s else Asks
    (operand_want g text (Opens mode.Read OperandFile text)) (λ r. begin_opened text k r) s) e

-- ---- options and results

pub none_at : {A : Type 0} (o : Option A) → is_some o ≡ false → o ≡ None
none_at None e = refl
none_at (Some x) e = absurd (true≢false e)

pub ok_any : {A E P : Type 0} (r : Result A E) → P → OnOk r P
ok_any (Ok x) p = p
ok_any (Err e) p = tt

pub same_text : (a b : Text) → Some (Named OperandFile a) ≡ Some (Named OperandFile b) → a ≡ b
same_text a b e = cc

-- the stream that was read, in other words
pub read_as : {W : Type 0} {ghosts : Ghosts W} {g : Given} {p : Piece} {old new : Whole} {w w' : W}
    {r : Result NextRecord Halt} {key other : Key} →
    key ≡ other → MeetsWhole ghosts g p (found_main key) old w r new w'
    → MeetsWhole ghosts g p (found_main other) old w r new w'
read_as {ghosts = ghosts} {g = g} {p = p} {old = old} {new = new} {w = w} {w' = w'} {r = r} e h =
    subst (λ z. MeetsWhole ghosts g p (found_main z) old w r new w') e h
