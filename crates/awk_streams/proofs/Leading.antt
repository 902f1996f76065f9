-- A piece that opens a stream: it is open, or the world is asked.
use Rattle.std.proofs.Common.{◌≡◌, refl, sym, ◌∙◌, ap, ℕ, Bool, false, List, [], ◌∷◌, ◌++◌, map}
use Rattle.std.specs.Prelude.{Option, Some, None, option_map, IfSome, IfOk, Result, Ok, Err}
use Rattle.awk_text.specs.declared.place.Place.{Place}
use Rattle.awk_text.specs.declared.fault.Fault.TheVariants.{Output}
use Rattle.box_world.specs.Calls.{IsFitting, numbers_after}
use Rattle.box_world.specs.declared.ask.Ask.{Ask}
use Rattle.box_world.specs.declared.ask.Mode.{Mode}
use Rattle.box_world.specs.declared.ask.Reply.{Reply}
use Rattle.box_world.specs.declared.ask.Reply.TheVariants as reply
use Rattle.box_world.specs.declared.ask.Request.TheVariants as request
use Rattle.box_world.specs.Events.{Class, Key, Named, calls, find_stream, open_streams}
use Rattle.box_world.specs.declared.world.World.{Ghosts}
use Rattle.awk_program.specs.Slots.{Text}
use Rattle.awk_machine.specs.Advances.{advance, asked_by, held}
use Rattle.awk_machine.specs.Moves.{move}
use Rattle.awk_machine.specs.Getline.{input_mode, read_opened}
use Rattle.awk_machine.specs.Pieces.{Piece, Do, Fetch, Asks, Goes, Faulted, ends}
use Rattle.awk_machine.specs.Printing.{unless_failed}
use Rattle.awk_machine.specs.State.{State, Course, Given}
use Rattle.awk_machine.specs.Streams.{seen}
use Rattle.awk_streams.specs.declared.halt.Halt.{Halt}
use Rattle.awk_streams.specs.Chains.{Leads, Meets}
use Rattle.awk_streams.specs.Tables.{Table, Entry, open_of}
use Rattle.awk_streams.specs.Tasks.{Refused, Opening, Opens, IsTable, IsSame, Owns, beside, MeetsTable, fetched}
use Rattle.awk_streams.specs.Tasks.{number_opened}
use Rattle.awk_streams.specs.Tasks.{entries_opened}
use Rattle.awk_streams.proofs.Asking.{fits_here}
use Rattle.awk_streams.proofs.Chain.{Laws, at_once, asked, done, known, settled, turned, unanswered}
use Rattle.awk_streams.proofs.Numbers.{within_next}
use Rattle.awk_streams.proofs.Opened.{fresh, found_opened, opening, tells_same, tells_opening}

-- ---- numbers

numbers_push : (es : List Entry) (e : Entry) → map (λ s. s.number) (map (λ x. x.stream) (es ++ e ∷ []))
    ≡ map (λ s. s.number) (map (λ x. x.stream) es) ++ e.stream.number ∷ []
numbers_push [] e = refl
numbers_push (x ∷ xs) e = ap (λ ns. x.stream.number ∷ ns) (numbers_push xs e)

pub owns_same : (numbers : List ℕ) (old new : Table) → IsSame old new → Owns numbers old → Owns numbers new
owns_same numbers old new i h = rw i.entries h

owns_after : (numbers : List ℕ) (mode : Mode) (sent : Text) (c : Class) (text : Text) (old new : Table) (r : Reply)
    (found : Option ℕ) → number_opened r ≡ found →
    new.entries ≡ entries_opened c text found old.entries → Owns numbers old
    → Owns (numbers_after (request.Open mode sent) r numbers) new
owns_after numbers mode sent c text old new (reply.Opened n) found e es h =
    let f : new.entries ≡ entries_opened c text (Some n) old.entries =
    es ∙ ap (λ o. entries_opened c text o old.entries) (sym e) in
    rw (
      f,
      numbers_push old.entries (record {
        stream = record { class = c; text = text; number = n };
        input =
            record { unread = []; ended = false };
      }),
    )
    (within_next (map (λ s. s.number) (open_of old)) numbers (request.Open mode sent) (reply.Opened n) h)
owns_after numbers mode sent c text old new (reply.Bytes b) found e es h =
    let f : new.entries ≡ old.entries = es ∙ ap (λ o. entries_opened c text o old.entries) (sym e) in rw f h
owns_after numbers mode sent c text old new reply.End found e es h =
    let f : new.entries ≡ old.entries = es ∙ ap (λ o. entries_opened c text o old.entries) (sym e) in rw f h
owns_after numbers mode sent c text old new reply.Done found e es h =
    let f : new.entries ≡ old.entries = es ∙ ap (λ o. entries_opened c text o old.entries) (sym e) in rw f h
owns_after numbers mode sent c text old new (reply.Status z) found e es h =
    let f : new.entries ≡ old.entries = es ∙ ap (λ o. entries_opened c text o old.entries) (sym e) in rw f h
owns_after numbers mode sent c text old new (reply.Value b) found e es h =
    let f : new.entries ≡ old.entries = es ∙ ap (λ o. entries_opened c text o old.entries) (sym e) in rw f h
owns_after numbers mode sent c text old new reply.Failed found e es h =
    let f : new.entries ≡ old.entries = es ∙ ap (λ o. entries_opened c text o old.entries) (sym e) in rw f h

pub owns_opened : (numbers after : List ℕ) (mode : Mode) (sent : Text) (c : Class) (text : Text) (old new : Table)
    (r : Reply) (found : Option ℕ) → after ≡ numbers_after (request.Open mode sent) r numbers →
    number_opened r ≡ found → new.entries ≡ entries_opened c text found old.entries → Owns numbers old → Owns after new
owns_opened numbers after mode sent c text old new r found i e es h =
    rw i (owns_after numbers mode sent c text old new r found e es h)

-- ---- the machine

-- the piece asks to open the stream, whatever is left to be done
abbrev pub IsOpening : Given → Piece → Place → Bool → Mode → Class → Text → (List Piece → Reply → List Piece) → Type 0
IsOpening g p place given mode c text then_ = (k : List Piece) (s : State)
    → move g (p ∷ k) s ≡ Asks (opening place given mode c text) (then_ k) s

module _ (g : Given) (p : Piece) (place : Place) (given : Bool) (mode : Mode) (c : Class) (text : Text)
    (then_ : List Piece → Reply → List Piece) (is : IsOpening g p place given mode c text then_) (s : State) where
  stays_open : (k : List Piece) (n : ℕ) (table : Table) (taken : Key → ℕ) (co : Course)
      → find_stream c text (open_streams co.events) ≡ Some n →
      advance g (p ∷ k) (seen (beside s table taken) co) ≡ Goes (then_ k (reply.Opened n))
      (seen (beside s table taken) co)
  stays_open k n table taken co e =
      let t = seen (beside s table taken) co in
      ap (held g t) (is k t) ∙ ap (λ o. asked_by (option_map reply.Opened o) (opening place given mode c text)
      (then_ k) t) e

  asks_open : (k : List Piece) (table new : Table) (taken : Key → ℕ) (co : Course)
      → find_stream c text (open_streams co.events) ≡ None →
      advance g (p ∷ k) (seen (beside s table taken) co) ≡ Asks (opening place given mode c text) (then_ k)
      (seen (beside s new (fresh c text taken)) co)
  asks_open k table new taken co e =
      let t = seen (beside s table taken) co in
      ap (held g t) (is k t) ∙ ap (λ o. asked_by (option_map reply.Opened o) (opening place given mode c text)
      (then_ k) t) e

  module _ {W : Type 0} {ghosts : Ghosts W} (laws : Laws ghosts) where
    pub open_known : (n : ℕ) (table : Table) (w : W) → find_stream c text (open_of table) ≡ Some n →
        Leads ghosts (beside s) IsTable (λ t. s.course.used) g p table w (λ k. then_ k (reply.Opened n)) table w
    open_known n table w e =
        known then_ (reply.Opened n) (at_once p table w) (λ k taken co a. stays_open k n table taken co
        (ap (find_stream c text) a.streams ∙ e))

    pub open_asked : (found : Option ℕ) (table new : Table) (w w' : W) → find_stream c text (open_of table) ≡ None →
        (x : Opening ghosts (record { place = place; given = given; request = request.Open mode text }) c text table w
        found new w') →
        Leads ghosts (beside s) IsTable (λ t. s.course.used) g p table w (λ k. then_ k x.reply) new w'
    open_asked found table new w w' none x =
        asked {then_ = then_} (opening place given mode c text) (record {
          place = place;
          given = given;
          request =
              request.Open mode text;
        }) x.reply laws refl (at_once p table w)
        (λ first k taken co led a. (
          fresh c text taken,
          asks_open k table new taken co (ap (find_stream c text) a.streams ∙ none),
          fits_here laws first w (calls co.events) (request.Open mode text) x.reply led x.answer.fits,
          refl,
          tells_opening place given mode c text table taken co a none x.reply found new x.number x.entries x.input,
        ))
        x.answer.call

    pub open_refused : (h : Halt) (table new : Table) (w w' : W) {A : Type 0} {on : A → List Piece → List Piece}
        → find_stream c text (open_of table) ≡ None → IsSame table new →
        Refused ghosts (record { place = place; given = given; request = request.Open mode text }) w h w' →
        Meets ghosts (beside s) IsTable (λ t. s.course.used) g p on table w (Err h) new w'
    open_refused h table new w w' none same x =
        rw x.is (unanswered {then_ = then_} (opening place given mode c text)
        (record { place = place; given = given; request = request.Open mode text }) x.by laws
        (settled refl (λ hid. refl) (λ hid co a. tells_same table new hid co same a) (at_once p table w))
        (λ k taken co a. (
          seen (beside s new (fresh c text taken)) co,
          asks_open k new new taken co (ap (find_stream c text) (a.streams ∙ ap (map (λ e. e.stream)) same.entries)
              ∙ none),
          refl,
        ))
        x.memory x.log)

-- ---- replies to an opening

pub output_fails : (place : Place) (k : List Piece) (numbers : List ℕ) (mode : Mode) (text : Text) (r : Reply)
    → IsFitting numbers (request.Open mode text) r → number_opened r ≡ None →
    unless_failed place k r ≡ ends (Faulted Output place)
output_fails place k numbers mode text (reply.Opened n) f e = absurd (cc)
output_fails place k numbers mode text (reply.Bytes b) f e = absurd f
output_fails place k numbers mode text reply.End f e = absurd f
output_fails place k numbers mode text reply.Done f e = absurd f
output_fails place k numbers mode text (reply.Status z) f e = absurd f
output_fails place k numbers mode text (reply.Value b) f e = absurd f
output_fails place k numbers mode text reply.Failed f e = refl

pub output_opens : (place : Place) (k : List Piece) (n : ℕ) (r : Reply) → number_opened r ≡ Some n
    → unless_failed place k r ≡ k
output_opens place k n (reply.Opened m) e = refl
output_opens place k n (reply.Bytes b) e = absurd (cc)
output_opens place k n reply.End e = absurd (cc)
output_opens place k n reply.Done e = absurd (cc)
output_opens place k n (reply.Status z) e = absurd (cc)
output_opens place k n (reply.Value b) e = absurd (cc)
output_opens place k n reply.Failed e = absurd (cc)

pub input_opens : (place : Place) (key : Key) (k : List Piece) (found : Option ℕ) (r : Reply) → number_opened r ≡ found
    → read_opened place key k r ≡ fetched place key found k
input_opens place key k found (reply.Opened n) e = ap (λ o. fetched place key o k) e
input_opens place key k found (reply.Bytes b) e = ap (λ o. fetched place key o k) e
input_opens place key k found reply.End e = ap (λ o. fetched place key o k) e
input_opens place key k found reply.Done e = ap (λ o. fetched place key o k) e
input_opens place key k found (reply.Status z) e = ap (λ o. fetched place key o k) e
input_opens place key k found (reply.Value b) e = ap (λ o. fetched place key o k) e
input_opens place key k found reply.Failed e = ap (λ o. fetched place key o k) e

module _ {W : Type 0} {ghosts : Ghosts W} (laws : Laws ghosts) where
  -- what a world answered to the opening of an input
  pub input_asked : (g : Given) (s : State) (place : Place) (c : Class) (text : Text) (table new : Table) (w w' : W)
      (r : Result (Option ℕ) Halt) → find_stream c text (open_of table) ≡ None →
      Opens ghosts (record { place = place; given = false; request = request.Open (input_mode c) text }) c text table w
      r new w' →
      MeetsTable ghosts g s (Do (Fetch place c text)) (fetched place (Named c text)) table w r new w'
  input_asked g s place c text table new w w' (Ok found) none x =
      done (turned (open_asked g (Do (Fetch place c text)) place false (input_mode c) c text
      (read_opened place (Named c text)) (λ k t. refl) s laws found table new w w' none x)
      (λ k. input_opens place (Named c text) k found x.reply x.number))
  input_asked g s place c text table new w w' (Err h) none x =
      open_refused g (Do (Fetch place c text)) place false (input_mode c) c text (read_opened place (Named c text))
      (λ k t. refl) s laws h table new w w' none x.1 x.0

input_found : (c : Class) (text : Text) (old new : Table) (found : Option ℕ) → find_stream c text (open_of old) ≡ None
    → new.entries ≡ entries_opened c text found old.entries →
    IfSome found (λ n. find_stream c text (open_of new) ≡ Some n)
input_found c text old new None none es = tt
input_found c text old new (Some n) none es = found_opened c text n old new none es

pub input_finds : {W : Type 0} (ghosts : Ghosts W) (ask : Ask) (c : Class) (text : Text) (old new : Table) (w w' : W)
    (r : Result (Option ℕ) Halt) →
    find_stream c text (open_of old) ≡ None → Opens ghosts ask c text old w r new w'
    → IfOk r (λ o. IfSome o (λ n. find_stream c text (open_of new) ≡ Some n))
input_finds ghosts ask c text old new w w' (Ok found) none x = input_found c text old new found none x.entries
input_finds ghosts ask c text old new w w' (Err h) none x = tt
