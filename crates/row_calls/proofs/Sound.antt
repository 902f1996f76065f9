-- For the rows of the definition: what is replayed is a run of plain awk, where its questions on EREs are answered
-- rightly, and where it asks none, without more.
use Rattle.std.proofs.Common.{◌≡◌, ◌<◌, ◌≤◌, ℕ, zero, suc, ℤ, pos, negsuc, Bool, true, false, not, ◌&&◌, nat_lt, nat_le}
use Rattle.std.proofs.Common.{List, [], ◌∷◌, map, length, Option, refl, sym, ap, subst, ◌∙◌, arith, true≢false}
use Rattle.std.specs.Prelude.{Some, None}
use Rattle.std.specs.Int.Signed.{le_z_yes}
use Rattle.std.proofs.lemmas.Bool.Decides.{nat_tests}
use Rattle.std.proofs.lemmas.Float.{T_from_true}
use Rattle.awk_fields.specs.Fields.{Fields}
use Rattle.awk_fields.specs.Separators.{Separator, blanks, nothing, byte, ere}
use Rattle.awk_fields.specs.Rows.{Held, unsplit, known, AreHeld}
use Rattle.awk_program.specs.Slots.{Text}
use Rattle.awk_machine.specs.Advances.{advance}
use Rattle.awk_machine.specs.Begins as begins
use Rattle.awk_machine.specs.Begins.{first_pieces, first_state}
use Rattle.awk_machine.specs.Pieces.{Piece, Next as Move, Goes, Steps, Asks, Seeks, Over, Outcome}
use Rattle.awk_machine.specs.Plays.{Fits, Plays, Reaches, here, goes, steps, asks, seeks, Stands, over}
use Rattle.awk_machine.specs.Questions as q
use Rattle.awk_machine.specs.Questions.{Question, Right}
use Rattle.awk_machine.specs.State.{State, Course, Given}
use Rattle.awk_machine.specs.Streams.{seen, with_step, with_event}
use Rattle.box_world.specs.Calls.{Call, IsFitting, IsOpening, IsReading, IsDoing, IsStatus, IsShutting, IsRunning}
use Rattle.box_world.specs.Calls.{IsValuing, is_among, open_after}
use Rattle.box_world.specs.Events.{Want, Event, calls, open_streams, request_of}
use Rattle.box_world.specs.declared.ask.Mode.{Mode}
use Rattle.box_world.specs.declared.ask.Reply.{Reply}
use Rattle.box_world.specs.declared.ask.Reply.TheVariants as reply
use Rattle.box_world.specs.declared.ask.Request.{Request}
use Rattle.box_world.specs.declared.ask.Request.TheVariants.{Open, Next, Put, Shut, System, Env, Assign}
use Rattle.row_calls.proofs.Playing.{answer_to, fields_of, parts_of, fitting, fits, answered, met, replay, replayed}
use Rattle.row_calls.proofs.Playing.{of_ere, of_row, is_of_ere, with_question, asked_of, questions, questions_of}

-- ---- replies that fit

both : (a b : Bool) → (a && b) ≡ true → (a ≡ true) × (b ≡ true)
both true b e = (refl, e)
both false b e = absurd (true≢false (sym e))

is_not : (b : Bool) → not b ≡ true → b ≡ false
is_not true e = absurd (true≢false (sym e))
is_not false e = refl

no : {A : Type 0} → false ≡ true → A
no e = absurd (true≢false (sym e))

below : (m n : ℕ) → nat_le m n ≡ true → m ≤ n
below m n e = grind (arith, nat_tests)

above : (m n : ℕ) → nat_lt m n ≡ true → m < n
above m n e = grind (arith, nat_tests)

from_zero : (n : ℕ) → nat_le 0 n ≡ true
from_zero n = grind (arith, nat_tests)

opening_fits : (ns : List ℕ) (text : List ℕ) (mode : Mode) (r : Reply) → fitting ns (Open mode text) r ≡ true →
    IsOpening ns r
opening_fits ns text mode (reply.Opened n) e =
    let h = both (nat_le 3 n) (not (is_among ns n)) e in
    (below 3 n h.0, is_not (is_among ns n) h.1)
opening_fits ns text mode (reply.Bytes b) e = no e
opening_fits ns text mode reply.End e = no e
opening_fits ns text mode reply.Done e = no e
opening_fits ns text mode (reply.Status z) e = no e
opening_fits ns text mode (reply.Value b) e = no e
opening_fits ns text mode reply.Failed e = tt

reading_fits : (ns : List ℕ) (n : ℕ) (r : Reply) → fitting ns (Next n) r ≡ true → IsReading r
reading_fits ns n (reply.Opened k) e = no e
reading_fits ns n (reply.Bytes b) e = above 0 (length b) e
reading_fits ns n reply.End e = tt
reading_fits ns n reply.Done e = no e
reading_fits ns n (reply.Status z) e = no e
reading_fits ns n (reply.Value b) e = no e
reading_fits ns n reply.Failed e = tt

doing_fits : (ns : List ℕ) (n : ℕ) (bytes : List ℕ) (r : Reply) → fitting ns (Put n bytes) r ≡ true → IsDoing r
doing_fits ns n bytes (reply.Opened k) e = no e
doing_fits ns n bytes (reply.Bytes b) e = no e
doing_fits ns n bytes reply.End e = no e
doing_fits ns n bytes reply.Done e = tt
doing_fits ns n bytes (reply.Status z) e = no e
doing_fits ns n bytes (reply.Value b) e = no e
doing_fits ns n bytes reply.Failed e = tt

status_fits : (ns : List ℕ) (text : List ℕ) (z : ℤ) → fitting ns (System text) (reply.Status z) ≡ true → IsStatus z
status_fits ns text (pos n) e = (
  le_z_yes (T_from_true (nat_le 0 n) (from_zero n)),
  le_z_yes (T_from_true (nat_le n 256) e),
)
status_fits ns text (negsuc n) e = no e

shutting_fits : (ns : List ℕ) (n : ℕ) (r : Reply) → fitting ns (Shut n) r ≡ true → IsShutting r
shutting_fits ns n (reply.Opened k) e = no e
shutting_fits ns n (reply.Bytes b) e = no e
shutting_fits ns n reply.End e = no e
shutting_fits ns n reply.Done e = tt
shutting_fits ns n (reply.Status z) e = status_fits ns [] z e
shutting_fits ns n (reply.Value b) e = no e
shutting_fits ns n reply.Failed e = tt

running_fits : (ns : List ℕ) (text : List ℕ) (r : Reply) → fitting ns (System text) r ≡ true → IsRunning r
running_fits ns text (reply.Opened k) e = no e
running_fits ns text (reply.Bytes b) e = no e
running_fits ns text reply.End e = no e
running_fits ns text reply.Done e = no e
running_fits ns text (reply.Status z) e = status_fits ns text z e
running_fits ns text (reply.Value b) e = no e
running_fits ns text reply.Failed e = tt

valuing_fits : (ns : List ℕ) (name : List ℕ) (r : Reply) → fitting ns (Env name) r ≡ true → IsValuing r
valuing_fits ns name (reply.Opened k) e = no e
valuing_fits ns name (reply.Bytes b) e = no e
valuing_fits ns name reply.End e = no e
valuing_fits ns name reply.Done e = no e
valuing_fits ns name (reply.Status z) e = no e
valuing_fits ns name (reply.Value b) e = tt
valuing_fits ns name reply.Failed e = tt

fits_so : (ns : List ℕ) (request : Request) (r : Reply) → fitting ns request r ≡ true → IsFitting ns request r
fits_so ns (Open mode text) r e = opening_fits ns text mode r e
fits_so ns (Next n) r e = reading_fits ns n r e
fits_so ns (Put n bytes) r e = doing_fits ns n bytes r e
fits_so ns (Shut n) r e = shutting_fits ns n r e
fits_so ns (System text) r e = running_fits ns text r e
fits_so ns (Env name) r e = valuing_fits ns name r e
fits_so ns (Assign name text) r e = doing_fits ns 0 [] r e

-- ---- answers that are right

abbrev pub AllRight : List Question → Type 0
AllRight [] = Unit {0}
AllRight (question ∷ rest) = Right question (answer_to question) × AllRight rest

parts_are : (separator : Separator) (text : Text) → of_ere separator text ≡ false →
    Fields separator text (parts_of separator text)
parts_are separator [] e = refl
parts_are blanks (b ∷ s) e = refl
parts_are nothing (b ∷ s) e = refl
parts_are (byte c newline) (b ∷ s) e = refl
parts_are (ere source newline) (b ∷ s) e = no (sym e)

fields_are : (whole : Text) (held : Held) → of_row whole held ≡ false →
    Right (q.Fields (record { whole = whole; fields = held })) (fields_of whole held)
fields_are whole (known found) e = refl
fields_are whole (unsplit separator) e = (parts_of separator whole, parts_are separator whole e, refl)

right_by : (question : Question) → is_of_ere question ≡ false → Right question (answer_to question)
right_by (q.Spells source) e = no (sym e)
right_by (q.Matches source text) e = no (sym e)
right_by (q.Finds source text is_all) e = no (sym e)
right_by (q.Divides separator text) e = parts_are separator text e
right_by (q.Fields row) e = fields_are row.whole row.fields e

right_or : (question : Question) (rest : List Question) (b : Bool) → is_of_ere question ≡ b →
    AllRight (with_question b question rest) → Right question (answer_to question) × AllRight rest
right_or question rest true e h = h
right_or question rest false e h = (right_by question e, h)

-- ---- what is replayed is reached

record Ends (g : Given) (k : List Piece) (s : State) (c : Course) (o : Outcome) (used : ℕ) (cs : List Call) : Type 0
  where
    events : List Event
    todo : List Piece
    end : State
    chain : Reaches g k s c todo end (record { events = events; used = used })
    over : advance g todo (seen end (record { events = events; used = used })) ≡ Over o
    same : calls events ≡ cs

some_same : {A : Type 0} (x y : A) → Some x ≡ Some y → x ≡ y
some_same x y e = cc

none : {A : Type 0} {P : Type 0} (x : A) → None ≡ Some x → P
none x e = absurd (cc)

module _ (g : Given) (o : Outcome) (used : ℕ) (cs : List Call) where
  -- each run of so many moves
  abbrev Each : ℕ → Type 0
  Each n = (k : List Piece) (s : State) (c : Course) (rs : List Reply) → replay n g k s c rs ≡ Some (o, used, cs) →
      AllRight (questions n g k s c rs) → Ends g k s c o used cs

  ended : (k : List Piece) (s : State) (c : Course) (p : Outcome) → advance g k (seen s c) ≡ Over p →
      ◌≡◌ {A = Option (Outcome × ℕ × List Call)} (Some (p, c.used, calls c.events)) (Some (o, used, cs)) →
      Ends g k s c o used cs
  ended k s c p e is =
      let h = some_same {A = Outcome × ℕ × List Call} (p, c.used, calls c.events) (o, used, cs) is in
      let steps = ap (λ z. z.1) h in
      record {
        events = c.events;
        todo = k;
        end = s;
        chain = subst (λ n. Reaches g k s c k s (record { events = c.events; used = n })) steps here;
        over = subst (λ n. advance g k (seen s (record { events = c.events; used = n })) ≡ Over o) steps
            (e ∙ ap (λ z. Over z.0) h);
        same = ap (λ z. z.2) h;
      }

  asking : (n : ℕ) → Each n → (k : List Piece) (s : State) (c : Course) (w : Want) (then_ : Reply →
      List Piece) (t : State) → advance g k (seen s c) ≡ Asks w then_ t →
      (r : Reply) (rs : List Reply) (b : Bool) → fits c.events w r ≡ b
      → answered b (replay n g) (then_ r) (seen t (with_event w r c)) (with_event w r c) rs ≡ Some (o, used, cs) →
      AllRight (questions n g (then_ r) (seen t (with_event w r c)) (with_event w r c) rs) → Ends g k s c o used cs
  asking n ih k s c w then_ t e r rs true f is right =
      let x = ih (then_ r) (seen t (with_event w r c)) (with_event w r c) rs is right in
      record {
        events = x.events;
        todo = x.todo;
        end = x.end;
        chain = asks r e (fits_so (open_after (calls c.events) []) (request_of w.wish (open_streams c.events)) r f)
            x.chain;
        over = x.over;
        same = x.same;
      }
  asking n ih k s c w then_ t e r rs false f is right = none (o, used, cs) is

  moved : (n : ℕ) → Each n → (k : List Piece) (s : State) (c : Course) (x : Move) → advance g k (seen s c) ≡ x →
      (rs : List Reply) → met (replay n g) x c rs ≡ Some (o, used, cs) →
      AllRight (asked_of (questions n g) x c rs) → Ends g k s c o used cs
  moved n ih k s c (Goes l t) e rs is right =
      let x = ih l (seen t c) c rs is right in
      record { events = x.events; todo = x.todo; end = x.end; chain = goes e x.chain; over = x.over; same = x.same }
  moved n ih k s c (Steps l t) e rs is right =
      let x = ih l (seen t (with_step c)) (with_step c) rs is right in
      record { events = x.events; todo = x.todo; end = x.end; chain = steps e x.chain; over = x.over; same = x.same }
  moved n ih k s c (Asks w then_ t) e [] is right = none (o, used, cs) is
  moved n ih k s c (Asks w then_ t) e (r ∷ rs) is right = asking n ih k s c w then_ t e r rs (fits c.events w r) refl is
      right
  moved n ih k s c (Seeks question then_ t) e rs is right =
      let h = right_or question (questions n g (then_ (answer_to question)) (seen t c) c rs) (is_of_ere question) refl
      right in
      let x = ih (then_ (answer_to question)) (seen t c) c rs is h.1 in
      record {
        events = x.events;
        todo = x.todo;
        end = x.end;
        chain = seeks (answer_to question) e h.0 x.chain;
        over =
            x.over;
        same = x.same;
      }
  moved n ih k s c (Over p) e rs is right = ended k s c p e is

  each : (n : ℕ) → Each n
  each zero k s c rs is right = none (o, used, cs) is
  each (suc n) k s c rs is right = moved n (each n) k s c (advance g k (seen s c)) refl rs is right

-- The events of a run of plain awk, whose calls are these.
pub record PlaysBy (g : Given) (o : Outcome) (used : ℕ) (cs : List Call) : Type 0 where
  pub events : List Event
  pub plays : Plays g events o used None
  pub same : calls events ≡ cs

pub played : (n : ℕ) (g : Given) (rs : List Reply) (o : Outcome) (used : ℕ) (cs : List Call) →
    replayed n g rs ≡ Some (o, used, cs) → AllRight (questions_of n g rs) → PlaysBy g o used cs
played n g rs o used cs is right =
    let x = each g o used cs n (first_pieces g) (first_state g) begins.nothing rs is right in
    record {
      events = x.events;
      plays = record { todo = x.todo; end = x.end; chain = x.chain; stands = over x.over };
      same = x.same;
    }
