-- Tasks: each keeps what is listed, and asks for what is covered.
use Rattle.std.proofs.Common.{◌+◌, ℕ, zero, suc, Bool, true, false, List, [], ◌∷◌, ◌++◌, length, drop, refl}
use Rattle.std.specs.Prelude.{Option, Some, None, if◌then◌else◌, codes, pos, slice_index_or, int_lt, nat_lt, nat_le}
use Rattle.std.specs.List.{before_first, after_first}
use Rattle.std.specs.Fmt.{decimal}
use Rattle.std.specs.Str.{bytes_eq}
use Rattle.awk_numbers.specs.declared.number.Number.TheVariants as number
use Rattle.awk_text.specs.declared.place.Place.{Place}
use Rattle.awk_text.specs.declared.fault.Fault.TheVariants as fault
use Rattle.awk_text.specs.declared.value.Value.{Value}
use Rattle.awk_text.specs.declared.value.Value.TheVariants as v
use Rattle.awk_text.specs.Arithmetic as on
use Rattle.awk_text.specs.Arithmetic.{whole_of}
use Rattle.awk_text.specs.Values.{text_of, number_of, of_number, truth}
use Rattle.awk_fields.specs.Heads.{Head, taken, need_more, done, too_long}
use Rattle.awk_fields.specs.Rows as row
use Rattle.awk_fields.specs.Rows.{rebuilt, known, place_of, with_count, unsplit, blank}
use Rattle.awk_fields.specs.Separators.{separator}
use Rattle.awk_format.specs.Directives.{◌>>=◌}
use Rattle.awk_lib.specs.Arrays.{element, put}
use Rattle.awk_lib.specs.Arrays as arrays
use Rattle.awk_lib.specs.Parts.{texts_from}
use Rattle.awk_lib.specs.Replacing.{replaced}
use Rattle.awk_program.specs.Slots.{Text}
use Rattle.awk_program.specs.Program as p
use Rattle.awk_program.specs.Program.{Expression, Statement, Statements, Rule, When, Function, Program, Arguments}
use Rattle.awk_program.specs.Program.{statements_of}
use Rattle.box_policy.specs.declared.policy.Kind.TheVariants as kind
use Rattle.box_world.specs.declared.ask.Mode.{Mode}
use Rattle.box_world.specs.declared.ask.Mode.TheVariants as mode
use Rattle.box_world.specs.declared.ask.Reply.{Reply}
use Rattle.box_world.specs.declared.ask.Reply.TheVariants as reply
use Rattle.box_world.specs.Events.{Class, OperandFile, Key, Standard, Named, Opens, Stream}
use Rattle.awk_machine.specs.Builtins as built
use Rattle.awk_machine.specs.Calls as calls
use Rattle.awk_machine.specs.Closing as closing
use Rattle.awk_machine.specs.Forms.{value, unary, if_true}
use Rattle.awk_machine.specs.Getline as getline
use Rattle.awk_machine.specs.MainInput as main
use Rattle.awk_machine.specs.Moves as moves
use Rattle.awk_machine.specs.Operators.{limited, of_count}
use Rattle.awk_machine.specs.Pieces as m
use Rattle.awk_machine.specs.Pieces.{nowhere, Loop, Part, Choosing, Records, Leave, Piece, At, Do, Goes, Asks, Seeks}
use Rattle.awk_machine.specs.Pieces.{Then, Next, give, granted, ends}
use Rattle.awk_machine.specs.Printing as printing
use Rattle.awk_machine.specs.Questions as q
use Rattle.awk_machine.specs.Questions.{Answer}
use Rattle.awk_machine.specs.Rules as r
use Rattle.awk_machine.specs.State.{State, Given, Bound, Phase, Beginning, Ruling, Ending, Shared}
use Rattle.awk_machine.specs.Statements as st
use Rattle.awk_machine.specs.Targets as to
use Rattle.awk_machine.specs.Variables.{is_nf, variable, own_text, own_value, with_variable, with_own, array, array_at}
use Rattle.awk_machine.specs.Variables.{with_array, by_convfmt}
use Rattle.box_listing.specs.declared.site.Found.TheVariants as found
use Rattle.box_listing.specs.Listings.{at_start}
use Rattle.box_listing.specs.Sites as s
use Rattle.listing_laws.proofs.Standing.{Listed, Holds, Sub, hands, Fit, EnvironFit, Stack, Ready, Keeps, Whole}
use Rattle.listing_laws.proofs.Steps.{front, back, both, hand, ended, push_value, through, one, either, ready_if}
use Rattle.listing_laws.proofs.Steps.{counted}

module _ (S : Listed) where
  -- ---- reading and setting

  gets_by : (b : Bool) (a : p.Variable) (k : List Piece) (t : State) → Stack S (hands None) k →
      Keeps S (if b then Seeks (q.Fields t.row) (λ a. give (of_count (length (q.these a))) k) t else Goes
      (give (variable t a) k) t)
  gets_by true a k t rest = λ x. hand S None (of_count (length (q.these x))) k tt rest
  gets_by false a k t rest = hand S None (variable t a) k tt rest

  gets_element : (o : Option Value) (a : p.Variable) (key : Text) (place : Place) (k : List Piece) (t : State)
      → Stack S (hands None) k → Keeps S (to.get_element o a key place k t)
  gets_element (Some x) a key place k t rest = hand S None x k tt rest
  gets_element None a key place k t rest =
      through S place (put (array t a) key v.Unset) (λ new k s. Goes (give v.Unset k) (with_array a new s)) k t
      (λ new. hand S None v.Unset k tt rest)

  pub gets : (x : m.Target) (k : List Piece) (t : State) → Stack S (hands None) k → Keeps S (to.get x k t)
  gets (m.Variable a) k t rest = gets_by (is_nf a) a k t rest
  gets (m.Element a key place) k t rest = gets_element (element (array t a) key) a key place k t rest
  gets (m.Field zero) k t rest = hand S None (v.Input t.row.whole) k tt rest
  gets (m.Field (suc n)) k t rest = λ a. hand S None (slice_index_or (q.these a) n blank).value k tt rest

  separated : (place : Place) (by : Text) (k : List Piece) → Ready S k → Ready S (to.check_separator place by k)
  separated place by k h = ready_if S (nat_lt 1 (length by)) (Do (m.Check place by) ∷ k) k (tt, h) h

  sets_nf : (place : Place) (x : Value) (k : List Piece) (t : State) → Ready S k → Keeps S (to.set_nf place x k t)
  sets_nf place x k t rest =
      through S place (number_of t.numbers x >>= λ y. whole_of y >>= place_of)
      (λ n k s. Seeks (q.Fields s.row) (λ a. Do (m.Rebuild place (with_count (q.these a) n)) ∷ k) s) k t
      (λ n a. (tt, rest))

  sets_by : (b : Bool) (a : p.Variable) (place : Place) (x : Value) (k : List Piece) (t : State) → Ready S k
      → Keeps S (if b then to.set_nf place x k t else Goes k (with_variable a x t))
  sets_by true a place x k t rest = sets_nf place x k t rest
  sets_by false a place x k t rest = rest

  sets_shown : (n : ℕ) (place : Place) (x shown : Value) (k : List Piece) (t : State) → Ready S k
      → Keeps S (to.set_shown n place x shown k t)
  sets_shown zero place x shown k t rest =
      separated place (own_text t (codes "FS")) (Do (m.Whole place (text_of shown)) ∷ k) (tt, rest)
  sets_shown (suc n) place x shown k t rest = λ a. (tt, rest)

  pub sets : (y : m.Target) (place : Place) (x : Value) (k : List Piece) (t : State) → Ready S k
      → Keeps S (to.set y place x k t)
  sets (m.Variable a) place x k t rest = sets_by (is_nf a) a place x k t rest
  sets (m.Element a key at) place x k t rest = through S at (put (array t a) key x)
      (λ new k s. Goes k (with_array a new s)) k t (λ new. rest)
  sets (m.Field n) place x k t rest =
      through S place (by_convfmt t x) (to.set_shown n place x) k t (λ shown. sets_shown n place x shown k t rest)

  pub wholes : (place : Place) (text : Text) (k : List Piece) (t : State) → Ready S k
      → Keeps S (to.whole place text k t)
  wholes place text k t rest =
      through S place (limited text) (λ text k s.
      Goes k (record s {
        row =
            record {
              whole = text;
              fields =
                  unsplit (separator (own_text s (codes "FS")) (to.is_empty (own_text s (codes "RS"))));
            };
      })) k t (λ made. rest)

  pub rebuilds : (place : Place) (fs : List row.Field) (k : List Piece) (t : State) → Ready S k
      → Keeps S (to.rebuild place fs k t)
  rebuilds place fs k t rest =
      through S place (limited (rebuilt (own_text t (codes "OFS")) fs))
      (λ text k s. Goes k (record s { row = record { whole = text; fields = known fs } })) k t (λ made. rest)

  pub checks : (place : Place) (source : Text) (k : List Piece) (t : State) → Ready S k
      → Keeps S (to.check place source k t)
  checks place source k t rest = λ a. ready_if S (q.yes a) k (ends (m.Faulted fault.Pattern place)) rest
      (ended S (m.Faulted fault.Pattern place))

  -- ---- built-in functions

  pub locateds : (ms : List (ℕ × ℕ)) (k : List Piece) (t : State) → Stack S (hands None) k
      → Keeps S (built.located ms k t)
  locateds [] k t rest = hand S None (of_count 0) k tt rest
  locateds (x ∷ ms) k t rest = hand S None (of_count (x.0 + 1)) k tt rest

  pub replaces : (place : Place) (y : m.Target) (new old : Text) (ms : List (ℕ × ℕ)) (k : List Piece) (t : State)
      → Stack S (hands None) k → Keeps S (built.replace place y new old ms k t)
  replaces place y new old [] k t rest = hand S None (of_count 0) k tt rest
  replaces place y new old (x ∷ ms) k t rest =
      through S place (limited (replaced new old 0 (x ∷ ms)))
      (λ text k s. Goes (Do (m.Set y place (v.Text text)) ∷ Do (m.Give (of_count (length (x ∷ ms)))) ∷ k) s) k t
      (λ made. (tt, (tt, rest)))

  fills_by : (b : Bool) (at : Place) (a : p.Variable) (parts : List Text) (k : List Piece) (t : State)
      → Stack S (hands None) k →
      Keeps S (if b then Goes (give (of_count (length parts)) k) (with_array a (texts_from 1 parts) t) else m.fails
      fault.TooManyElements at t)
  fills_by true at a parts k t rest = hand S None (of_count (length parts)) k tt rest
  fills_by false at a parts k t rest = ended S (m.Faulted fault.TooManyElements at)

  pub fills : (at : Place) (a : p.Variable) (parts : List Text) (k : List Piece) (t : State) → Stack S (hands None) k
      → Keeps S (built.fill at a parts k t)
  fills at a parts k t rest = fills_by (nat_le (length parts) arrays.most_elements) at a parts k t rest

  -- ---- calls

  body_of : (fs : List Function) (n : ℕ) → Sub S (s.functions fs)
      → Sub S (s.all_done (slice_index_or fs n (record { name = []; parameters = []; body = [] })).body)
  body_of [] n h = tt
  body_of (f ∷ fs) zero h = front S (s.all_done f.body) (s.functions fs) h
  body_of (f ∷ fs) (suc n) h = body_of fs n (back S (s.all_done f.body) (s.functions fs) h)

  enters_by : (b : Bool) (place : Place) (f : Function) (given : List Bound) (others : List Bool) (k : List Piece)
      (t : State) → Sub S (s.all_done f.body) → Stack S (hands None) k →
      Keeps S (if b then calls.entered f given others k t else m.fails fault.CallDepth place t)
  enters_by true place f given others k t h rest = (h, (tt, tt, rest))
  enters_by false place f given others k t h rest = ended S (m.Faulted fault.CallDepth place)

  pub enters : (g : Given) (place : Place) (n : ℕ) (xs : Arguments) (vs : List Value) (k : List Piece) (t : State)
      → Whole S g → Stack S (hands None) k → Keeps S (calls.enter g place n xs vs k t)
  enters g place n xs vs k t w rest =
      enters_by (nat_lt t.depth calls.most_depth) place (calls.function g.program n)
      (calls.all_handed t (calls.arguments xs) vs) (drop (length vs) (calls.function g.program n).parameters) k t
      (body_of g.program.functions n w.functions) rest

  -- ---- statements

  stepping : (x : Statement) (k : List Piece) → Ready S k → Ready S (st.stepping x k)
  stepping (p.block (p.then_also x xs)) k h = h
  stepping (p.block p.no_more) k h = (tt, h)
  stepping other k h = (tt, h)

  pub starts : (x : Statement) (k : List Piece) (t : State) → Sub S (s.done x) → Ready S k → Keeps S (st.start x k t)
  starts x k t h rest = stepping x (At (m.Doing x) [] ∷ k) (h, tt, rest)

  pub eaches : (xs : List Statement) (k : List Piece) (t : State) → Sub S (s.all_done xs) → Ready S k
      → Keeps S (st.each xs k t)
  eaches [] k t h rest = rest
  eaches (x ∷ xs) k t h rest = (front S (s.done x) (s.all_done xs) h, (back S (s.done x) (s.all_done xs) h, rest))

  pub turns : (place : Place) (a : p.Variable) (x : Statement) (keys : List Text) (k : List Piece) (t : State)
      → Sub S (s.done x) → Ready S k → Keeps S (st.turns place a x keys k t)
  turns place a x [] k t h rest = rest
  turns place a x (key ∷ keys) k t h rest = (tt, (h, (h, rest)))

  -- ---- streams

  unfailed : (place : Place) (k : List Piece) (r : Reply) → Ready S k → Ready S (printing.unless_failed place k r)
  unfailed place k reply.Failed h = ended S (m.Faulted fault.Output place)
  unfailed place k (reply.Opened n) h = h
  unfailed place k (reply.Bytes b) h = h
  unfailed place k reply.End h = h
  unfailed place k reply.Done h = h
  unfailed place k (reply.Status z) h = h
  unfailed place k (reply.Value b) h = h

  pub opens : (place : Place) (mode : Mode) (class : Class) (text : Text) (k : List Piece) (t : State)
      → Fit S (m.Open place mode class text) → Ready S k → Keeps S (printing.open_output place mode class text k t)
  opens place mode class text k t fit rest = (fit, λ r. unfailed place k r rest)

  pub puts : (place : Place) (key : Key) (text : Text) (k : List Piece) (t : State) → Ready S k
      → Keeps S (printing.put place key text k t)
  puts place key text k t rest = (tt, λ r. unfailed place k r rest)

  reads_on : (place : Place) (key : Key) (k : List Piece) (r : Reply) → Stack S (hands None) k
      → Ready S (getline.read_on place key k r)
  reads_on place key k reply.Failed h = hand S None getline.failure k tt h
  reads_on place key k (reply.Opened n) h = (tt, h)
  reads_on place key k (reply.Bytes b) h = (tt, h)
  reads_on place key k reply.End h = (tt, h)
  reads_on place key k reply.Done h = (tt, h)
  reads_on place key k (reply.Status z) h = (tt, h)
  reads_on place key k (reply.Value b) h = (tt, h)

  pub reads : (place : Place) (key : Key) (head : Head) (k : List Piece) (t : State) → Stack S (hands None) k
      → Keeps S (getline.read_by place key head k t)
  reads place key (taken text left) k t rest = hand S None (v.Input text) k tt rest
  reads place key need_more k t rest = (tt, λ r. reads_on place key k r rest)
  reads place key done k t rest = hand S None (v.Num (pos 0)) k tt rest
  reads place key too_long k t rest = ended S (m.Faulted fault.TextTooLong place)

  opened : (place : Place) (key : Key) (k : List Piece) (r : Reply) → Stack S (hands None) k
      → Ready S (getline.read_opened place key k r)
  opened place key k reply.Failed h = hand S None getline.failure k tt h
  opened place key k (reply.Opened n) h = (tt, h)
  opened place key k (reply.Bytes b) h = hand S None getline.failure k tt h
  opened place key k reply.End h = hand S None getline.failure k tt h
  opened place key k reply.Done h = hand S None getline.failure k tt h
  opened place key k (reply.Status z) h = hand S None getline.failure k tt h
  opened place key k (reply.Value b) h = hand S None getline.failure k tt h

  pub fetches : (place : Place) (class : Class) (text : Text) (k : List Piece) (t : State)
      → Fit S (m.Fetch place class text) → Stack S (hands None) k → Keeps S (getline.fetch place class text k t)
  fetches place class text k t fit rest = (fit, λ r. opened place (Named class text) k r rest)

  pub counts : (place : Place) (name : Text) (k : List Piece) (t : State) → Ready S k
      → Keeps S (getline.count place name k t)
  counts place name k t rest =
      through S place (number_of t.numbers (own_value t name) >>= λ n. on.add t.numbers n (number.Whole (pos 1)))
      (λ n k s. Goes k (with_own name (of_number n) s)) k t (λ n. rest)

  pub closes : (place : Place) (text : Text) (so_far : Option Value) (o : Option Stream) (k : List Piece) (t : State)
      → Stack S (hands None) k → Keeps S (closing.close_by place text so_far o k t)
  closes place text so_far None k t rest = hand S None (closing.answer_or so_far) k tt rest
  closes place text so_far (Some x) k t rest = (tt, λ r. (tt, rest))

  -- ---- the main input

  takes_on : (key : Key) (k : List Piece) (r : Reply) → Holds S found.MainInput → Stack S (hands None) k
      → Ready S (main.take_on key k r)
  takes_on key k reply.Failed fit h = (tt, (tt, (tt, (fit, h))))
  takes_on key k (reply.Opened n) fit h = (fit, h)
  takes_on key k (reply.Bytes b) fit h = (fit, h)
  takes_on key k reply.End fit h = (fit, h)
  takes_on key k reply.Done fit h = (fit, h)
  takes_on key k (reply.Status z) fit h = (fit, h)
  takes_on key k (reply.Value b) fit h = (fit, h)

  takes_by : (key : Key) (head : Head) (k : List Piece) (t : State) → Holds S found.MainInput → Stack S (hands None) k
      → Keeps S (main.take_by key head k t)
  takes_by key (taken text left) k t fit rest = hand S None (v.Input text) k tt rest
  takes_by key need_more k t fit rest = (tt, λ r. takes_on key k r fit rest)
  takes_by key done k t fit rest = (tt, (fit, rest))
  takes_by key too_long k t fit rest = ended S (m.Faulted fault.TextTooLong nowhere)

  takes_from : (o : Option Key) (k : List Piece) (t : State) → Holds S found.MainInput → Stack S (hands None) k
      → Keeps S (main.take_from o k t)
  takes_from None k t fit rest = (fit, (fit, rest))
  takes_from (Some key) k t fit rest = takes_by key (getline.first_record key t) k t fit rest

  taken_if : (b : Bool) (k : List Piece) (t : State) → Holds S found.MainInput → Stack S (hands None) k →
      Keeps S (if b then Goes (give (v.Num (pos 0)) k) t else main.take_from t.main.current k t)
  taken_if true k t fit rest = hand S None (v.Num (pos 0)) k tt rest
  taken_if false k t fit rest = takes_from t.main.current k t fit rest

  pub takes : (k : List Piece) (t : State) → Holds S found.MainInput → Stack S (hands None) k
      → Keeps S (main.take_record k t)
  takes k t fit rest = taken_if t.main.ended k t fit rest

  pub pasts : (key : Key) (k : List Piece) (t : State) → Ready S k → Keeps S (main.past key k t)
  pasts (Standard n) k t rest = rest
  pasts (Named class text) k t rest = (tt, λ r. rest)

  next_by : (more named : Bool) (k : List Piece) (t : State) → Holds S found.MainInput → Ready S k →
      Keeps S (if more then Goes (Do m.Step ∷ Do m.Look ∷ k) t
      else (if named then Goes k (main.with_main (record t.main { ended = true }) t) else Goes k
      (main.with_main (record t.main { current = Some (Standard 0) }) t)))
  next_by true named k t fit rest = (tt, (fit, rest))
  next_by false true k t fit rest = rest
  next_by false false k t fit rest = rest

  pub operands : (k : List Piece) (t : State) → Holds S found.MainInput → Ready S k → Keeps S (main.operand k t)
  operands k t fit rest =
      through S nowhere (number_of t.numbers (own_value t (codes "ARGC")) >>= whole_of) main.next_operand k t
      (λ count. next_by (int_lt (pos t.main.position) count) t.main.named k t fit rest)

  assigned : (name text : Text) (k : List Piece) (r : Reply) → Ready S k → Ready S (main.assigned name text k r)
  assigned name text k reply.Done h = (tt, h)
  assigned name text k (reply.Opened n) h = h
  assigned name text k (reply.Bytes b) h = h
  assigned name text k reply.End h = h
  assigned name text k (reply.Status z) h = h
  assigned name text k (reply.Value b) h = h
  assigned name text k reply.Failed h = h

  operand_opened : (text : Text) (k : List Piece) (r : Reply) → Ready S k → Ready S (main.begin_opened text k r)
  operand_opened text k (reply.Opened n) h = (tt, h)
  operand_opened text k (reply.Bytes b) h = (tt, h)
  operand_opened text k reply.End h = (tt, h)
  operand_opened text k reply.Done h = (tt, h)
  operand_opened text k (reply.Status z) h = (tt, h)
  operand_opened text k (reply.Value b) h = (tt, h)
  operand_opened text k reply.Failed h = (tt, h)

  looked : (b : Bool) (g : Given) (text : Text) (k : List Piece) (t : State) → Holds S found.MainInput → Ready S k →
      Keeps S (if b then Goes (Do (m.Begun (Standard 0) text) ∷ k) t else Asks
      (main.operand_want g text (Opens mode.Read OperandFile text)) (λ r. main.begin_opened text k r) t)
  looked true g text k t fit rest = (tt, rest)
  looked false g text k t fit rest = (
    (at_start kind.Read, fit.0, record { same_place = refl; same_kind = refl; same_text = tt }, λ e. refl),
    λ r. operand_opened text k r rest,
  )

  assigns : (g : Given) (text name new : Text) (k : List Piece) (t : State) → Holds S found.MainInput → Ready S k
      → Keeps S (main.assignment g text name new k t)
  assigns g text name new k t fit rest = (
    (at_start kind.Assign, fit.1, record { same_place = refl; same_kind = refl; same_text = tt }, λ e. refl),
    λ r. assigned name new k r rest,
  )

  operand_by : (b : Bool) (g : Given) (text : Text) (k : List Piece) (t : State) → Holds S found.MainInput → Ready S k →
      Keeps S (if b then main.assignment g text (before_first main.is_equals text) (after_first main.is_equals text) k t
      else main.file g text k (main.with_main (record t.main { named = true }) t))
  operand_by true g text k t fit rest = assigns g text (before_first main.is_equals text)
      (after_first main.is_equals text) k t fit rest
  operand_by false g text k t fit rest = looked (bytes_eq text (codes "-")) g text k
      (main.with_main (record t.main { named = true }) t) fit rest

  operand_of : (g : Given) (text : Text) (k : List Piece) (t : State) → Holds S found.MainInput → Ready S k
      → Keeps S (main.operand_of g text k t)
  operand_of g [] k t fit rest = rest
  operand_of g (b ∷ bs) k t fit rest = operand_by (main.is_assignment g (b ∷ bs)) g (b ∷ bs) k t fit rest

  pub looks : (g : Given) (k : List Piece) (t : State) → Holds S found.MainInput → Ready S k → Keeps S (main.look g k t)
  looks g k t fit rest =
      operand_of g (main.text_in (element (array_at t (Shared (codes "ARGV"))) (decimal t.main.position))) k
      (main.with_main (record t.main { position = t.main.position + 1 }) t) fit rest

  -- ---- the environment

  environ_by : (name : Text) (k : List Piece) (r : Reply) → Ready S k → Ready S (moves.environ_by name k r)
  environ_by name k (reply.Value text) h = (tt, h)
  environ_by name k (reply.Opened n) h = h
  environ_by name k (reply.Bytes b) h = h
  environ_by name k reply.End h = h
  environ_by name k reply.Done h = h
  environ_by name k (reply.Status z) h = h
  environ_by name k reply.Failed h = h

  fewer : (name : Text) (names : List Text) → EnvironFit S (name ∷ names) → EnvironFit S names
  fewer name [] h = tt
  fewer name (next ∷ names) h = h

  pub environs : (names : List Text) (k : List Piece) (t : State) → EnvironFit S names → Ready S k
      → Keeps S (moves.environ names k t)
  environs [] k t fit rest = rest
  environs (name ∷ names) k t fit rest = (
    (at_start kind.Env, fit, record { same_place = refl; same_kind = refl; same_text = tt }, λ e. refl),
    λ r. environ_by name (Do (m.Environ names) ∷ k) r (fewer name names fit, rest),
  )

  -- ---- rules, and the phases

  all_of : (xs ys : List Statement) → Sub S (s.all_done xs) → Sub S (s.all_done ys) → Sub S (s.all_done (xs ++ ys))
  all_of [] ys h i = i
  all_of (x ∷ xs) ys h i =
      both S (s.done x) (s.all_done (xs ++ ys)) (front S (s.done x) (s.all_done xs) h)
      (all_of xs ys (back S (s.done x) (s.all_done xs) h) i)

  actions : (xs : List (List Statement)) → Sub S (s.actions xs) → Sub S (s.all_done (r.concatenated xs))
  actions [] h = tt
  actions (x ∷ xs) h = all_of x (r.concatenated xs) (front S (s.all_done x) (s.actions xs) h)
      (actions xs (back S (s.all_done x) (s.actions xs) h))

  records : (program : Program) (rs : List Rule) (end : List (List Statement)) (k : List Piece)
      → Sub S (s.records rs end) → Ready S k →
      Ready S (r.records (record program { rules = rs; end = end }) ++ k)
  records program [] [] k h rest = rest
  records program (x ∷ rs) [] k h rest = (h.0, tt, rest)
  records program [] (x ∷ end) k h rest = (h.0, tt, rest)
  records program (y ∷ rs) (x ∷ end) k h rest = (h.0, tt, rest)

  pub phases : (g : Given) (phase : Phase) (k : List Piece) (t : State) → Whole S g → Ready S k
      → Keeps S (r.enter g phase k t)
  phases g Beginning k t w rest = (actions g.program.begin w.begin, rest)
  phases g Ruling k t w rest = records g.program g.program.rules g.program.end k w.records rest
  phases g Ending k t w rest = (actions g.program.end w.end, (tt, tt))

  pub rules : (n : ℕ) (xs : List Rule) (k : List Piece) (t : State) → Sub S (s.rules xs) → Ready S k
      → Keeps S (r.rules n xs k t)
  rules n [] k t h rest = rest
  rules n (x ∷ xs) k t h rest = (front S (s.rule x) (s.rules xs) h, tt, (back S (s.rule x) (s.rules xs) h, rest))

  turned_by : (b : Bool) (n : ℕ) (x : Rule) (k : List Piece) (t : State) → Sub S (s.rule x) → Ready S k →
      Keeps S (if b then Goes (At (Choosing n x) [] ∷ k) (r.with_on n true t) else Goes k t)
  turned_by true n x k t h rest = (h, tt, rest)
  turned_by false n x k t h rest = rest

  ranges_by : (b : Bool) (n : ℕ) (x : Rule) (first last : Expression) (vs : List Value) (k : List Piece) (t : State)
      → Sub S (s.value first) → Sub S (s.value last) → Sub S (s.rule x) →
      Sub S (s.all_done x.action) → Ready S k →
      Keeps S (if b then unary (value last) (Choosing n x)
      (λ v k s. Goes (r.action x k) (if truth s.numbers v then r.with_on n false s else s)) vs k t
      else unary (value first) (Choosing n x) (λ v k s. if truth s.numbers v then Goes (At (Choosing n x) [] ∷ k)
      (r.with_on n true s) else Goes k s) vs k t)
  ranges_by true n x first last vs k t h i rule act rest =
      one S (value last) (Choosing n x)
      (λ v k s. Goes (r.action x k) (if truth s.numbers v then r.with_on n false s else s)) vs k t
      (push_value S last (Choosing n x) [] k i rule (λ y says. tt) rest)
      (λ v. (act, rest))
  ranges_by false n x first last vs k t h i rule act rest =
      one S (value first) (Choosing n x)
      (λ v k s. if truth s.numbers v then Goes (At (Choosing n x) [] ∷ k) (r.with_on n true s) else Goes k s) vs k t
      (push_value S first (Choosing n x) [] k h rule (λ y says. tt) rest)
      (λ v. turned_by (truth t.numbers v) n x k t rule rest)

  chooses_by : (w : When) (n : ℕ) (x : Rule) (vs : List Value) (k : List Piece) (t : State) → Sub S (s.when w)
      → Sub S (s.rule x) → Sub S (s.all_done x.action) → Ready S k →
      Keeps S (r.choose_by w n x (Choosing n x) vs k t)
  chooses_by p.always n x vs k t h rule act rest = (act, rest)
  chooses_by (p.holds y) n x vs k t h rule act rest =
      one S (value y) (Choosing n x) (λ v k s. if_true v (r.action x k) k s) vs k t
      (push_value S y (Choosing n x) [] k h rule (λ y says. tt) rest)
      (λ v. either S v (r.action x k) k t (act, rest) rest)
  chooses_by (p.range first last) n x vs k t h rule act rest =
      ranges_by (t.on n) n x first last vs k t (front S (s.value first) (s.value last) h)
      (back S (s.value first) (s.value last) h) rule act rest

  pub chooses : (n : ℕ) (x : Rule) (vs : List Value) (k : List Piece) (t : State) → Sub S (s.rule x) → Ready S k
      → Keeps S (r.choose n x (Choosing n x) vs k t)
  chooses n x vs k t rule rest = chooses_by x.when n x vs k t (front S (s.when x.when) (s.all_done x.action) rule) rule
      (back S (s.when x.when) (s.all_done x.action) rule) rest

  pub reads_records : (g : Given) (vs : List Value) (k : List Piece) (t : State) → Whole S g → Holds S found.MainInput
      → Ready S k → Keeps S (r.read_records g vs k t)
  reads_records g [] k t w fit rest = (fit, (fit, λ y says. tt, rest))
  reads_records g (v.Input text ∷ vs) k t w fit rest = (
    tt,
    counted S nowhere getline.main_counters (Do m.Step ∷ Do (m.Rules 0 g.program.rules) ∷ At Records [] ∷ k)
        (tt, (w.rules, (fit, tt, rest))),
  )
  reads_records g (v.Text text ∷ vs) k t w fit rest = rest
  reads_records g (v.Num n ∷ vs) k t w fit rest = rest
  reads_records g (v.Real x ∷ vs) k t w fit rest = rest
  reads_records g (v.Unset ∷ vs) k t w fit rest = rest
