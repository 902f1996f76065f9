-- The main input: the operands in turn, or standard input (POSIX.1-2017 XCU awk, "OPERANDS", "STDIN" and
-- "Input Files"). All requests are at 0:0.
use Rattle.std.specs.Prelude.{ℕ, ◌+◌, ◌&&◌, ◌==◌, Bool, true, false, if◌then◌else◌, ℤ, pos, int_lt, List, [], ◌∷◌, ◌++◌}
use Rattle.std.specs.Prelude.{length, codes, Option, Some, None}
use Rattle.std.specs.Fmt.{decimal}
use Rattle.std.specs.List.{before_first, after_first, list_any}
use Rattle.std.specs.Str.{bytes_eq}
use Rattle.awk_text.specs.declared.value.Value.{Value}
use Rattle.awk_text.specs.declared.value.Value.TheVariants as v
use Rattle.awk_text.specs.declared.fault.Fault.TheVariants.{TextTooLong}
use Rattle.awk_text.specs.Escapes.{unescaped}
use Rattle.awk_text.specs.Quoted.{quoted}
use Rattle.awk_text.specs.Arithmetic.{whole_of}
use Rattle.awk_text.specs.Values.{text_of, number_of}
use Rattle.awk_format.specs.Directives.{◌>>=◌}
use Rattle.awk_fields.specs.Heads.{Head, taken, need_more, done, too_long}
use Rattle.awk_program.specs.Slots.{Text}
use Rattle.awk_program.specs.Program.{global}
use Rattle.box_world.specs.declared.ask.Mode.TheVariants as mode
use Rattle.box_world.specs.declared.ask.Reply.{Reply}
use Rattle.box_world.specs.declared.ask.Reply.TheVariants as reply
use Rattle.box_world.specs.Events.{OperandFile, Key, Standard, Named, Wish, Opens, Reads, Writes, Shuts, Assigns, Want}
use Rattle.awk_lib.specs.Arrays.{element}
use Rattle.awk_machine.specs.Getline.{first_record}
use Rattle.awk_machine.specs.Pieces.{nowhere, Piece, Do, Set, Variable, Step, Take, Operand, Look, Begun, Report}
use Rattle.awk_machine.specs.Pieces.{Forget, Past, Then, Goes, Asks, give, granted, fails}
use Rattle.awk_machine.specs.State.{State, Given, Main, Shared}
use Rattle.awk_machine.specs.Streams.{want, came, left, with_taken}
use Rattle.awk_machine.specs.Variables.{own_value, with_own, array_at}

abbrev pub with_main : Main → State → State
with_main main s = record s { main = main }

abbrev pub own_name : Key → Text
own_name (Standard n) = codes "-"
own_name (Named class text) = text

-- ---- a record: the input, or 0 where it has ended for good

abbrev pub take_on : Key → List Piece → Reply → List Piece
take_on key k reply.Failed = Do (Report (codes "read") (own_name key)) ∷ Do (Forget key) ∷ Do (Past key) ∷ Do Take ∷ k
take_on key k other = Do Take ∷ k

abbrev pub take_by : Key → Head → Then
take_by key (taken text rest) k s = Goes (give (v.Input text) k) (left key rest s)
take_by key need_more k s = Asks (want nowhere (Reads key)) (λ r. take_on key k r) s
take_by key done k s = Goes (Do (Past key) ∷ Do Take ∷ k) s
take_by key too_long k s = fails TextTooLong nowhere s

abbrev pub take_from : Option Key → Then
take_from None k s = Goes (Do Operand ∷ Do Take ∷ k) s
take_from (Some key) k s = take_by key (first_record key s) k s

abbrev pub take_record : Then
take_record k s = if s.main.ended then Goes (give (v.Num (pos 0)) k) s else take_from s.main.current k s

-- the stream is done with: a file is shut; standard input that no operand named was all there is
abbrev pub past : Key → Then
past (Standard n) k s =
    Goes k (with_main (record s.main { current = None; ended = if s.main.named then false else true }) s)
past (Named class text) k s =
    Asks (want nowhere (Shuts (Named class text))) (λ r. k) (with_main (record s.main { current = None }) s)

abbrev pub forget : Key → Then
forget key k s = Goes k (with_taken key (length (came key s.course.events)) s)

-- a message to the standard error output; its reply changes nothing
abbrev pub report : Text → Text → Then
report what name k s =
    Asks (want nowhere (Writes (Standard 2)
    (codes "awkbox: cannot " ++ what ++ codes " \"" ++ quoted name ++ codes "\"\n"))) (λ r. k)
    (with_main (record s.main { failed = true }) s)

-- ---- operands

-- one of an operand; it is given where the run was started with this word
abbrev pub operand_want : Given → Text → Wish → Want
operand_want g text wish = record { place = nowhere; given = list_any (bytes_eq text) g.operands; wish = wish }

-- is there one more operand? Else standard input is read, unless a file was
abbrev pub next_operand : ℤ → Then
next_operand count k s =
    if int_lt (pos s.main.position) count then Goes (Do Step ∷ Do Look ∷ k) s
    else (if s.main.named then Goes k (with_main (record s.main { ended = true }) s)
    else Goes k (with_main (record s.main { current = Some (Standard 0) }) s))

abbrev pub operand : Then
operand k s = granted nowhere (number_of s.numbers (own_value s (codes "ARGC")) >>= whole_of) next_operand k s

abbrev pub assigned : Text → Text → List Piece → Reply → List Piece
assigned name text k reply.Done = Do (Set (Variable (global name)) nowhere (v.Input (unescaped text))) ∷ k
assigned name text k other = k

abbrev pub begin_opened : Text → List Piece → Reply → List Piece
begin_opened text k (reply.Opened n) = Do (Begun (Named OperandFile text) text) ∷ k
begin_opened text k other = Do (Report (codes "open") text) ∷ k

abbrev pub is_equals : ℕ → Bool
is_equals b = b == 61

abbrev pub is_assignment : Given → Text → Bool
is_assignment g text = list_any is_equals text && g.can_assign (before_first is_equals text)

abbrev pub file : Given → Text → Then
file g text k s = if bytes_eq text (codes "-") then Goes (Do (Begun (Standard 0) text) ∷ k) s
    else Asks (operand_want g text (Opens mode.Read OperandFile text)) (λ r. begin_opened text k r) s

abbrev pub assignment : Given → Text → Text → Text → Then
assignment g text name new k s = Asks (operand_want g text (Assigns name new)) (λ r. assigned name new k r) s

abbrev pub operand_of : Given → Text → Then
operand_of g [] k s = Goes k s
operand_of g (b ∷ bs) k s =
    if is_assignment g (b ∷ bs)
    then assignment g (b ∷ bs) (before_first is_equals (b ∷ bs)) (after_first is_equals (b ∷ bs)) k s
    else file g (b ∷ bs) k (with_main (record s.main { named = true }) s)

abbrev pub text_in : Option Value → Text
text_in None = []
text_in (Some x) = text_of x

abbrev pub look : Given → Then
look g k s =
    operand_of g (text_in (element (array_at s (Shared (codes "ARGV"))) (decimal s.main.position))) k
    (with_main (record s.main { position = s.main.position + 1 }) s)

abbrev pub begun : Key → Text → Then
begun key text k s =
    Goes k (with_own (codes "FNR") (v.Num (pos 0))
    (with_own (codes "FILENAME") (v.Input text) (with_main (record s.main { current = Some key }) s)))
