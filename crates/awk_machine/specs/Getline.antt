-- getline in its forms (POSIX.1-2017 XCU awk, "Input/Output and General Functions"): a record is set and counted, and
-- the answer is 1; 0 is the end, and -1 a failure.
use Rattle.std.specs.Prelude.{if◌then◌else◌, pos, negsuc, List, [], ◌∷◌, codes}
use Rattle.std.specs.Str.{bytes_eq}
use Rattle.awk_numbers.specs.declared.number.Number.TheVariants.{Whole}
use Rattle.awk_text.specs.declared.place.Place.{Place}
use Rattle.awk_text.specs.declared.value.Value.{Value}
use Rattle.awk_text.specs.declared.value.Value.TheVariants as v
use Rattle.awk_text.specs.declared.fault.Fault.TheVariants.{TextTooLong}
use Rattle.awk_text.specs.Arithmetic as on
use Rattle.awk_text.specs.Values.{text_of, number_of, of_number}
use Rattle.awk_fields.specs.Heads.{Head, taken, need_more, done, too_long, head}
use Rattle.awk_format.specs.Directives.{◌>>=◌}
use Rattle.box_world.specs.declared.ask.Mode.{Mode}
use Rattle.box_world.specs.declared.ask.Mode.TheVariants as mode
use Rattle.box_world.specs.declared.ask.Reply.{Reply}
use Rattle.box_world.specs.declared.ask.Reply.TheVariants as reply
use Rattle.box_world.specs.Events.{Class, InputFile, InputCommand, Key, Standard, Named, Opens, Reads}
use Rattle.awk_program.specs.Slots.{Text}
use Rattle.awk_program.specs.Program as p
use Rattle.awk_program.specs.Program.{Expression, Pipes}
use Rattle.awk_machine.specs.Forms.{value, spot}
use Rattle.awk_machine.specs.Pieces.{Part, Pipes_of, Piece, At, Do, Give, Set, Target, Read, Fetch, Take, Count, Then}
use Rattle.awk_machine.specs.Pieces.{Goes, Asks, give, granted, fails}
use Rattle.awk_machine.specs.State.{State}
use Rattle.awk_machine.specs.Streams.{want, unread, has_ended, left}
use Rattle.awk_machine.specs.Targets.{target}
use Rattle.awk_machine.specs.Variables.{own_text, own_value, with_own}

-- ---- a record of a stream

abbrev pub failure : Value
failure = v.Num (negsuc 0)

-- the first record of what is unread, by RS as it is now
abbrev pub first_record : Key → State → Head
first_record key s = head (own_text s (codes "RS")) (unread key s) (has_ended key s.course.events)

-- after a request for more
abbrev pub read_on : Place → Key → List Piece → Reply → List Piece
read_on place key k reply.Failed = give failure k
read_on place key k other = Do (Read place key) ∷ k

abbrev pub read_by : Place → Key → Head → Then
read_by place key (taken text rest) k s = Goes (give (v.Input text) k) (left key rest s)
read_by place key need_more k s = Asks (want place (Reads key)) (λ r. read_on place key k r) s
read_by place key done k s = Goes (give (v.Num (pos 0)) k) s
read_by place key too_long k s = fails TextTooLong place s

-- ---- the stream of a text: standard input, or one that is opened where it is not open. Nothing here tells whether it
-- is: `known` of Advances answers for one that stands open, and the world is not asked.

abbrev pub input_mode : Class → Mode
input_mode InputCommand = mode.RunIn
input_mode other = mode.Read

abbrev pub read_opened : Place → Key → List Piece → Reply → List Piece
read_opened place key k (reply.Opened n) = Do (Read place key) ∷ k
read_opened place key k other = give failure k

abbrev pub fetch : Place → Class → Text → Then
fetch place class text k s =
    Asks (want place (Opens (input_mode class) class text)) (λ r. read_opened place (Named class text) k r) s

abbrev pub fetch_file : Place → Text → List Piece → List Piece
fetch_file place text k =
    if bytes_eq text (codes "-") then Do (Read place (Standard 0)) ∷ k else Do (Fetch place InputFile text) ∷ k

-- ---- what is done with it

-- a counter becomes its number plus 1
abbrev pub count : Place → Text → Then
count place name k s =
    granted place (number_of s.numbers (own_value s name) >>= λ n. on.add s.numbers n (Whole (pos 1)))
    (λ n k s. Goes k (with_own name (of_number n) s)) k s

abbrev pub counting : Place → List Text → List Piece → List Piece
counting place [] k = k
counting place (name ∷ names) k = Do (Count place name) ∷ counting place names k

-- the record is set, and the counters grow; or the answer is what came in its place
abbrev pub got : Place → Target → List Text → Value → Then
got place to counters (v.Input text) k s =
    Goes (Do (Set to place (v.Input text)) ∷ counting place counters (Do (Give (v.Num (pos 1))) ∷ k)) s
got place to counters other k s = Goes (give other k) s

abbrev pub main_counters : List Text
main_counters = codes "NR" ∷ codes "FNR" ∷ []

-- ---- the forms: the target, and then the record

abbrev pub getline : Place → p.Reference → Part → List Value → Then
getline place r part [] k s = Goes (spot r ∷ At part [] ∷ k) s
getline place r part (at ∷ []) k s = Goes (Do Take ∷ At part (at ∷ []) ∷ k) s
getline place r part (record_ ∷ at ∷ vs) k s = got place (target r at) main_counters record_ k s

-- the target, then the file's name, and then the record
abbrev pub getline_file : Place → p.Reference → Expression → Part → List Value → Then
getline_file place r x part [] k s = Goes (spot r ∷ At part [] ∷ k) s
getline_file place r x part (at ∷ []) k s = Goes (value x ∷ At part (at ∷ []) ∷ k) s
getline_file place r x part (name ∷ at ∷ []) k s =
    Goes (fetch_file place (text_of name) (At part (name ∷ at ∷ []) ∷ k)) s
getline_file place r x part (record_ ∷ name ∷ at ∷ vs) k s = got place (target r at) [] record_ k s

-- a chain of `| getline`: the value so far is the command
abbrev pub pipe : Pipes → List Value → Then
pipe xs [] k s = Goes k s
pipe p.no_pipes (x ∷ vs) k s = Goes (give x k) s
pipe (p.piped place r xs) (x ∷ []) k s = Goes (spot r ∷ At (Pipes_of (p.piped place r xs)) (x ∷ []) ∷ k) s
pipe (p.piped place r xs) (at ∷ x ∷ []) k s =
    Goes (Do (Fetch place InputCommand (text_of x)) ∷ At (Pipes_of (p.piped place r xs)) (at ∷ x ∷ []) ∷ k) s
pipe (p.piped place r xs) (record_ ∷ at ∷ x ∷ vs) k s =
    got place (target r at) (codes "NR" ∷ []) record_ (At (Pipes_of xs) [] ∷ k) s
