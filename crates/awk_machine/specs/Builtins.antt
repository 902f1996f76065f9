-- Calls of the built-in functions (POSIX.1-2017 XCU awk, "Functions"): the arguments from left to right, and then what
-- the function gives.
use Rattle.std.specs.Prelude.{ℕ, ℤ, ◌+◌, ◌-◌, nat_le, Bool, true, false, if◌then◌else◌, negsuc, List, [], ◌∷◌, length}
use Rattle.std.specs.Prelude.{drop, get_or, codes, Option, Some, None, Result, Ok, Err}
use Rattle.awk_numbers.specs.declared.number.Number.{Number}
use Rattle.awk_numbers.specs.declared.number.NumberFault.{NumberFault}
use Rattle.awk_numbers.specs.declared.number.Numbers.{Numbers}
use Rattle.awk_numbers.specs.declared.random.Random.{Random}
use Rattle.awk_numbers.specs.Functions.{arc_tangent, cosine, exponential, logarithm, sine, square_root}
use Rattle.awk_numbers.specs.Random.{advanced, drawn, reseeded, seed_of}
use Rattle.awk_text.specs.declared.place.Place.{Place}
use Rattle.awk_text.specs.declared.value.Value.{Value}
use Rattle.awk_text.specs.declared.value.Value.TheVariants as v
use Rattle.awk_text.specs.declared.fault.Fault.{Fault}
use Rattle.awk_text.specs.declared.fault.Fault.TheVariants.{TooManyElements}
use Rattle.awk_text.specs.Arithmetic.{clamped, truncated}
use Rattle.awk_text.specs.Faults.{or_fault}
use Rattle.awk_text.specs.Values.{text_of, number_of, of_number}
use Rattle.awk_fields.specs.Separators.{separator, ere}
use Rattle.awk_format.specs.Directives.{◌>>=◌}
use Rattle.awk_format.specs.NumberTexts.{formatted_with}
use Rattle.box_world.specs.declared.ask.Reply.{Reply}
use Rattle.box_world.specs.declared.ask.Reply.TheVariants as reply
use Rattle.box_world.specs.Events.{Runs, open_streams}
use Rattle.awk_program.specs.Slots.{Text}
use Rattle.awk_program.specs.Program as p
use Rattle.awk_program.specs.Program.{Expression, Ere}
use Rattle.awk_program.specs.declared.operators.Extent.{Extent}
use Rattle.awk_program.specs.declared.operators.Extent.TheVariants as extent
use Rattle.awk_program.specs.declared.builtins.Builtin.{Builtin}
use Rattle.awk_program.specs.declared.builtins.Builtin.TheVariants as b
use Rattle.awk_machine.specs.Flushing.{flush}
use Rattle.awk_machine.specs.Forms.{value, spot, source, binary, deliver, checked}
use Rattle.awk_lib.specs.Arrays.{most_elements}
use Rattle.awk_lib.specs.Parts.{texts_from}
use Rattle.awk_lib.specs.Replacing.{replaced}
use Rattle.awk_lib.specs.Texts.{index, substr, to_case}
use Rattle.awk_machine.specs.State.{State}
use Rattle.awk_machine.specs.Operators.{of_count, limited}
use Rattle.awk_machine.specs.Pieces.{Part, Task, Piece, At, Do, Target, Get, Set, Give, Locate, Located, Substitute}
use Rattle.awk_machine.specs.Pieces.{Split, Close, Run, Then, Goes, Seeks, Asks, give, granted, fails}
use Rattle.awk_machine.specs.Questions.{Finds, places}
use Rattle.awk_machine.specs.Streams.{want}
use Rattle.awk_machine.specs.Targets.{target, check_separator}
use Rattle.awk_machine.specs.Variables.{own_text, by_convfmt, with_own, with_array}

-- ---- what the values of plain arguments make

-- the argument at this index, which is unset where there is none
abbrev pub argument : List Value → ℕ → Value
argument vs n = get_or vs n v.Unset

abbrev pub text_at : List Value → ℕ → Text
text_at vs n = text_of (argument vs n)

abbrev pub whole_number : Numbers → Value → Result Value Fault
whole_number numbers x = number_of numbers x >>= λ n. truncated n >>= λ m. Ok (of_number m)

-- what a function of one number gives for the number of a value, or the fault
abbrev pub of_one : (Number → Result Number NumberFault) → Numbers → Value → Result Value Fault
of_one f numbers x = number_of numbers x >>= λ n. or_fault (f n) >>= λ z. Ok (of_number z)

-- and one of two numbers for those of two values, of which the first is read first
abbrev pub of_two : (Number → Number → Result Number NumberFault) → Numbers → Value → Value → Result Value Fault
of_two f numbers x y =
    number_of numbers x >>= λ m. number_of numbers y >>= λ n. or_fault (f m n) >>= λ z. Ok (of_number z)

-- what srand seeds by, where it has an argument
abbrev pub seed_in : Numbers → List Value → Result (Option Number) Fault
seed_in numbers [] = Ok None
seed_in numbers (x ∷ vs) = number_of numbers x >>= λ n. Ok (Some n)

-- so many bytes, where a count is given
abbrev pub count_of : Numbers → List Value → Result (Option ℤ) Fault
count_of numbers [] = Ok None
count_of numbers (x ∷ vs) = number_of numbers x >>= λ n. Ok (Some (clamped n))

abbrev pub substr_of : Numbers → List Value → Result Value Fault
substr_of numbers vs = number_of numbers (argument vs 1) >>= λ from. count_of numbers (drop 2 vs)
    >>= λ count. Ok (v.Text (substr (text_at vs 0) (clamped from) count))

-- the text of a format, which is the first of these, and its values
abbrev pub first : List Value → Value
first [] = v.Unset
first (x ∷ xs) = x

abbrev pub formatted_by : State → List Value → Result Text Fault
formatted_by s vs = formatted_with s.numbers (own_text s (codes "CONVFMT")) (text_of (first vs)) (drop 1 vs)

abbrev pub formatted_text : State → List Value → Result Value Fault
formatted_text s vs = formatted_by s vs >>= λ text. Ok (v.Text text)

-- ---- what each function comes to, one line a function: a value or its fault, a task that gives the value, or a value
-- and the sequence of random numbers behind it

pub data Effect : Type 0 where
  Gives : Result Value Fault → Effect
  Leaves : Task → Effect
  Turns : Value → Random → Effect

abbrev pub gives : Value → Effect
gives x = Gives (Ok x)

-- the next number of the sequence
abbrev pub draws : Random → Effect
draws random = Turns (of_number (drawn random)) (advanced random)

-- the seed before; where the number to seed by is out of range, the sequence stays
abbrev pub seeds : Result (Option Number) Fault → Random → Effect
seeds (Ok seed) random = Turns (of_number (seed_of random)) (reseeded seed random)
seeds (Err fault) random = Gives (Err fault)

abbrev pub effect : Place → Builtin → List Value → State → Effect
effect place b.Atan2 vs s = Gives (of_two arc_tangent s.numbers (argument vs 0) (argument vs 1))
effect place b.Close vs s = Leaves (Close place (text_at vs 0) None)
effect place b.Cos vs s = Gives (of_one cosine s.numbers (argument vs 0))
effect place b.Exp vs s = Gives (of_one exponential s.numbers (argument vs 0))
effect place b.Fflush vs s = gives (flush (text_at vs 0) (open_streams s.course.events))
effect place b.Index vs s = gives (of_count (index (text_at vs 0) (text_at vs 1)))
effect place b.Int vs s = Gives (whole_number s.numbers (argument vs 0))
effect place b.Length vs s = gives (of_count (length (text_at vs 0)))
effect place b.Log vs s = Gives (of_one logarithm s.numbers (argument vs 0))
effect place b.Rand vs s = draws s.random
effect place b.Sin vs s = Gives (of_one sine s.numbers (argument vs 0))
effect place b.Sprintf vs s = Gives (formatted_text s vs)
effect place b.Sqrt vs s = Gives (of_one square_root s.numbers (argument vs 0))
effect place b.Srand vs s = seeds (seed_in s.numbers vs) s.random
effect place b.Substr vs s = Gives (substr_of s.numbers vs)
effect place b.System vs s = Leaves (Run place (text_at vs 0))
effect place b.Tolower vs s = gives (v.Text (to_case false (text_at vs 0)))
effect place b.Toupper vs s = gives (v.Text (to_case true (text_at vs 0)))

abbrev pub with_random : Random → State → State
with_random random s = record s { random = random }

abbrev pub taking : Place → Effect → Then
taking place (Gives made) k s = deliver place made k s
taking place (Leaves task) k s = Goes (Do task ∷ k) s
taking place (Turns x random) k s = Goes (give x k) (with_random random s)

abbrev pub called : Place → Builtin → List Value → Then
called place which vs k s = taking place (effect place which vs s) k s

-- a command is run to its end
abbrev pub status_of : Reply → Value
status_of (reply.Status n) = v.Num n
status_of other = v.Num (negsuc 0)

abbrev pub run : Place → Text → Then
run place text k s = Asks (want place (Runs text)) (λ r. give (status_of r) k) s

-- ---- match: the place and the length of the first match, 0 and -1 where there is none

abbrev pub located : List (ℕ × ℕ) → Then
located [] k s = Goes (give (of_count 0) k)
    (with_own (codes "RLENGTH") (v.Num (negsuc 0)) (with_own (codes "RSTART") (of_count 0) s))
located (m ∷ ms) k s =
    Goes (give (of_count (m.0 + 1)) k)
    (with_own (codes "RLENGTH") (of_count (m.1 - m.0)) (with_own (codes "RSTART") (of_count (m.0 + 1)) s))

abbrev pub locate : (source text : Text) → Then
locate source text k s = Seeks (Finds source text false) (λ a. Do (Located (places a)) ∷ k) s

abbrev pub locate_in : Place → Ere → Value → Value → Then
locate_in place y text pattern k s =
    Goes (checked y place (text_of pattern) (Do (Locate (text_of pattern) (text_of text)) ∷ k)) s

-- ---- sub and gsub: the pattern, the new text, the target, and then the old text

abbrev pub is_all : Extent → Bool
is_all extent.First = false
is_all extent.All = true

abbrev pub substitute : Place → Extent → Ere → Expression → p.Reference → Part → List Value → Then
substitute place how x y r part [] k s = Goes (source x ∷ At part [] ∷ k) s
substitute place how x y r part (pattern ∷ []) k s = Goes (value y ∷ At part (pattern ∷ []) ∷ k) s
substitute place how x y r part (new ∷ pattern ∷ []) k s = Goes (spot r ∷ At part (new ∷ pattern ∷ []) ∷ k) s
substitute place how x y r part (at ∷ new ∷ pattern ∷ []) k s =
    Goes (checked x place (text_of pattern) (Do (Get (target r at)) ∷ At part (at ∷ new ∷ pattern ∷ []) ∷ k)) s
substitute place how x y r part (old ∷ at ∷ new ∷ pattern ∷ vs) k s =
    granted place (by_convfmt s old)
    (λ shown k s. Goes (Do (Substitute place (target r at) (text_of pattern) (text_of new) (text_of shown)
    (is_all how)) ∷ k) s) k s

-- what was found is replaced, and the target is set where something was
abbrev pub replace : Place → Target → (new old : Text) → List (ℕ × ℕ) → Then
replace place to new old [] k s = Goes (give (of_count 0) k) s
replace place to new old (m ∷ ms) k s =
    granted place (limited (replaced new old 0 (m ∷ ms))) (λ text k s.
    Goes (Do (Set to place (v.Text text)) ∷ Do (Give (of_count (length (m ∷ ms)))) ∷ k) s) k s

-- ---- split: the text, the separator, and then the array

-- a constant always separates as an ERE
abbrev pub split_by : Ere → Place → Place → p.Variable → (text by : Text) → List Piece → List Piece
split_by (p.constant q x) place at a text by k = Do (Split at a (ere by false) text) ∷ k
split_by (p.computed x) place at a text by k = check_separator place by (Do (Split at a (separator by false) text) ∷ k)

abbrev pub split : Place → Expression → Place → p.Variable → Ere → Part → List Value → Then
split place x at a y part vs k s =
    binary (value x) (source y) part (λ text by k s. Goes (split_by y place at a (text_of text) (text_of by) k) s) vs k
    s

abbrev pub fill : Place → p.Variable → List Text → Then
fill at a parts k s =
    if nat_le (length parts) most_elements
    then Goes (give (of_count (length parts)) k) (with_array a (texts_from 1 parts) s)
    else fails TooManyElements at s
