-- What each form of a statement does next, one line a form (POSIX.1-2017 XCU awk, "Actions").
use Rattle.std.specs.Prelude.{List, [], ◌∷◌, pos, unsigned_abs, Option, Some, None}
use Rattle.std.specs.Int.{int_rem_euclid}
use Rattle.awk_text.specs.declared.place.Place.{Place}
use Rattle.awk_text.specs.declared.value.Value.{Value}
use Rattle.awk_text.specs.declared.value.Value.TheVariants as v
use Rattle.awk_text.specs.declared.fault.Fault.TheVariants.{NextOutside}
use Rattle.awk_text.specs.Arithmetic.{whole_of}
use Rattle.awk_text.specs.Values.{number_of}
use Rattle.awk_format.specs.Directives.{◌>>=◌}
use Rattle.box_world.specs.Events.{Key}
use Rattle.awk_program.specs.declared.jumps.Jump.{Jump}
use Rattle.awk_program.specs.declared.jumps.Jump.TheVariants as j
use Rattle.awk_program.specs.Slots.{Text}
use Rattle.awk_program.specs.Program as p
use Rattle.awk_program.specs.Program.{Expression, Statement, Statements}
use Rattle.awk_machine.specs.Builtins.{formatted_by}
use Rattle.awk_machine.specs.Forms.{value, unary, each_of, keyed, if_true}
use Rattle.awk_lib.specs.Arrays.{keys, without}
use Rattle.awk_machine.specs.Pieces.{Loop, Part, Test, Turn, Leave, Records, Doing, Piece, At, Do, Set, Variable, Step}
use Rattle.awk_machine.specs.Pieces.{Start, Each, Keys, Past, Enter, Finish, Then, Goes, granted, fails}
use Rattle.awk_machine.specs.Printing.{print_by, printed}
use Rattle.awk_machine.specs.State.{State, Phase, Ruling, Ending}
use Rattle.awk_machine.specs.Variables.{array, with_array}

-- ---- one after the other

abbrev pub in_order : Statements → List Statement
in_order p.no_more = []
in_order (p.then_also x xs) = x ∷ in_order xs

abbrev pub each : List Statement → Then
each [] k s = Goes k s
each (x ∷ xs) k s = Goes (Do (Start x) ∷ Do (Each xs) ∷ k) s

-- a step is taken before each statement that is no block; an empty block counts as one that is empty
abbrev pub stepping : Statement → List Piece → List Piece
stepping (p.block (p.then_also x xs)) k = k
stepping other k = Do Step ∷ k

abbrev pub start : Statement → Then
start x k s = Goes (stepping x (At (Doing x) [] ∷ k)) s

-- ---- loops: a test, the body, and what stands behind a turn of it

abbrev pub body : Loop → List Piece → List Piece
body x k = Do (Start x.body) ∷ At (Turn x) [] ∷ k

-- a missing test always holds
abbrev pub test : Option Expression → Loop → List Value → Then
test None x vs k s = Goes (body x k) s
test (Some y) x vs k s = unary (value y) (Test x) (λ v k s. if_true v (body x k) k s) vs k s

-- an expression that may be absent, and then the test
abbrev pub then_test : Option Expression → Loop → Part → List Value → Then
then_test None x part vs k s = Goes (At (Test x) [] ∷ k) s
then_test (Some y) x part vs k s = unary (value y) part (λ v k s. Goes (At (Test x) [] ∷ k) s) vs k s

-- the loop of `while` and `do`
abbrev pub while : Expression → Statement → Loop
while x y = record { test = Some x; body = y; step = None }

abbrev pub for : Option Expression → Option Expression → Statement → Loop
for y z u = record { test = y; body = u; step = z }

-- the turns of a loop over the keys of an array
abbrev pub turns : Place → p.Variable → Statement → List Text → Then
turns place a x [] k s = Goes k s
turns place a x (key ∷ rest) k s =
    Goes (Do (Set (Variable a) place (v.Text key)) ∷ Do (Start x) ∷ Do (Keys place a x rest) ∷ k) s

-- ---- jumps: what is left to be done after them. A jump leaves the statements that it stands in, up to its loop or its
-- call

abbrev pub after_break : List Piece → List Piece
after_break (Do (Each xs) ∷ k) = after_break k
after_break (At (Turn x) vs ∷ k) = k
after_break (Do (Keys place a x rest) ∷ k) = k
after_break other = other

abbrev pub after_continue : List Piece → List Piece
after_continue (Do (Each xs) ∷ k) = after_continue k
after_continue other = other

abbrev pub to_leave : List Piece → List Piece
to_leave (Do (Each xs) ∷ k) = to_leave k
to_leave (At (Turn x) vs ∷ k) = to_leave k
to_leave (Do (Keys place a x rest) ∷ k) = to_leave k
to_leave other = other

-- the value of a call goes to its end
abbrev pub leave_with : Value → List Piece → List Piece
leave_with v (At (Leave locals n) vs ∷ k) = At (Leave locals n) (v ∷ vs) ∷ k
leave_with v other = other

abbrev pub to_records : List Piece → List Piece
to_records [] = []
to_records (At Records vs ∷ k) = At Records vs ∷ k
to_records (piece ∷ k) = to_records k

-- no call is left
abbrev pub unwound : State → State
unwound s = record s { locals = []; depth = 0; made = [] }

abbrev pub next : Phase → Place → Then
next Ruling place k s = Goes (to_records k) (unwound s)
next other place k s = fails NextOutside place s

-- the stream that is read now is done with before the next record
abbrev pub skipping : Option Key → List Piece → List Piece
skipping None k = k
skipping (Some key) k = Do (Past key) ∷ k

abbrev pub next_file : Phase → Place → Then
next_file Ruling place k s = Goes (skipping s.main.current (to_records k)) (unwound s)
next_file other place k s = fails NextOutside place s

-- the statements that are a word alone, one line a word
abbrev pub jump : Jump → Then
jump j.Break k s = Goes (after_break k) s
jump j.Continue k s = Goes (after_continue k) s
jump (j.Next place) k s = next s.phase place k s
jump (j.NextFile place) k s = next_file s.phase place k s

-- the actions of END, or the end
abbrev pub after_exit : Phase → List Piece
after_exit Ending = Do Finish ∷ []
after_exit other = Do (Enter Ending) ∷ []

abbrev pub exit : Place → Option Expression → Part → List Value → Then
exit place None part vs k s = Goes (after_exit s.phase) (unwound s)
exit place (Some x) part vs k s =
    unary (value x) part (λ v k s. granted place (number_of s.numbers v >>= whole_of) (λ n k s.
    Goes (after_exit s.phase) (record (unwound s) { status = Some (unsigned_abs (int_rem_euclid n (pos 256))) })) k s)
    vs k s

abbrev pub return : Option Expression → Part → List Value → Then
return None part vs k s = Goes (to_leave k) s
return (Some x) part vs k s = unary (value x) part (λ v k s. Goes (leave_with v (to_leave k)) s) vs k s

abbrev pub delete : Place → p.Variable → List Expression → Part → List Value → Then
delete place a xs part vs k s =
    each_of xs part (λ vs. keyed place vs (λ key k s. Goes k (with_array a (without (array s a) key) s))) vs k s

abbrev pub delete_all : p.Variable → Then
delete_all a k s = Goes k (with_array a [] s)

-- ---- all forms

abbrev pub do_statement : Statement → Part → List Value → Then
do_statement (p.plain x) part vs k s = unary (value x) part (λ v k s. Goes k s) vs k s
do_statement (p.print place xs r) part vs k s = print_by printed place xs r part vs k s
do_statement (p.printf place x xs r) part vs k s = print_by formatted_by place (x ∷ xs) r part vs k s
do_statement (p.delete place a xs) part vs k s = delete place a xs part vs k s
do_statement (p.delete_all a) part vs k s = delete_all a k s
do_statement (p.jump which) part vs k s = jump which k s
do_statement (p.exit place x) part vs k s = exit place x part vs k s
do_statement (p.return x) part vs k s = return x part vs k s
do_statement (p.block xs) part vs k s = Goes (Do (Each (in_order xs)) ∷ k) s
do_statement (p.if_then x y) part vs k s = unary (value x) part (λ v k s. if_true v (Do (Start y) ∷ k) k s) vs k s
do_statement (p.if_else x y z) part vs k s =
    unary (value x) part (λ v k s. if_true v (Do (Start y) ∷ k) (Do (Start z) ∷ k) s) vs k s
do_statement (p.while_do x y) part vs k s = Goes (At (Test (while x y)) [] ∷ k) s
do_statement (p.do_while y x) part vs k s = Goes (body (while x y) k) s
do_statement (p.for_loop x y z u) part vs k s = then_test x (for y z u) part vs k s
do_statement (p.for_each place key a y) part vs k s = Goes (Do (Keys place key y (keys (array s a))) ∷ k) s
