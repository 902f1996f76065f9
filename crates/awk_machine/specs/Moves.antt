-- Plain awk, one move at a time: the first of the pieces decides.
use Rattle.std.specs.Prelude.{List, [], ◌∷◌, codes}
use Rattle.awk_text.specs.declared.value.Value.{Value}
use Rattle.awk_text.specs.declared.value.Value.TheVariants as v
use Rattle.box_world.specs.declared.ask.Reply.{Reply}
use Rattle.box_world.specs.declared.ask.Reply.TheVariants as reply
use Rattle.box_world.specs.Events.{Looks}
use Rattle.awk_program.specs.Slots.{Text}
use Rattle.awk_program.specs.Program.{global}
use Rattle.awk_machine.specs.Builtins.{run, locate, located, replace, fill}
use Rattle.awk_machine.specs.Calls.{enter, leave}
use Rattle.awk_machine.specs.Closing.{close}
use Rattle.awk_machine.specs.Expressions.{step_value, step_target, terms, texts, ands, ors, members}
use Rattle.awk_machine.specs.Forms.{pattern}
use Rattle.awk_machine.specs.Getline.{pipe, read_by, first_record, fetch, count}
use Rattle.awk_machine.specs.MainInput.{take_record, operand, look, begun, report, forget, past}
use Rattle.awk_machine.specs.Operators.{of_truth}
use Rattle.awk_machine.specs.Pieces as p
use Rattle.awk_machine.specs.Pieces.{nowhere, Part, Task, Piece, At, Do, Next, Then, Goes, Steps, Asks, Seeks, Over}
use Rattle.awk_machine.specs.Pieces.{give}
use Rattle.awk_machine.specs.Printing.{open_output, put}
use Rattle.awk_machine.specs.Questions as q
use Rattle.awk_machine.specs.Rules as phases
use Rattle.awk_machine.specs.Rules.{read_records, choose, rules, finish}
use Rattle.awk_machine.specs.State.{State, Given}
use Rattle.awk_machine.specs.Statements.{each, start, do_statement, test, then_test, turns}
use Rattle.awk_machine.specs.Streams.{want}
use Rattle.awk_machine.specs.Targets.{get, set, whole, rebuild, check}

-- ---- the environment, name by name

abbrev pub environ_by : Text → List Piece → Reply → List Piece
environ_by name k (reply.Value text) =
    Do (p.Set (p.Element (global (codes "ENVIRON")) name nowhere) nowhere (v.Input text)) ∷ k
environ_by name k other = k

abbrev pub environ : List Text → Then
environ [] k s = Goes k s
environ (name ∷ names) k s = Asks (want nowhere (Looks name)) (λ r. environ_by name (Do (p.Environ names) ∷ k) r) s

-- ---- the moves

abbrev pub do_part : Given → Part → List Value → Then
do_part g (p.Value_of x) vs k s = step_value x (p.Value_of x) vs k s
do_part g (p.Target_of x) vs k s = step_target x vs k s
do_part g (p.Pattern_of x) vs k s = pattern x k s
do_part g (p.Terms_of xs) vs k s = terms xs vs k s
do_part g (p.Texts_of xs) vs k s = texts xs vs k s
do_part g (p.Ands_of xs) vs k s = ands xs vs k s
do_part g (p.Ors_of xs) vs k s = ors xs vs k s
do_part g (p.Members_of as_) vs k s = members as_ vs k s
do_part g (p.Pipes_of xs) vs k s = pipe xs vs k s
do_part g (p.Doing x) vs k s = do_statement x (p.Doing x) vs k s
do_part g (p.Test x) vs k s = test x.test x vs k s
do_part g (p.Turn x) vs k s = then_test x.step x (p.Turn x) vs k s
do_part g (p.Leave locals n) vs k s = leave locals n vs k s
do_part g p.Records vs k s = read_records g vs k s
do_part g (p.Choosing n x) vs k s = choose n x (p.Choosing n x) vs k s

abbrev pub do_task : Given → Task → Then
do_task g (p.Give x) k s = Goes (give x k) s
do_task g (p.Get from) k s = get from k s
do_task g (p.Set to place x) k s = set to place x k s
do_task g (p.Whole place text) k s = whole place text k s
do_task g (p.Rebuild place vs) k s = rebuild place vs k s
do_task g (p.Check place source) k s = check place source k s
do_task g (p.Match source text) k s = Seeks (q.Matches source text) (λ a. give (of_truth (q.yes a)) k) s
do_task g (p.Locate source text) k s = locate source text k s
do_task g (p.Located ms) k s = located ms k s
do_task g (p.Substitute place to source new old all) k s =
    Seeks (q.Finds source old all) (λ a. Do (p.Replace place to new old (q.places a)) ∷ k) s
do_task g (p.Replace place to new old ms) k s = replace place to new old ms k s
do_task g (p.Split at a by text) k s = Seeks (q.Divides by text) (λ parts. Do (p.Fill at a (q.texts parts)) ∷ k) s
do_task g (p.Fill at a parts) k s = fill at a parts k s
do_task g (p.Call place f xs vs) k s = enter g place f xs vs k s
do_task g p.Step k s = Steps k s
do_task g (p.Start x) k s = start x k s
do_task g (p.Each xs) k s = each xs k s
do_task g (p.Keys place a x rest) k s = turns place a x rest k s
do_task g (p.Open place mode class text) k s = open_output place mode class text k s
do_task g (p.Put place key text) k s = put place key text k s
do_task g (p.Read place key) k s = read_by place key (first_record key s) k s
do_task g (p.Fetch place class text) k s = fetch place class text k s
do_task g (p.Count place name) k s = count place name k s
do_task g (p.Close place text so_far) k s = close place text so_far k s
do_task g (p.Run place text) k s = run place text k s
do_task g p.Take k s = take_record k s
do_task g p.Operand k s = operand k s
do_task g p.Look k s = look g k s
do_task g (p.Begun key text) k s = begun key text k s
do_task g (p.Report what name) k s = report what name k s
do_task g (p.Forget key) k s = forget key k s
do_task g (p.Past key) k s = past key k s
do_task g (p.Environ names) k s = environ names k s
do_task g (p.Enter phase) k s = phases.enter g phase k s
do_task g (p.Rules n xs) k s = rules n xs k s
do_task g p.Finish k s = finish k s
do_task g (p.Closing outcome) k s = Over outcome

abbrev pub move : Given → List Piece → State → Next
move g [] s = finish [] s
move g (At part vs ∷ k) s = do_part g part vs k s
move g (Do task ∷ k) s = do_task g task k s
