-- The parts of a program in their order (POSIX.1-2017 XCU awk, "Overall Program Structure", "Patterns").
use Rattle.std.specs.Prelude.{ℕ, ◌+◌, ◌==◌, Bool, true, false, if◌then◌else◌, List, [], ◌∷◌, ◌++◌, unwrap_or}
use Rattle.std.specs.List.{flat_map}
use Rattle.awk_text.specs.declared.value.Value.{Value}
use Rattle.awk_text.specs.declared.value.Value.TheVariants as v
use Rattle.awk_text.specs.Values.{truth}
use Rattle.awk_program.specs.Program as p
use Rattle.awk_program.specs.Program.{Expression, Statement, When, Rule, Program}
use Rattle.awk_machine.specs.Forms.{value, unary, if_true}
use Rattle.awk_machine.specs.Getline.{main_counters, counting}
use Rattle.awk_machine.specs.Pieces.{nowhere, Part, Records, Choosing, Piece, At, Do, Set, Field, Step, Each, Take}
use Rattle.awk_machine.specs.Pieces.{Rules, Finish, Status, Then, Goes, ends}
use Rattle.awk_machine.specs.State.{State, Given, Phase, Beginning, Ruling, Ending}

-- ---- BEGIN, the records, and END

-- the actions of several BEGINs or ENDs, one after the other
abbrev pub concatenated : List (List Statement) → List Statement
concatenated actions = flat_map (λ action. action) actions

-- records are read where there is a rule for them, or an END
abbrev pub records : Program → List Piece
records program = records_for program.rules program.end
  where
    records_for : List Rule → List (List Statement) → List Piece
    records_for [] [] = []
    records_for rules end = At Records [] ∷ []

abbrev pub enter : Given → Phase → Then
enter g Beginning k s = Goes (Do (Each (concatenated g.program.begin)) ∷ k) (record s { phase = Beginning })
enter g Ruling k s = Goes (records g.program ++ k) (record s { phase = Ruling })
enter g Ending k s = Goes (Do (Each (concatenated g.program.end)) ∷ Do Finish ∷ []) (record s { phase = Ending })

-- each record is set and counted, takes a step, and then meets the rules
abbrev pub read_records : Given → List Value → Then
read_records g [] k s = Goes (Do Take ∷ At Records [] ∷ k) s
read_records g (v.Input text ∷ vs) k s =
    Goes (Do (Set (Field 0) nowhere (v.Input text))
    ∷ counting nowhere main_counters (Do Step ∷ Do (Rules 0 g.program.rules) ∷ At Records [] ∷ k)) s
read_records g (other ∷ vs) k s = Goes k s

-- ---- rules

abbrev pub rules : ℕ → List Rule → Then
rules n [] k s = Goes k s
rules n (x ∷ xs) k s = Goes (At (Choosing n x) [] ∷ Do (Rules (n + 1) xs) ∷ k) s

abbrev pub action : Rule → List Piece → List Piece
action x k = Do (Each x.action) ∷ k

abbrev pub with_on : ℕ → Bool → State → State
with_on n b s = record s { on = λ m. if m == n then b else s.on m }

-- a range is on from a record where the first holds, to one where the last does
abbrev pub range : ℕ → Rule → Expression → Expression → Part → List Value → Then
range n x first last part vs k s =
    if s.on n then unary (value last) part
    (λ v k s. Goes (action x k) (if truth s.numbers v then with_on n false s else s)) vs k s
    else unary (value first) part
    (λ v k s. if truth s.numbers v then Goes (At (Choosing n x) [] ∷ k) (with_on n true s) else Goes k s) vs k s

abbrev pub choose_by : When → ℕ → Rule → Part → List Value → Then
choose_by p.always n x part vs k s = Goes (action x k) s
choose_by (p.holds y) n x part vs k s = unary (value y) part (λ v k s. if_true v (action x k) k s) vs k s
choose_by (p.range first last) n x part vs k s = range n x first last part vs k s

abbrev pub choose : ℕ → Rule → Part → List Value → Then
choose n x part vs k s = choose_by x.when n x part vs k s

-- ---- the end

-- the status that an `exit` gave, or 2 where an operand failed
abbrev pub finish : Then
finish k s = Goes (ends (Status (unwrap_or s.status (if s.main.failed then 2 else 0)))) s
