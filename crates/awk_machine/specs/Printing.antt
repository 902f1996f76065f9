-- print and printf (POSIX.1-2017 XCU awk, "Output Statements"): the items, the target, and then the text; one request
-- opens a stream that is not open (`known` of Advances answers for one that is), and one puts the text.
use Rattle.std.specs.Prelude.{List, [], ◌∷◌, ◌++◌, length, take, drop, codes, Option, Some, None, Result}
use Rattle.awk_text.specs.declared.place.Place.{Place}
use Rattle.awk_text.specs.declared.value.Value.{Value}
use Rattle.awk_text.specs.declared.value.Value.TheVariants as v
use Rattle.awk_text.specs.declared.fault.Fault.{Fault}
use Rattle.awk_text.specs.declared.fault.Fault.TheVariants.{Output}
use Rattle.awk_text.specs.Values.{text_of}
use Rattle.awk_fields.specs.Rows.{joined}
use Rattle.awk_format.specs.Directives.{◌>>=◌}
use Rattle.awk_format.specs.NumberTexts.{values_by}
use Rattle.box_world.specs.declared.ask.Mode.{Mode}
use Rattle.box_world.specs.declared.ask.Mode.TheVariants as mode
use Rattle.box_world.specs.declared.ask.Reply.{Reply}
use Rattle.box_world.specs.declared.ask.Reply.TheVariants as reply
use Rattle.box_world.specs.Events.{Class, OutputFile, OutputCommand, Key, Standard, Named, Opens, Writes}
use Rattle.awk_program.specs.Slots.{Text}
use Rattle.awk_program.specs.Program.{Expression}
use Rattle.awk_program.specs.declared.operators.Redirect.{Redirect}
use Rattle.awk_program.specs.declared.operators.Redirect.TheVariants as to
use Rattle.awk_program.specs.declared.statements.Redirection.{Redirection}
use Rattle.awk_machine.specs.Builtins.{first}
use Rattle.awk_machine.specs.Forms.{each_of}
use Rattle.awk_machine.specs.Operators.{limited}
use Rattle.awk_machine.specs.Pieces.{Part, Piece, Do, Open, Put, Then, Asks, Goes, granted, ends, Faulted}
use Rattle.awk_machine.specs.State.{State}
use Rattle.awk_machine.specs.Streams.{want}
use Rattle.awk_machine.specs.Variables.{own_text}

-- `$0`, as it is by then, where there are no items
abbrev pub items : State → List Value → List Value
items s [] = v.Input s.row.whole ∷ []
items s (x ∷ xs) = x ∷ xs

-- the items' texts with OFS between, and ORS
abbrev pub line_of : State → List Value → Result Text Fault
line_of s vs = limited (joined (own_text s (codes "OFS")) vs ++ own_text s (codes "ORS"))

-- numbers with a fraction have the texts that OFMT makes of them
abbrev pub printed : State → List Value → Result Text Fault
printed s vs = values_by s.numbers (own_text s (codes "OFMT")) (items s vs) >>= line_of s

-- ---- the stream

abbrev pub class_of : Redirect → Class
class_of to.Write = OutputFile
class_of to.Append = OutputFile
class_of to.Command = OutputCommand

abbrev pub mode_of : Redirect → Mode
mode_of to.Write = mode.Write
mode_of to.Append = mode.Append
mode_of to.Command = mode.RunOut

-- a request that is answered Failed is F7
abbrev pub unless_failed : Place → List Piece → Reply → List Piece
unless_failed place k reply.Failed = ends (Faulted Output place)
unless_failed place k other = k

abbrev pub open_output : Place → Mode → Class → Text → Then
open_output place mode class text k s = Asks (want place (Opens mode class text)) (λ r. unless_failed place k r) s

abbrev pub put : Place → Key → Text → Then
put place key text k s = Asks (want place (Writes key text)) (λ r. unless_failed place k r) s

-- ---- the statement

abbrev pub target_of : Option (Redirection Expression) → List Expression
target_of None = []
target_of (Some r) = r.target ∷ []

-- the text goes to the standard output, or to the stream that the target's value names
abbrev pub output : Place → Option (Redirection Expression) → Value → Text → Then
output place None name text k s = Goes (Do (Put place (Standard 1) text) ∷ k) s
output place (Some r) name text k s =
    Goes (Do (Open r.place (mode_of r.how) (class_of r.how) (text_of name))
    ∷ Do (Put r.place (Named (class_of r.how) (text_of name)) text) ∷ k) s

-- the items and the target are evaluated, and then the text is made of the items' values
abbrev pub print_by : (State → List Value → Result Text Fault) → Place → List Expression →
    Option (Redirection Expression) → Part → List Value → Then
print_by text place xs r part vs k s =
    each_of (xs ++ target_of r) part
    (λ vs k s. granted place (text s (take (length xs) vs)) (output place r (first (drop (length xs) vs))) k s) vs k
    s
