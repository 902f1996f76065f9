-- What forms of expressions share: parts one after the other, and then what is done with their values.
use Rattle.std.specs.Prelude.{if◌then◌else◌, List, [], ◌∷◌, reverse, length, codes, Option, Some, None, slice_get}
use Rattle.std.specs.Prelude.{Result}
use Rattle.awk_text.specs.declared.place.Place.{Place}
use Rattle.awk_text.specs.declared.value.Value.{Value}
use Rattle.awk_text.specs.declared.value.Value.TheVariants as v
use Rattle.awk_text.specs.declared.fault.Fault.{Fault}
use Rattle.awk_text.specs.Values.{truth}
use Rattle.awk_fields.specs.Rows.{joined}
use Rattle.awk_program.specs.Slots.{Text}
use Rattle.awk_program.specs.Program as p
use Rattle.awk_program.specs.Program.{Expression, Expressions, Ere}
use Rattle.awk_machine.specs.Operators.{limited}
use Rattle.awk_machine.specs.Pieces.{Part, Value_of, Target_of, Pattern_of, Piece, At, Do, Check, Give, Next, Then}
use Rattle.awk_machine.specs.Pieces.{Goes, give, granted}
use Rattle.awk_machine.specs.State.{State}
use Rattle.awk_machine.specs.Variables.{own_text}

-- ---- the pieces of parts

abbrev pub value : Expression → Piece
value x = At (Value_of x) []

abbrev pub spot : p.Reference → Piece
spot r = At (Target_of r) []

abbrev pub source : Ere → Piece
source x = At (Pattern_of x) []

-- ---- what is done with values

abbrev pub answer : Value → Then
answer x k s = Goes (give x k) s

-- what was made, or its fault
abbrev pub deliver : Place → Result Value Fault → Then
deliver place made k s = granted place made answer k s

abbrev pub if_true : Value → List Piece → List Piece → State → Next
if_true x k l s = if truth s.numbers x then Goes k s else Goes l s

-- ---- one part, or two, from left to right

abbrev pub unary : Piece → Part → (Value → Then) → List Value → Then
unary a part f [] k s = Goes (a ∷ At part [] ∷ k) s
unary a part f (x ∷ vs) k s = f x k s

abbrev pub binary : Piece → Piece → Part → (Value → Value → Then) → List Value → Then
binary a b part f [] k s = Goes (a ∷ At part [] ∷ k) s
binary a b part f (x ∷ []) k s = Goes (b ∷ At part (x ∷ []) ∷ k) s
binary a b part f (y ∷ x ∷ vs) k s = f x y k s

-- ---- a list of expressions, from left to right

abbrev pub listed : Expressions → List Expression
listed p.none = []
listed (p.more x xs) = x ∷ listed xs

abbrev pub each_by : Option Expression → Part → (List Value → Then) → List Value → Then
each_by (Some x) part f vs k s = Goes (value x ∷ At part vs ∷ k) s
each_by None part f vs k s = f (reverse vs) k s

abbrev pub each_of : List Expression → Part → (List Value → Then) → List Value → Then
each_of xs part f vs k s = each_by (slice_get xs (length vs)) part f vs k s

-- subscripts: their texts with SUBSEP between
abbrev pub keyed : Place → List Value → (Text → Then) → Then
keyed place vs f k s = granted place (limited (joined (own_text s (codes "SUBSEP")) vs)) f k s

-- ---- patterns

-- the text of an ERE: a constant is checked where it stands
abbrev pub pattern : Ere → Then
pattern (p.constant place x) k s = Goes (Do (Check place x) ∷ Do (Give (v.Text x)) ∷ k) s
pattern (p.computed x) k s = Goes (value x ∷ k) s

-- what was computed is checked where it is used
abbrev pub checked : Ere → Place → Text → List Piece → List Piece
checked (p.constant at x) place text k = k
checked (p.computed x) place text k = Do (Check place text) ∷ k
