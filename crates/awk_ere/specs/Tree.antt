-- Reading tokens from the left with a stack of the open groups, and the code's trees for it.
use Rattle.std.specs.Prelude.{◌≡◌, ℕ, ◌+◌, ◌*◌, ◌==◌, min, nat_le, ◌&&◌, Bool, false, List, [], ◌∷◌, ◌++◌, Option, Some}
use Rattle.std.specs.Prelude.{None, if◌then◌else◌}
use Rattle.awk_ere.specs.Pattern.{Pattern, empty, cat, alt, repeat}
use Rattle.awk_ere.specs.Token.{Token, atom, anchor, times, opening, closing, bar}
use Rattle.awk_ere.specs.Reading.{IsRead}
use Rattle.awk_ere.specs.Grammar.{ere, Spells}
use Rattle.awk_ere.specs.Same.{IsSame}
use Rattle.awk_ere.specs.Spelled.{IsPattern}
use Rattle.awk_ere.specs.Lexing.{Later}
use Rattle.awk_ere.specs.View.{pattern}
use Rattle.awk_ere.specs.declared.node.Node.{Node}
use Rattle.awk_ere.specs.declared.tree.SizedNode as code_part
use Rattle.awk_ere.specs.declared.tree.Frame as code_frame
use Rattle.awk_ere.specs.declared.tree.TheConstants.{TOO_LARGE}

-- `*`, `+` or `?`
abbrev pub is_simple : ℕ → Option ℕ → Bool
is_simple least None = nat_le least 1
is_simple least (Some more) = least == 0 && more == 1

-- this count alone
abbrev pub is_exactly : ℕ → ℕ → Option ℕ → Bool
is_exactly count least None = false
is_exactly count least (Some more) = least == count && more == 0

abbrev pub both : Option ℕ → Option ℕ → Option ℕ
both None more = None
both (Some a) None = None
both (Some a) (Some b) = Some 1

abbrev pub merged : ℕ × Option ℕ → ℕ × Option ℕ → ℕ × Option ℕ
merged inner outer = (if inner.0 == 1 && outer.0 == 1 then 1 else 0, both inner.1 outer.1)

-- a pattern and its size
abbrev pub Meant : Type 0
Meant = Pattern × ℕ

abbrev pub cats : Meant → Meant → Meant
cats p q = (cat p.0 q.0, p.1 + q.1)

abbrev pub alts : Meant → Meant → Meant
alts p q = (alt p.0 q.0, p.1 + q.1)

abbrev pub repeats : Meant → ℕ → Option ℕ → ℕ → Meant
repeats p least most factor = (repeat p.0 least most, p.1 * factor)

abbrev pub nothing : Meant
nothing = (empty, 0)

-- an open group: the branches before, the branch so far, and the item that a repetition may still take
pub data Frame : Type 0 where
  frame : Option Meant → Meant → Option Meant → Frame

abbrev pub flush : Meant → Option Meant → Meant
flush p None = p
flush p (Some q) = cats p q

abbrev pub joined : Option Meant → Meant → Meant
joined None p = p
joined (Some q) p = alts q p

abbrev pub before : Frame → Option Meant
before (frame b p l) = b

abbrev pub flushed : Frame → Meant
flushed (frame b p l) = flush p l

abbrev pub last : Frame → Option Meant
last (frame b p l) = l

abbrev pub finished : Frame → Meant
finished (frame b p l) = joined b (flush p l)

abbrev pub fresh : Frame
fresh = frame None nothing None

abbrev pub with_last : Frame → Meant → Frame
with_last f p = frame (before f) (flushed f) (Some p)

abbrev pub with_anchor : Frame → Pattern → Frame
with_anchor f p = frame (before f) (cats (flushed f) (p, 1)) None

abbrev pub with_bar : Frame → Frame
with_bar f = frame (Some (finished f)) nothing None

-- the open groups, the innermost first, and the innermost frame
abbrev pub Stack : Type 0
Stack = List Frame × Frame

abbrev pub repeat_last : List Frame → Option Meant → Meant → Option Meant → ℕ → Option ℕ → ℕ → Option Stack
repeat_last os b p None least most factor = None
repeat_last os b p (Some q) least most factor = Some (os, frame b p (Some (repeats q least most factor)))

-- after one more token, where it may stand here
abbrev pub taken : Token → List Frame → Frame → Option Stack
taken (atom p) os f = Some (os, with_last f (p, 1))
taken (anchor p) os f = Some (os, with_anchor f p)
taken (times least most factor) os (frame b p l) = repeat_last os b p l least most factor
taken opening os f = Some (f ∷ os, fresh)
taken closing [] f = None
taken closing (o ∷ os) f = Some (os, with_last o (finished f))
taken bar os f = Some (os, with_bar f)

-- the code's part stands for the pattern, whatever sets are added; sizes over the limit are one
pub record Stands (sets : List (List Bool)) (part : code_part.SizedNode) (p : Meant) : Type 0 where
  pub same : (all : List (List Bool)) → Later sets all → IsSame (pattern all part.node) p.0
  pub size : part.size ≡ min TOO_LARGE p.1

abbrev pub StandsAny : List (List Bool) → Option code_part.SizedNode → Option Meant → Type 0
StandsAny sets None None = Unit {0}
StandsAny sets (Some part) (Some p) = Stands sets part p
StandsAny sets part p = ⊥

abbrev pub IsFrame : List (List Bool) → code_frame.Frame → Frame → Type 0
IsFrame sets f (frame b p l) = StandsAny sets f.before b × Stands sets f.pieces p × StandsAny sets f.last l

-- the code's stack has the innermost group last
abbrev pub AreFrames : List (List Bool) → List code_frame.Frame → List Frame → Type 0
AreFrames sets items [] = items ≡ []
AreFrames sets items (o ∷ os) = (front : List code_frame.Frame) × (f : code_frame.Frame) × (items ≡ front ++ f ∷ [])
    × IsFrame sets f o × AreFrames sets front os

-- the code's stack and innermost frame are these, where there are any
abbrev pub IsStack : List (List Bool) → List code_frame.Frame → code_frame.Frame → Option Stack → Type 0
IsStack sets groups f None = Unit {0}
IsStack sets groups f (Some stack) = AreFrames sets groups stack.0 × IsFrame sets f stack.1

-- the part stands for the pattern that the whole text spells
abbrev pub IsWhole : List ℕ → List (List Bool) → code_part.SizedNode → Type 0
IsWhole text sets part =
    (ts : List Token) × (p : Pattern) × (n : ℕ) × IsRead text ts × Spells ere ts p n × Stands sets part (p, n)

-- the tree stands for the pattern that the text spells within the limits
abbrev pub IsTree : List ℕ → List (List Bool) → Node → Type 0
IsTree text sets node = (p : Pattern) × IsPattern text p × IsSame (pattern sets node) p
