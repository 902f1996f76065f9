-- Forms of a program that no other form of the script is written as, and the operators.
use Rattle.std.specs.Prelude.{ℕ, ◌-◌, ◌^◌, min, pos, Bool, true, false, Option, Some, None}
use Rattle.std.specs.List.{take_while}
use Rattle.std.specs.Char.{is_ascii_digit}
use Rattle.std.specs.Str.Parse.{digits_value}
use Rattle.std.specs.Result.{result_unwrap_or}
use Rattle.awk_numbers.specs.Numerals.{number}
use Rattle.awk_numbers.specs.declared.number.Number.{Number}
use Rattle.awk_numbers.specs.declared.number.Number.TheVariants.{Whole}
use Rattle.awk_numbers.specs.declared.number.Numbers.{Numbers}
use Rattle.awk_numbers.specs.declared.number.Numbers.TheVariants as profile
use Rattle.awk_text.specs.declared.place.Place.{Place}
use Rattle.awk_tree.specs.Tree.{Text}
use Rattle.awk_tree.specs.declared.operators.Arithmetic as tree_arithmetic
use Rattle.awk_tree.specs.declared.operators.Arithmetic.TheVariants as a
use Rattle.awk_tokens.specs.declared.terminals.Assignment as tree_assignment
use Rattle.awk_tokens.specs.declared.terminals.Assignment.TheVariants as s
use Rattle.awk_tree.specs.declared.operators.Comparison as tree_comparison
use Rattle.awk_tree.specs.declared.operators.Comparison.TheVariants as tc
use Rattle.awk_tree.specs.declared.operators.Sign as tree_sign
use Rattle.awk_tree.specs.declared.operators.Sign.TheVariants as ts
use Rattle.awk_tokens.specs.declared.terminals.Step as tree_step
use Rattle.awk_tokens.specs.declared.terminals.Step.TheVariants as tp
use Rattle.awk_tree.specs.declared.operators.Redirect as tree_redirect
use Rattle.awk_tree.specs.declared.operators.Redirect.TheVariants as tr
use Rattle.awk_tokens.specs.declared.words.Builtin as tree_builtin
use Rattle.awk_tokens.specs.declared.words.Builtin.TheVariants as b
use Rattle.awk_tokens.specs.declared.words.Jump as tree_jump
use Rattle.awk_tokens.specs.declared.words.Jump.TheVariants as tj
use Rattle.awk_program.specs.declared.builtins.Builtin.{Builtin}
use Rattle.awk_program.specs.declared.builtins.Builtin.TheVariants as f
use Rattle.awk_program.specs.declared.jumps.Jump.{Jump}
use Rattle.awk_program.specs.declared.jumps.Jump.TheVariants as j
use Rattle.awk_program.specs.declared.operators.Operator.{Operator}
use Rattle.awk_program.specs.declared.operators.Operator.TheVariants as o
use Rattle.awk_program.specs.declared.operators.Comparison.{Comparison}
use Rattle.awk_program.specs.declared.operators.Comparison.TheVariants as c
use Rattle.awk_program.specs.declared.operators.Extent.{Extent}
use Rattle.awk_program.specs.declared.operators.Extent.TheVariants as extent
use Rattle.awk_program.specs.declared.operators.Redirect.{Redirect}
use Rattle.awk_program.specs.declared.operators.Redirect.TheVariants as r
use Rattle.awk_program.specs.declared.operators.Sign.TheVariants as g
use Rattle.awk_program.specs.declared.operators.Step.{Step}
use Rattle.awk_program.specs.declared.operators.Step.TheVariants as i
use Rattle.awk_program.specs.Program as p
use Rattle.awk_program.specs.Program.{Expression, Expressions, Reference}

-- no token of whole numbers is a greater one
abbrev pub whole_of : Text → ℕ
whole_of x = min (digits_value 10 (take_while is_ascii_digit x)) (2 ^ 63 - 1)

-- what a constant stands for; each token of doubles is a numeral that has a number
abbrev pub number_of : Numbers → Text → Number
number_of profile.Whole x = Whole (pos (whole_of x))
number_of profile.Double x = result_unwrap_or (number x) (Whole (pos 0))

-- `$0`
abbrev pub whole_record : Place → Reference
whole_record q = p.field q (p.number (Whole (pos 0)))

-- what the grammar never puts where it stands
abbrev pub unwritten : Expression
unwritten = p.number (Whole (pos 0))

abbrev pub unwritten_target : Reference
unwritten_target = whole_record (record { line = 0; column = 0 })

-- ---- operators, and words alone

abbrev pub operator_of : tree_arithmetic.Arithmetic → Operator
operator_of a.Add = o.Add
operator_of a.Subtract = o.Subtract
operator_of a.Multiply = o.Multiply
operator_of a.Divide = o.Divide
operator_of a.Remainder = o.Remainder

abbrev pub comparison_of : tree_comparison.Comparison → Comparison
comparison_of tc.Less = c.Less
comparison_of tc.LessOrEqual = c.LessOrEqual
comparison_of tc.Equal = c.Equal
comparison_of tc.NotEqual = c.NotEqual
comparison_of tc.Greater = c.Greater
comparison_of tc.GreaterOrEqual = c.GreaterOrEqual

abbrev pub step_of : tree_step.Step → Step
step_of tp.Increment = i.Increment
step_of tp.Decrement = i.Decrement

abbrev pub redirect_of : tree_redirect.Redirect → Redirect
redirect_of tr.Write = r.Write
redirect_of tr.Append = r.Append
redirect_of tr.Command = r.Command

-- a word alone, with its place where a fault names it
abbrev pub jump_of : Place → tree_jump.Jump → Jump
jump_of q tj.Break = j.Break
jump_of q tj.Continue = j.Continue
jump_of q tj.Next = j.Next q
jump_of q tj.NextFile = j.NextFile q

abbrev pub extent_of : Bool → Extent
extent_of false = extent.First
extent_of true = extent.All

abbrev pub signed_of : Place → tree_sign.Sign → Expression → Expression
signed_of q ts.Not x = p.not x
signed_of q ts.Plus x = p.signed q g.Plus x
signed_of q ts.Minus x = p.signed q g.Minus x

abbrev pub assigned : Place → tree_assignment.Assignment → Reference → Expression → Expression
assigned q s.Set r x = p.assign q r x
assigned q s.Add r x = p.change q o.Add r x
assigned q s.Subtract r x = p.change q o.Subtract r x
assigned q s.Multiply r x = p.change q o.Multiply r x
assigned q s.Divide r x = p.change q o.Divide r x
assigned q s.Remainder r x = p.change q o.Remainder r x
assigned q s.Power r x = p.change q o.Power r x

-- `!~` is `!` of `~`
abbrev pub negated : Bool → Expression → Expression
negated false x = x
negated true x = p.not x

-- ---- built-in functions whose arguments are plain values

-- the function that runs
abbrev pub plain_builtin : tree_builtin.Builtin → Option Builtin
plain_builtin b.Atan2 = Some f.Atan2
plain_builtin b.Close = Some f.Close
plain_builtin b.Cos = Some f.Cos
plain_builtin b.Exp = Some f.Exp
plain_builtin b.Fflush = Some f.Fflush
plain_builtin b.Index = Some f.Index
plain_builtin b.Int = Some f.Int
plain_builtin b.Length = Some f.Length
plain_builtin b.Log = Some f.Log
plain_builtin b.Rand = Some f.Rand
plain_builtin b.Sin = Some f.Sin
plain_builtin b.Sprintf = Some f.Sprintf
plain_builtin b.Sqrt = Some f.Sqrt
plain_builtin b.Srand = Some f.Srand
plain_builtin b.Substr = Some f.Substr
plain_builtin b.System = Some f.System
plain_builtin b.Tolower = Some f.Tolower
plain_builtin b.Toupper = Some f.Toupper
plain_builtin other = None

-- without an argument length is of the whole record, and fflush asks for nothing that a run could see
abbrev pub without_arguments : Place → Builtin → Expression
without_arguments q f.Length = p.builtin q f.Length (p.more (p.read (whole_record q)) p.none)
without_arguments q f.Fflush = p.number (Whole (pos 0))
without_arguments q which = p.builtin q which p.none

abbrev pub called : Place → Builtin → Expressions → Expression
called q which p.none = without_arguments q which
called q which (p.more x xs) = p.builtin q which (p.more x xs)
