-- Operands of which a text is wanted (POSIX.1-2017 XCU awk, "Expressions in awk": a number that is no integer is
-- converted to a string by CONVFMT). Whole numbers have one text each, which asks for no form of its own. Of doubles an
-- operand is marked, unless it is a text or a whole number by its form. The operands of a comparison and what a target
-- is set to are never marked: whether their texts are wanted turns on the values, and plain awk says of these forms how
-- they go by CONVFMT.
use Rattle.std.specs.Prelude.{ℕ, zero, suc, Bool, true, false, if◌then◌else◌}
use Rattle.awk_numbers.specs.declared.number.Number.TheVariants.{Whole}
use Rattle.awk_numbers.specs.declared.number.Numbers.{Numbers}
use Rattle.awk_numbers.specs.declared.number.Numbers.TheVariants as profile
use Rattle.awk_text.specs.declared.place.Place.{Place}
use Rattle.awk_program.specs.declared.builtins.Builtin.{Builtin}
use Rattle.awk_program.specs.declared.builtins.Builtin.TheVariants as f
use Rattle.awk_program.specs.Program as p
use Rattle.awk_program.specs.Program.{Expression, Expressions}

abbrev pub may_be_fraction : Expression → Bool
may_be_fraction (p.number (Whole n)) = false
may_be_fraction (p.text x) = false
may_be_fraction (p.concat x xs) = false
may_be_fraction x = true

-- an operand whose text the form at this place wants
abbrev pub textual : Numbers → Place → Expression → Expression
textual profile.Whole q x = x
textual profile.Double q x = if may_be_fraction x then p.as_text q x else x

-- ---- lists of operands

-- operands that are all wanted so
abbrev pub textuals : Numbers → Place → Expressions → Expressions
textuals numbers q p.none = p.none
textuals numbers q (p.more x xs) = p.more (textual numbers q x) (textuals numbers q xs)

-- operands of which so many from the first on are
abbrev pub first_textuals : Numbers → Place → ℕ → Expressions → Expressions
first_textuals numbers q zero xs = xs
first_textuals numbers q (suc n) p.none = p.none
first_textuals numbers q (suc n) (p.more x xs) = p.more (textual numbers q x) (first_textuals numbers q n xs)

-- of how many of its arguments, from the first on, a built-in function wants the text
abbrev pub texts_wanted : Builtin → ℕ
texts_wanted f.Index = 2
texts_wanted f.Close = 1
texts_wanted f.Fflush = 1
texts_wanted f.Length = 1
texts_wanted f.Sprintf = 1
texts_wanted f.Substr = 1
texts_wanted f.System = 1
texts_wanted f.Tolower = 1
texts_wanted f.Toupper = 1
texts_wanted which = 0
