-- What a host may assign to (POSIX.1-2017 XCU awk, "OPERANDS": an operand that is a name, `=` and a text).
use Rattle.std.specs.Prelude.{◌≡◌, Bool, true, ◌&&◌, not, List, None, is_none}
use Rattle.awk_tokens.specs.Words.{is_name, reserved}
use Rattle.awk_tree.specs.Tree.{Text}
use Rattle.awk_resolve.specs.Kinds as k
use Rattle.awk_resolve.specs.Kinds.{global, Forced}
use Rattle.awk_resolve.specs.declared.mention.Section.{Section}
use Rattle.awk_resolve.specs.Marks.{has}
use Rattle.awk_resolve.specs.declared.kinds.Kinds.{Kinds}

-- A name that is no word of the language, and no array and no function of the script.
abbrev pub CanAssign : List Section → Text → Type 0
CanAssign parts x = (is_name x ≡ true) × (reserved x ≡ None) × (Forced parts (global x) k.array → ⊥)
    × (Forced parts (global x) k.function → ⊥)

abbrev pub can_assign : Kinds → Text → Bool
can_assign c x =
    is_name x && (is_none (reserved x) && (not (has c (global x) k.array) && not (has c (global x) k.function)))
