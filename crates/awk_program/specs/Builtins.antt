-- The words of the built-in functions whose arguments are plain values (POSIX.1-2017 XCU awk, "Functions").
use Rattle.std.specs.Prelude.{codes}
use Rattle.awk_program.specs.declared.builtins.Builtin.{Builtin}
use Rattle.awk_program.specs.declared.builtins.Builtin.TheVariants as b
use Rattle.awk_program.specs.Slots.{Text}

abbrev pub word_of : Builtin → Text
word_of b.Atan2 = codes "atan2"
word_of b.Close = codes "close"
word_of b.Cos = codes "cos"
word_of b.Exp = codes "exp"
word_of b.Fflush = codes "fflush"
word_of b.Index = codes "index"
word_of b.Int = codes "int"
word_of b.Length = codes "length"
word_of b.Log = codes "log"
word_of b.Rand = codes "rand"
word_of b.Sin = codes "sin"
word_of b.Sprintf = codes "sprintf"
word_of b.Sqrt = codes "sqrt"
word_of b.Srand = codes "srand"
word_of b.Substr = codes "substr"
word_of b.System = codes "system"
word_of b.Tolower = codes "tolower"
word_of b.Toupper = codes "toupper"
