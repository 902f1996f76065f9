-- The pattern that a tree of the code stands for.
use Rattle.std.specs.Prelude.{◌+◌, Bool, List, option_map}
use Rattle.awk_ere.specs.Pattern.{Pattern, empty, bytes, start, finish, cat, alt, repeat}
use Rattle.awk_ere.specs.declared.node.Node.{Node, Empty, Bytes, Start, End, Cat', Alt', Repeat'}
use Rattle.awk_ere.specs.Program.{holds}

abbrev pub pattern : List (List Bool) → Node → Pattern
pattern sets Empty = empty
pattern sets (Bytes k) = bytes (holds sets k)
pattern sets Start = start
pattern sets End = finish
pattern sets (Cat' p l q r) = cat (pattern sets l) (pattern sets r)
pattern sets (Alt' p l q r) = alt (pattern sets l) (pattern sets r)
pattern sets (Repeat' p n least more) = repeat (pattern sets n) least (option_map (λ m. least + m) more)
