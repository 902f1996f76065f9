-- What one reading does to the bytes that a reader has left, where those are known.
use Rattle.std.specs.Prelude.{ℕ, ◌≤◌, List, [], length, Option}
use Rattle.std.specs.Io.KnownBytes.{Consumes, IsAtEnd, Keeps}
use Rattle.box_world.specs.declared.ask.Reply.{Reply}
use Rattle.box_world.specs.declared.ask.Reply.TheVariants.{Bytes, End}

-- the bytes of the reply come first and are gone; the end is told where none is left, and a failure takes none
abbrev pub ReadsOn : Option (List ℕ) → Option (List ℕ) → Reply → Type 0
ReadsOn old new (Bytes bytes) = Consumes old new bytes
ReadsOn old new End = Consumes old new [] × IsAtEnd new
ReadsOn old new reply = Keeps old new

-- no more than n bytes
abbrev pub IsWithin : ℕ → Reply → Type 0
IsWithin n (Bytes bytes) = length bytes ≤ n
IsWithin n reply = Unit {0}
