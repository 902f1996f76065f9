-- fflush (POSIX.1-2024 XCU awk, "Input/Output and General Functions"): a text is put as soon as it is printed, so there
-- is nothing to write; the answer is 0 where an output file or output command of the text is open, and else -1.
use Rattle.std.specs.Prelude.{◌||◌, Bool, if◌then◌else◌, pos, negsuc, List, is_some}
use Rattle.awk_text.specs.declared.value.Value.{Value}
use Rattle.awk_text.specs.declared.value.Value.TheVariants as v
use Rattle.awk_program.specs.Slots.{Text}
use Rattle.box_world.specs.Events.{OutputFile, OutputCommand, Stream, find_stream}

abbrev pub has_output : Text → List Stream → Bool
has_output text streams =
    is_some (find_stream OutputFile text streams) || is_some (find_stream OutputCommand text streams)

abbrev pub flushed : Bool → Value
flushed b = v.Num (if b then pos 0 else negsuc 0)

abbrev pub flush : Text → List Stream → Value
flush text streams = flushed (has_output text streams)
