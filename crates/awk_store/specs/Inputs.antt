-- The main input as the machine has it.
use Rattle.std.specs.Prelude.{Option, Some, None}
use Rattle.box_world.specs.Events.{Key, Standard, Named, OperandFile}
use Rattle.awk_machine.specs.State.{Main}
use Rattle.awk_store.specs.declared.main_input.MainInput.{MainInput}
use Rattle.awk_store.specs.declared.main_input.CurrentInput.{CurrentInput}
use Rattle.awk_store.specs.declared.main_input.CurrentInput.TheVariants as source

-- the key of the stream that is read
abbrev pub key_of : CurrentInput → Option Key
key_of source.Nothing = None
key_of source.Standard = Some (Standard 0)
key_of (source.Operand text) = Some (Named OperandFile text)

abbrev pub main_of : MainInput → Main
main_of x =
    record { position = x.position; current = key_of x.current; named = x.named; ended = x.ended; failed = x.failed }
