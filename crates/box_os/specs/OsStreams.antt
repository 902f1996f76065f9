-- Which way a stream goes, and whether a command is at its other end.
use Rattle.std.specs.Prelude.{Bool, true, false}
use Rattle.box_world.specs.declared.ask.Mode.{Mode}
use Rattle.box_world.specs.declared.ask.Mode.TheVariants.{Read, RunIn, RunOut}
use Rattle.box_os.specs.declared.streams.Stream.{Stream}
use Rattle.box_os.specs.declared.streams.Stream.TheVariants.{InputFile, InputCommand, OutputCommand}

abbrev pub is_input : Stream → Bool
is_input (InputFile file) = true
is_input (InputCommand child) = true
is_input stream = false

abbrev pub is_command : Stream → Bool
is_command (InputCommand child) = true
is_command (OutputCommand child pipe) = true
is_command stream = false

-- whether the mode opens an input
abbrev pub opens_input : Mode → Bool
opens_input Read = true
opens_input RunIn = true
opens_input mode = false

-- whether it starts a command
abbrev pub opens_command : Mode → Bool
opens_command RunIn = true
opens_command RunOut = true
opens_command mode = false
