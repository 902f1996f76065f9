-- The streams of a text (POSIX.1-2017 XCU awk, "Input/Output and General Functions", close).
use Rattle.std.specs.Prelude.{◌≡◌, ℕ, ℤ, pos, negsuc, ◌&&◌, if◌then◌else◌, List, [], ◌∷◌, Option, Some, None, Result}
use Rattle.std.specs.Prelude.{Ok, Err}
use Rattle.std.specs.Str.{bytes_eq}
use Rattle.awk_numbers.specs.declared.number.Number.TheVariants.{Whole}
use Rattle.awk_numbers.specs.Operators.{truth}
use Rattle.box_world.specs.declared.ask.Ask.{Ask}
use Rattle.box_world.specs.declared.ask.Reply.{Reply}
use Rattle.box_world.specs.declared.ask.Reply.TheVariants as reply
use Rattle.box_world.specs.Events.{Class}
use Rattle.box_world.specs.declared.world.World.{Ghosts}
use Rattle.awk_program.specs.Slots.{Text}
use Rattle.awk_machine.specs.Closing.{is_closed}
use Rattle.awk_streams.specs.declared.halt.Halt.{Halt}
use Rattle.awk_streams.specs.Tables.{Entry}
use Rattle.awk_streams.specs.Tasks.{Answered, Refused}

-- the class and the number of the first open stream of this text that is no operand's
abbrev pub first_of : Text → List Entry → Option (Class × ℕ)
first_of text [] = None
first_of text (e ∷ es) = if is_closed e.stream.class && bytes_eq text e.stream.text
    then Some (e.stream.class, e.stream.number) else first_of text es

-- what a shutting has answered, as a status: -1 is a failure
abbrev pub shut_status : Reply → ℤ
shut_status reply.Done = pos 0
shut_status (reply.Status n) = n
shut_status other = negsuc 0

-- the first that is not 0, where the one comes behind the others
abbrev pub first_status : Option ℤ → ℤ → ℤ
first_status None y = y
first_status (Some x) y = if truth (Whole x) then x else y

-- the world was asked, and the status is what its reply means
abbrev pub Shuts : {W : Type 0} → Ghosts W → Ask → W → Result ℤ Halt → W → Type 0
Shuts ghosts ask old (Ok n) new = (r : Reply) × Answered ghosts ask old r new × (n ≡ shut_status r)
Shuts ghosts ask old (Err h) new = Refused ghosts ask old h new
