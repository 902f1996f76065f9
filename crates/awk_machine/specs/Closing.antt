-- close (POSIX.1-2017 XCU awk, "Input/Output and General Functions"): every stream of the text is shut, in order
-- of opening, but an operand's file; the answer is the first that is not 0, and -1 where nothing was open.
use Rattle.std.specs.Prelude.{◌&&◌, Bool, true, false, if◌then◌else◌, pos, negsuc, List, [], ◌∷◌, Option, Some, None}
use Rattle.std.specs.Str.{bytes_eq}
use Rattle.awk_numbers.specs.declared.number.Numbers.{Numbers}
use Rattle.awk_text.specs.declared.place.Place.{Place}
use Rattle.awk_text.specs.declared.value.Value.{Value}
use Rattle.awk_text.specs.declared.value.Value.TheVariants as v
use Rattle.awk_text.specs.Values.{truth}
use Rattle.awk_program.specs.Slots.{Text}
use Rattle.box_world.specs.declared.ask.Reply.{Reply}
use Rattle.box_world.specs.declared.ask.Reply.TheVariants as reply
use Rattle.box_world.specs.Events.{Class, OperandFile, Named, Shuts, Stream, open_streams}
use Rattle.awk_machine.specs.Pieces.{Do, Close, Then, Goes, Asks, give}
use Rattle.awk_machine.specs.Streams.{want}

abbrev pub is_closed : Class → Bool
is_closed OperandFile = false
is_closed other = true

-- the first open stream of the text
abbrev pub first_stream : Text → List Stream → Option Stream
first_stream text [] = None
first_stream text (x ∷ xs) = if is_closed x.class && bytes_eq text x.text then Some x else first_stream text xs

abbrev pub shut_answer : Reply → Value
shut_answer reply.Done = v.Num (pos 0)
shut_answer (reply.Status n) = v.Num n
shut_answer other = v.Num (negsuc 0)

abbrev pub first_answer : Numbers → Option Value → Value → Value
first_answer numbers None y = y
first_answer numbers (Some x) y = if truth numbers x then x else y

abbrev pub answer_or : Option Value → Value
answer_or None = v.Num (negsuc 0)
answer_or (Some x) = x

abbrev pub close_by : Place → Text → Option Value → Option Stream → Then
close_by place text so_far None k s = Goes (give (answer_or so_far) k) s
close_by place text so_far (Some x) k s =
    Asks (want place (Shuts (Named x.class x.text)))
    (λ r. Do (Close place text (Some (first_answer s.numbers so_far (shut_answer r)))) ∷ k) s

abbrev pub close : Place → Text → Option Value → Then
close place text so_far k s = close_by place text so_far (first_stream text (open_streams s.course.events)) k s
