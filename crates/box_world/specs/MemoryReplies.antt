-- What a world in memory answers.
use Rattle.std.specs.Prelude.{ℕ, ℤ, pos, ◌+◌, ◌^◌, ◌==◌, ◌&&◌, ◌||◌, nat_le, nat_lt, Bool, true, false, if◌then◌else◌}
use Rattle.std.specs.Prelude.{List, [], ◌∷◌, length, take, drop, Option, Some, None, is_some, unwrap_or}
use Rattle.std.specs.Map.{lookup}
use Rattle.std.specs.Option.{option_map_or}
use Rattle.std.specs.Str.{bytes_eq}
use Rattle.box_world.specs.declared.ask.Mode.{Mode}
use Rattle.box_world.specs.declared.ask.Mode.TheVariants.{Read, Write, Append, RunIn, RunOut}
use Rattle.box_world.specs.declared.ask.Reply.{Reply}
use Rattle.box_world.specs.declared.ask.Reply.TheVariants.{Opened, Bytes, End, Done, Status, Value, Failed}
use Rattle.box_world.specs.declared.ask.Request.{Request}
use Rattle.box_world.specs.declared.ask.Request.TheVariants.{Open, Next, Put, Shut, System, Env, Assign}
use Rattle.box_world.specs.declared.memory_world.store.MemoryStream.{MemoryStream}
use Rattle.box_world.specs.MemoryState.{Behavior, Contents, MemoryState}

-- a command that was not put has no output and the status 127
abbrev pub status_of : List ℕ → List (List ℕ × Behavior) → ℤ
status_of text commands = option_map_or (λ c. c.status) (lookup (bytes_eq text) commands) (pos 127)

abbrev pub output_of : List ℕ → List (List ℕ × Behavior) → List ℕ
output_of text commands = option_map_or (λ c. c.output) (lookup (bytes_eq text) commands) []

-- a file that is opened to be read must be there
abbrev pub can_open : Mode → List ℕ → Contents → Bool
can_open Read text store = is_some (lookup (bytes_eq text) store.files)
can_open mode text store = true

abbrev pub opening : Mode → List ℕ → Contents → Reply
opening mode text store = if can_open mode text store && nat_lt store.next (2 ^ 32) then Opened store.next else Failed

-- what a stream reads: the file as it is now, or what the command prints
abbrev pub source : Mode → List ℕ → Contents → Option (List ℕ)
source Read text store = Some (unwrap_or (lookup (bytes_eq text) store.files) [])
source RunIn text store = Some (output_of text store.commands)
source mode text store = None

-- the next bytes of what is unread
abbrev pub next_of : ℕ → List ℕ → Reply
next_of chunk [] = End
next_of chunk (b ∷ bs) = Bytes (take chunk (b ∷ bs))

abbrev pub reading_of : MemoryStream → Contents → Reply
reading_of stream store =
    option_map_or (λ text. next_of store.chunk (drop stream.read text)) (source stream.mode stream.text store) Failed

abbrev pub reading_from : ℕ → Contents → Reply
reading_from n store = option_map_or (λ stream. reading_of stream store) (lookup (λ k. k == n) store.streams) Failed

-- 0 is the standard input
abbrev pub reading : ℕ → Contents → Reply
reading n store = if n == 0 then next_of store.chunk (drop store.read store.input) else reading_from n store

-- whether a stream that was opened so is written to
abbrev pub is_written : Mode → Bool
is_written Read = false
is_written RunIn = false
is_written mode = true

abbrev pub is_written_in : ℕ → List (ℕ × MemoryStream) → Bool
is_written_in n streams = option_map_or (λ stream. is_written stream.mode) (lookup (λ k. k == n) streams) false

-- nothing is put to the standard input, or to what is read
abbrev pub putting : ℕ → Contents → Reply
putting n store =
    if n == 0 then Failed
    else if n == 1 then Done
    else if n == 2 then Done
    else if is_written_in n store.streams then Done else Failed

-- the shutting of a command gives its status
abbrev pub shutting_of : Mode → List ℕ → Contents → Reply
shutting_of RunIn text store = Status (status_of text store.commands)
shutting_of RunOut text store = Status (status_of text store.commands)
shutting_of mode text store = Done

abbrev pub shutting : ℕ → Contents → Reply
shutting n store =
    option_map_or (λ stream. shutting_of stream.mode stream.text store) (lookup (λ k. k == n) store.streams) Done

abbrev pub value_of : List ℕ → Contents → Reply
value_of name store = option_map_or (λ text. Value text) (lookup (bytes_eq name) store.environment) Failed

-- the reply to a request that does not fail by its number
abbrev pub plain_reply : Contents → Request → Reply
plain_reply store (Open mode text) = opening mode text store
plain_reply store (Next n) = reading n store
plain_reply store (Put n bytes) = putting n store
plain_reply store (Shut n) = shutting n store
plain_reply store (System text) = Status (status_of text store.commands)
plain_reply store (Env name) = value_of name store
plain_reply store (Assign name text) = Done

-- whether the ask of this number, counted from 1, is to fail: it is the one that is, or none before a first one that is
abbrev pub fails_at : ℕ → MemoryState → Bool
fails_at number state = (number == state.fail_at) || option_map_or (λ first. nat_le first number) state.fail_from false

abbrev pub is_failing : MemoryState → Bool
is_failing state = fails_at (length state.asked + 1) state

abbrev pub reply_of : MemoryState → Request → Reply
reply_of state request = if is_failing state then Failed else plain_reply state.store request
