-- What an answer of a world in memory leaves.
use Rattle.std.specs.Prelude.{ℕ, ◌+◌, ◌-◌, ◌^◌, ◌==◌, min, if◌then◌else◌, List, [], ◌∷◌, ◌++◌, length, is_some}
use Rattle.std.specs.Map.{lookup, remove_entry, set_value}
use Rattle.std.specs.Option.{option_map_or}
use Rattle.std.specs.Str.{bytes_eq}
use Rattle.box_world.specs.declared.ask.Ask.{Ask}
use Rattle.box_world.specs.declared.ask.Mode.{Mode}
use Rattle.box_world.specs.declared.ask.Mode.TheVariants.{Write, Append, RunOut}
use Rattle.box_world.specs.declared.ask.Reply.{Reply}
use Rattle.box_world.specs.declared.ask.Reply.TheVariants.{Opened, Bytes, Done, Status, Failed}
use Rattle.box_world.specs.declared.ask.Request.{Request}
use Rattle.box_world.specs.declared.ask.Request.TheVariants.{Open, Next, Put, Shut, System}
use Rattle.box_world.specs.declared.memory_world.store.MemoryStream.{MemoryStream}
use Rattle.box_world.specs.MemoryReplies.{output_of}
use Rattle.box_world.specs.MemoryState.{Contents, MemoryState}
use Rattle.box_world.specs.MemoryTexts.{with_text, with_more, with_new}

-- a file that is opened to be written is empty then; one that is opened for more is made where there is none
abbrev pub files_made : Mode → List ℕ → List (List ℕ × List ℕ) → List (List ℕ × List ℕ)
files_made Write text files = with_text text [] files
files_made Append text files = with_new text files
files_made mode text files = files

-- a command that is opened to be written to was fed from then on
abbrev pub fed_made : Mode → List ℕ → List (List ℕ × List ℕ) → List (List ℕ × List ℕ)
fed_made RunOut text fed = with_new text fed
fed_made mode text fed = fed

abbrev pub with_open : Mode → ℕ → List ℕ → Contents → Contents
with_open mode n text store = record store {
  files = files_made mode text store.files;
  fed = fed_made mode text store.fed;
  streams = store.streams ++ (n, record { mode = mode; text = text; read = 0 }) ∷ [];
  next = store.next + 1;
}

-- no count passes the greatest number of the machine, and no text is as long
abbrev pub read_more : ℕ → ℕ → ℕ
read_more read count = min (read + count) (2 ^ 64 - 1)

abbrev pub stream_read : ℕ → MemoryStream → MemoryStream
stream_read count stream = record stream { read = read_more stream.read count }

abbrev pub with_read_from : ℕ → ℕ → Contents → Contents
with_read_from n count store = record store {
  streams = option_map_or (λ s. set_value (λ k. k == n) store.streams (stream_read count s))
      (lookup (λ k. k == n) store.streams) store.streams;
}

-- so many bytes more were read
abbrev pub with_read : ℕ → ℕ → Contents → Contents
with_read n count store =
    if n == 0 then record store { read = read_more store.read count } else with_read_from n count store

-- what is put to a stream goes to the end of its file, or to its command
abbrev pub with_put_to : Mode → List ℕ → List ℕ → Contents → Contents
with_put_to Write text bytes store = record store { files = with_more text bytes store.files }
with_put_to Append text bytes store = record store { files = with_more text bytes store.files }
with_put_to RunOut text bytes store = record store { fed = with_more text bytes store.fed }
with_put_to mode text bytes store = store

-- what is put to 1 or 2 is kept as output or errors
abbrev pub with_put : ℕ → List ℕ → Contents → Contents
with_put n bytes store =
    if n == 1 then record store { output = store.output ++ bytes }
    else if n == 2 then record store { errors = store.errors ++ bytes }
    else option_map_or (λ s. with_put_to s.mode s.text bytes store) (lookup (λ k. k == n) store.streams) store

-- what the command prints
abbrev pub with_run : List ℕ → Contents → Contents
with_run text store = record store { output = store.output ++ output_of text store.commands }

-- a command that was written to prints once its input has ended
abbrev pub with_end_of : Mode → List ℕ → Contents → Contents
with_end_of RunOut text store = with_run text store
with_end_of mode text store = store

abbrev pub with_end : ℕ → Contents → Contents
with_end n store = option_map_or (λ s. with_end_of s.mode s.text store) (lookup (λ k. k == n) store.streams) store

abbrev pub with_shut : ℕ → Contents → Contents
with_shut n store = record store { streams = remove_entry (λ k. k == n) store.streams }

-- What an answered request leaves. One that failed leaves all as it was, but a number is shut whatever the reply.
abbrev pub left_by : Request → Reply → Contents → Contents
left_by (Open mode text) (Opened n) store = with_open mode n text store
left_by (Next n) (Bytes bytes) store = with_read n (length bytes) store
left_by (Put n bytes) Done store = with_put n bytes store
left_by (Shut n) Failed store = with_shut n store
left_by (Shut n) reply store = with_shut n (with_end n store)
left_by (System text) (Status s) store = with_run text store
left_by request reply store = store

-- the world after one more ask and its reply
abbrev pub answered : Ask → Reply → MemoryState → MemoryState
answered ask reply state = record state {
  asked = state.asked ++ (ask, reply) ∷ [];
  store = left_by ask.request reply state.store;
}
