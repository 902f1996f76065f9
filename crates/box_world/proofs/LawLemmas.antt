-- One more answered ask leads on by itself.
use Rattle.std.proofs.Common.{◌≡◌, ◌==◌, ℕ, Bool, true, false, cond, nat_eq, if◌then◌else◌, List, [], ◌∷◌, length}
use Rattle.std.proofs.Common.{Option, None, Some, refl, ap, ◌∙◌}
use Rattle.std.proofs.lemmas.List.{map-append}
use Rattle.std.proofs.lemmas.Map.{keys-set_value}
use Rattle.std.specs.Map.{keys_of, lookup, remove_entry, set_value}
use Rattle.std.specs.Option.{option_map_or}
use Rattle.box_world.specs.Calls.{numbers_after, without}
use Rattle.box_world.specs.declared.ask.Ask.{Ask}
use Rattle.box_world.specs.declared.ask.Mode.{Mode}
use Rattle.box_world.specs.declared.ask.Mode.TheVariants.{Read, Write, Append, RunIn, RunOut}
use Rattle.box_world.specs.declared.ask.Reply.{Reply}
use Rattle.box_world.specs.declared.ask.Reply.TheVariants.{Opened, Bytes, Done, Status, Failed}
use Rattle.box_world.specs.declared.ask.Request.{Request}
use Rattle.box_world.specs.declared.ask.Request.TheVariants.{Open, Next, Put, Shut, System}
use Rattle.box_world.specs.declared.memory_world.store.MemoryStream.{MemoryStream}
use Rattle.box_world.specs.MemoryChanges.{answered, left_by, stream_read, with_end, with_end_of, with_put, with_put_to}
use Rattle.box_world.specs.MemoryChanges.{with_read, with_shut}
use Rattle.box_world.specs.MemoryLaw.{Follows}
use Rattle.box_world.specs.MemoryState.{Contents, MemoryState}

keys-remove_entry : {X : Type 0} (n : ℕ) (es : List (ℕ × X)) → keys_of (remove_entry (λ k. k == n) es)
    ≡ without n (keys_of es)
keys-remove_entry n [] = refl
keys-remove_entry {X} n (e ∷ es) = by (nat_eq e.0 n) (keys-remove_entry n es)
  where
    by : (b : Bool) → keys_of (remove_entry (λ k. k == n) es) ≡ without n (keys_of es)
        → keys_of (cond b es (e ∷ remove_entry (λ k. k == n) es))
        ≡ (if b then keys_of es else e.0 ∷ without n (keys_of es))
    by true rest = refl
    by false rest = ap (λ ks. e.0 ∷ ks) rest

streams-with_put_to : (mode : Mode) (text bytes : List ℕ) (store : Contents)
    → (with_put_to mode text bytes store).streams ≡ store.streams
streams-with_put_to Read text bytes store = refl
streams-with_put_to Write text bytes store = refl
streams-with_put_to Append text bytes store = refl
streams-with_put_to RunIn text bytes store = refl
streams-with_put_to RunOut text bytes store = refl

streams-with_put : (n : ℕ) (bytes : List ℕ) (store : Contents) → (with_put n bytes store).streams ≡ store.streams
streams-with_put n bytes store = by (nat_eq n 1) (nat_eq n 2) _ _ _ refl refl (of (lookup (λ k. k == n) store.streams))
  where
    of : (found : Option MemoryStream)
        → (option_map_or (λ s. with_put_to s.mode s.text bytes store) found store).streams ≡ store.streams
    of None = refl
    of (Some s) = streams-with_put_to s.mode s.text bytes store

    by : (one two : Bool) (a b c : Contents) → a.streams ≡ store.streams → b.streams ≡ store.streams
        → c.streams ≡ store.streams
        → (if one then a else if two then b else c).streams ≡ store.streams
    by true two a b c p q r = p
    by false true a b c p q r = q
    by false false a b c p q r = r

keys-with_read : (n count : ℕ) (store : Contents) → keys_of (with_read n count store).streams ≡ keys_of store.streams
keys-with_read n count store = by (nat_eq n 0) _ _ refl (of (lookup (λ k. k == n) store.streams))
  where
    of : (found : Option MemoryStream)
        → keys_of (option_map_or (λ s. set_value (λ k. k == n) store.streams (stream_read count s)) found store.streams)
        ≡ keys_of store.streams
    of None = refl
    of (Some s) = keys-set_value (λ k. k == n) store.streams (stream_read count s)

    by : (zero : Bool) (a b : Contents) → keys_of a.streams ≡ keys_of store.streams
        → keys_of b.streams ≡ keys_of store.streams → keys_of (if zero then a else b).streams ≡ keys_of store.streams
    by true a b p q = p
    by false a b p q = q

streams-with_end_of : (mode : Mode) (text : List ℕ) (store : Contents) → (with_end_of mode text store).streams
    ≡ store.streams
streams-with_end_of Read text store = refl
streams-with_end_of Write text store = refl
streams-with_end_of Append text store = refl
streams-with_end_of RunIn text store = refl
streams-with_end_of RunOut text store = refl

streams-with_end : (n : ℕ) (store : Contents) → (with_end n store).streams ≡ store.streams
streams-with_end n store = of (lookup (λ k. k == n) store.streams)
  where
    of : (found : Option MemoryStream) → (option_map_or (λ s. with_end_of s.mode s.text store) found store).streams
        ≡ store.streams
    of None = refl
    of (Some s) = streams-with_end_of s.mode s.text store

keys-with_end : (n : ℕ) (store : Contents) → keys_of (with_shut n (with_end n store)).streams
    ≡ without n (keys_of store.streams)
keys-with_end n store = keys-remove_entry n (with_end n store).streams ∙ ap (λ es. without n (keys_of es))
    (streams-with_end n store)

numbers-left_by : (request : Request) (reply : Reply) (store : Contents) → keys_of (left_by request reply store).streams
    ≡ numbers_after request reply (keys_of store.streams)
numbers-left_by (Open mode text) (Opened n) store = map-append (λ e. e.0) store.streams
    ((n, record { mode = mode; text = text; read = 0 }) ∷ [])
numbers-left_by (Next n) (Bytes bytes) store = keys-with_read n (length bytes) store
numbers-left_by (Put n bytes) Done store = ap keys_of (streams-with_put n bytes store)
numbers-left_by (Shut n) Failed store = keys-remove_entry n store.streams
numbers-left_by (Shut n) reply store = keys-with_end n store
numbers-left_by (System text) (Status s) store = refl
numbers-left_by request reply store = refl

pub Follows-answered : (ask : Ask) (reply : Reply) (state : MemoryState)
    → Follows state ((ask, reply) ∷ []) (answered ask reply state)
Follows-answered ask reply state = record { asked = refl; numbers = numbers-left_by ask.request reply state.store }
