-- Streams that are read stand open.
use Rattle.std.proofs.Common.{◌≡◌, inl, inr, refl, sym, ◌∙◌, ap, arith, ℕ, ◌==◌, Bool, true, false, true≢false, ◌&&◌}
use Rattle.std.proofs.Common.{List, [], ◌∷◌, map}
use Rattle.std.specs.Prelude.{Option, Some, None, IfSome, if◌then◌else◌, is_some}
use Rattle.std.specs.Str.{bytes_eq}
use Rattle.std.proofs.lemmas.Slice.Eq.{bytes_eq-Decides}
use Rattle.awk_fields.specs.Takes.{Input}
use Rattle.box_world.specs.Calls.{IsStream}
use Rattle.box_world.specs.Events.{Class, Key, Standard, Named, class_number, is_named, find_stream}
use Rattle.awk_program.specs.Slots.{Text}
use Rattle.awk_machine.specs.State.{Course}
use Rattle.awk_machine.specs.Streams.{is_live, same_key}
use Rattle.awk_streams.specs.declared.inputs.InputStream.{InputStream}
use Rattle.awk_streams.specs.declared.inputs.InputStream.TheVariants as source
use Rattle.awk_streams.specs.Readings.{GoesOn, IsLive, key_of}
use Rattle.awk_streams.specs.Tables.{Table, Entry, open_of, find_input, kind, with_input}
use Rattle.awk_streams.specs.Tasks.{IsNumber, IsReadAt, IsSame, Owns, IsTable, input_at}
use Rattle.awk_streams.proofs.Numbers.{among_all, found_once}
use Rattle.awk_streams.proofs.Opened.{input_same, no_input, number_eq, some_is}
use Rattle.awk_streams.proofs.Reading.{key_is, read_at}

-- ---- keys

pub key_self : (key : Key) → same_key key key ≡ true
key_self (Standard n) = number_eq n n refl
key_self (Named c t) = ap (λ b. b && bytes_eq t t) (number_eq (class_number c) (class_number c) refl)
    ∙ (bytes_eq-Decides t t).1 refl

-- ---- an open stream has a number, and something is held of it

input_found : (c : Class) (t : Text) (n : ℕ) (es : List Entry) → find_stream c t (map (λ e. e.stream) es) ≡ Some n
    → (i : Input) × (find_input c t es ≡ Some i)
input_found c t n [] h = absurd (cc)
input_found c t n (e ∷ es) h = by (is_named c t e.stream) h (input_found c t n es)
  where
    by : (b : Bool) → (if b then Some e.stream.number else find_stream c t (map (λ x. x.stream) es)) ≡ Some n
        → (find_stream c t (map (λ x. x.stream) es) ≡ Some n → (i : Input) × (find_input c t es ≡ Some i)) →
        (i : Input) × ((if b then Some e.input else find_input c t es) ≡ Some i)
    by true x rest = (e.input, refl)
    by false x rest = rest x

pub live_found : (c : Class) (t : Text) (n : ℕ) (table : Table) → find_stream c t (open_of table) ≡ Some n
    → IsLive (Named c t) table
live_found c t n table h = input_found c t n table.entries h

pub number_live : (c : Class) (t : Text) (table : Table) → IsLive (Named c t) table
    → is_some (find_stream c t (open_of table)) ≡ true
number_live c t table live = by (find_stream c t (open_of table)) refl
  where
    by : (o : Option ℕ) → find_stream c t (open_of table) ≡ o → is_some o ≡ true
    by (Some n) e = refl
    by None e = let n = no_input c t table.entries e in let l = live.1 in absurd (cc)

pub some_at : (o : Option ℕ) → is_some o ≡ true → (n : ℕ) × (o ≡ Some n)
some_at (Some n) e = (n, refl)
some_at None e = absurd (true≢false (sym e))

pub live_if : (c : Class) (t : Text) (o : Option ℕ) (table : Table)
    → IfSome o (λ n. find_stream c t (open_of table) ≡ Some n) → is_some o ≡ true → IsLive (Named c t) table
live_if c t (Some n) table h e = live_found c t n table h
live_if c t None table h e = absurd (true≢false (sym e))

pub live_in : (key : Key) (table : Table) (taken : Key → ℕ) (c : Course) → IsLive key table → IsTable table taken c
    → is_live key c.events ≡ true
live_in (Standard n) table taken c live a = refl
live_in (Named d t) table taken c live a = ap (λ ss. is_some (find_stream d t ss)) a.streams
    ∙ number_live d t table live

-- its number is a stream of the world's
pub next_duty : (numbers : List ℕ) (s : InputStream) (number : ℕ) (table : Table) → IsNumber (key_of s) number table
    → Owns numbers table → IsStream numbers number
next_duty numbers source.Standard number table is owns = inl (omega (arith, is))
next_duty numbers (source.Stream name) number table is owns =
    let one = found_once (kind name.class) name.text.now (open_of table) number is in
    let all = owns number in
    inr (among_all number numbers (omega (arith, one, all)))

-- ---- what a reading leaves open

pub input_read : (key : Key) (i : Input) (old new : Table) → IsReadAt key i old new → input_at key new ≡ Some i
input_read key i old new r = r.inputs key ∙ ap (λ b. if b then Some i else input_at key old) (key_self key)

pub live_read : (key : Key) (i : Input) (old new : Table) → IsReadAt key i old new → IsLive key new
live_read key i old new r = (i, input_read key i old new r)

pub live_same : (key : Key) (old new : Table) → IsSame old new → IsLive key old → IsLive key new
live_same key old new same live = (live.0, input_same key old new same ∙ live.1)

pub goes_on_same : (key : Key) (old new : Table) → IsSame old new → GoesOn key old → GoesOn key new
goes_on_same key old new same open_ i live = open_ i (sym (input_same key old new same) ∙ live)

pub owns_read : (numbers : List ℕ) (key : Key) (i : Input) (old new : Table) → IsReadAt key i old new → Owns numbers old
    → Owns numbers new
owns_read numbers key i old new r owns = rw r.streams owns

-- ---- the standard input

standard_by : (b : Bool) (x y : Input) → (if b then Some x else None)
    ≡ (if b then Some x else (if b then Some y else None))
standard_by true x y = refl
standard_by false x y = refl

pub read_standard : (i : Input) (old new : Table) → new.entries ≡ old.entries → new.input ≡ i
    → IsReadAt (Standard 0) i old new
read_standard i old new es same = record { streams = ap (map (λ e. e.stream)) es; live = refl; inputs = inputs }
  where
    inputs : (other : Key) → input_at other new ≡ (if same_key other (Standard 0) then Some i else input_at other old)
    inputs (Standard n) = ap (λ x. if n == 0 then Some x else None) same ∙ standard_by (n == 0) i old.input
    inputs (Named d t) = ap (find_input d t) es

pub standard_is : (i : Input) (table : Table) → input_at (Standard 0) table ≡ Some i → table.input ≡ i
standard_is i table h = some_is table.input i h

-- ---- what is held unread is changed

-- the table with this held unread of a stream
abbrev pub table_with : InputStream → Input → Table → Table
table_with source.Standard i table = record table { input = i }
table_with (source.Stream name) i table = record table {
  entries = with_input (kind name.class) name.text.now
      (λ old. i) table.entries;
}

pub read_with : (s : InputStream) (i before : Input) (table : Table) → input_at (key_of s) table ≡ Some before
    → IsReadAt (key_of s) i table (table_with s i table)
read_with source.Standard i before table h = read_standard i table (record table { input = i }) refl refl
read_with (source.Stream name) i before table h =
    read_at (kind name.class) name.text.now (λ old. i) before table
    (record table { entries = with_input (kind name.class) name.text.now (λ old. i) table.entries }) h refl refl

-- ---- the same is held as before

pub tells_unread : (key : Key) (old new : Table) (taken : Key → ℕ) (c : Course) (before : Input)
    → input_at key old ≡ Some before → IsReadAt key before old new → IsTable old taken c → IsTable new taken c
tells_unread key old new taken c before live r a = record {
  streams = a.streams ∙ sym r.streams;
  distinct =
      rw r.streams a.distinct;
  inputs = λ other input h. a.inputs other input (sym (same other (same_key other key) refl)
      ∙ h);
}
  where
    same : (other : Key) (b : Bool) → same_key other key ≡ b → input_at other new ≡ input_at other old
    same other true f = r.inputs other ∙ ap (λ b. if b then Some before else input_at other old) f ∙ sym live
        ∙ ap (λ z. input_at z old) (sym (key_is other key f))
    same other false f = r.inputs other ∙ ap (λ b. if b then Some before else input_at other old) f
