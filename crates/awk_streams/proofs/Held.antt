-- What is held unread of a stream changes.
use Rattle.std.proofs.Common.{◌≡◌, ◌⊎◌, refl, ◌∙◌, ap, subst, List, ℕ}
use Rattle.awk_fields.specs.declared.reader.Taken.{Taken}
use Rattle.awk_text.specs.declared.fault.Fault.{Fault}
use Rattle.awk_text.specs.declared.fault.Fault.TheVariants as fault
use Rattle.awk_fields.specs.Heads.{head, too_long}
use Rattle.awk_fields.specs.Takes.{Input, Takes}
use Rattle.box_world.specs.Events.{Standard}
use Rattle.awk_streams.specs.declared.inputs.InputStream.TheVariants as source
use Rattle.awk_streams.specs.declared.streams.StreamName.{StreamName}
use Rattle.awk_streams.specs.Readings.{Holds, key_of}
use Rattle.awk_streams.specs.Tables.{Table, TakesOf, kind, with_input}
use Rattle.awk_streams.specs.Tasks.{IsReadAt}
use Rattle.awk_streams.proofs.Lives.{read_standard, standard_is}
use Rattle.awk_streams.proofs.Reading.{read_at}

pub standard_changed : (f : Input → Input) (old new : Table) → new.entries ≡ old.entries → new.input ≡ f old.input
    → Holds (Standard 0) old (λ i. IsReadAt (Standard 0) (f i) old new)
standard_changed f old new es e i live = read_standard (f i) old new es (e ∙ ap f (standard_is i old live))

pub stream_changed : (name : StreamName) (f : Input → Input) (old new : Table)
    → new.entries ≡ with_input (kind name.class) name.text.now f old.entries → new.input ≡ old.input →
    Holds (key_of (source.Stream name)) old (λ i. IsReadAt (key_of (source.Stream name)) (f i) old new)
stream_changed name f old new es same i live = read_at (kind name.class) name.text.now f i old new live es same

pub standard_taken : (rs : List ℕ) (t : Taken) (old new : Table) → new.entries ≡ old.entries
    → Takes (head rs old.input.unread old.input.ended) t old.input new.input →
    Holds (Standard 0) old (λ i. (j : Input) × Takes (head rs i.unread i.ended) t i j × IsReadAt (Standard 0) j old new)
standard_taken rs t old new es takes i live =
    let s = standard_is i old live in (
      new.input,
      subst (λ z. Takes (head rs z.unread z.ended) t z new.input) s takes,
      read_standard new.input old new es refl,
    )

pub standard_fails : (rs : List ℕ) (e : Fault) (old : Table) → (e ≡ fault.Memory)
    ⊎ ((e ≡ fault.TextTooLong) × (head rs old.input.unread old.input.ended ≡ too_long)) →
    Holds (Standard 0) old (λ i. (e ≡ fault.Memory) ⊎ ((e ≡ fault.TextTooLong) × (head rs i.unread i.ended ≡ too_long)))
standard_fails rs e old x i live = subst (λ z. (e ≡ fault.Memory)
    ⊎ ((e ≡ fault.TextTooLong) × (head rs z.unread z.ended ≡ too_long))) (standard_is i old live) x

pub stream_taken : (name : StreamName) (rs : List ℕ) (t : Taken) (old new : Table) → new.input ≡ old.input
    → TakesOf (kind name.class) name.text.now rs old.entries t new.entries →
    Holds (key_of (source.Stream name)) old (λ i. (j : Input) × Takes (head rs i.unread i.ended) t i j
    × IsReadAt (key_of (source.Stream name)) j old new)
stream_taken name rs t old new same takes i live =
    let x = takes i live in
    (x.0, x.1, read_at (kind name.class) name.text.now (λ z. x.0) i old new live x.2 same)
