-- A record that is held whole is read at once.
use Rattle.std.proofs.Common.{◌≡◌, refl, false, ◌∷◌}
use Rattle.std.specs.Prelude.{Ok, codes}
use Rattle.awk_text.specs.declared.place.Place.{Place}
use Rattle.awk_text.specs.declared.value.Value.TheVariants as v
use Rattle.box_world.specs.Events.{Class, Named, Standard, find_stream}
use Rattle.box_world.specs.declared.world.World.{Ghosts}
use Rattle.awk_program.specs.Slots.{Text}
use Rattle.awk_machine.specs.Getline.{input_mode, read_opened}
use Rattle.awk_machine.specs.Pieces.{Do, Fetch, Read, give}
use Rattle.awk_machine.specs.State.{State, Given}
use Rattle.awk_machine.specs.Variables.{own_text}
use Rattle.awk_streams.specs.declared.getline.NextRecord.TheVariants as found
use Rattle.awk_streams.specs.Chains.{Leads}
use Rattle.awk_streams.specs.declared.inputs.InputStream.{InputStream}
use Rattle.awk_streams.specs.declared.inputs.InputStream.TheVariants as source
use Rattle.awk_streams.specs.Readings.{IsLine, fetching, key_of}
use Rattle.awk_streams.specs.Tables.{Table, kind, open_of}
use Rattle.awk_streams.specs.Tasks.{MeetsTable, IsTable, beside}
use Rattle.awk_streams.proofs.Chain.{Laws, at_once}
use Rattle.awk_streams.proofs.Leading.{open_known}
use Rattle.awk_streams.proofs.Lives.{number_live, some_at}
use Rattle.awk_streams.proofs.MoreSteps.{gives, reads_so}

-- the stream is open, and its record is taken
line_fetched : {W : Type 0} {ghosts : Ghosts W} (laws : Laws ghosts) (g : Given) (s : State) (place : Place)
    (class : Class) (name text rs : Text) → own_text s (codes "RS") ≡ rs → (old new : Table) (w : W) →
    IsLine (Named class name) rs old text new → MeetsTable ghosts g s (Do (Fetch place class name)) give old w
    (Ok (v.Input text)) new w
line_fetched {ghosts = ghosts} laws g s place class name text rs is old new w x =
    let key = Named class name in
    let number = some_at (find_stream class name (open_of old)) (number_live class name old (x.before, x.live)) in
    let to_read : Leads ghosts (beside s) IsTable (λ t. s.course.used) g (Do (Fetch place class name)) old w
    (λ k. Do (Read place key) ∷ k) old w =
    open_known g (Do (Fetch place class name)) place false (input_mode class) class name (read_opened place key)
    (λ k t. refl) s laws number.0 old w number.1 in
    let read = gives ghosts g s place key rs is old new x.before x.live (reads_so g s place key) to_read
    (found.Record text) x.first in
    record { plays = λ first k hid c a. read.plays first k hid c a }

-- and so of whichever stream
pub line_at_once : {W : Type 0} {ghosts : Ghosts W} (laws : Laws ghosts) (g : Given) (s : State) (place : Place)
    (source : InputStream) (text rs : Text) → own_text s (codes "RS") ≡ rs → (old new : Table) (w : W) →
    IsLine (key_of source) rs old text new → MeetsTable ghosts g s (Do (fetching place (key_of source))) give old w
    (Ok (v.Input text)) new w
line_at_once {ghosts = ghosts} laws g s place source.Standard text rs is old new w x =
    let read = gives ghosts g s place (Standard 0) rs is old new x.before x.live (reads_so g s place (Standard 0))
    (at_once _ old w) (found.Record text) x.first in
    record { plays = λ first k hid c a. read.plays first k hid c a }
line_at_once laws g s place (source.Stream name) text rs is old new w x =
    line_fetched laws g s place (kind name.class) name.text.now text rs is old new w x
