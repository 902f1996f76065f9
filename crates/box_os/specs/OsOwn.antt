-- What the world of the system says by itself, whatever the system does.
use Rattle.std.specs.Prelude.{◌≡◌, ◌<◌, ◌⊎◌}
use Rattle.box_world.specs.declared.ask.Reply.{Reply}
use Rattle.box_world.specs.declared.ask.Reply.TheVariants.{Done, Failed}
use Rattle.box_world.specs.declared.ask.Request.{Request}
use Rattle.box_world.specs.declared.ask.Request.TheVariants.{Next, Put, Shut, Assign}
use Rattle.box_os.specs.OsReading.{IsWithin}

-- a piece has at most 8,192 bytes; the standard input is not written to, the standard outputs are not read, and
-- none of the three is closed; every operand may set its variable
abbrev pub IsOwn : Request → Reply → Type 0
IsOwn (Next n) reply = IsWithin 8192 reply × ((n ≡ 1) ⊎ (n ≡ 2) → reply ≡ Failed)
IsOwn (Put n bytes) reply = n ≡ 0 → reply ≡ Failed
IsOwn (Shut n) reply = n < 3 → reply ≡ Done
IsOwn (Assign name text) reply = reply ≡ Done
IsOwn request reply = Unit {0}
