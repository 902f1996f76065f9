-- What is held of one stream.
use Rattle.std.specs.Prelude.{ℕ, List}
use Rattle.box_blocks.specs.Parts.{Writing}
use Rattle.box_blocks.specs.declared.held.Held.{Held}
use Rattle.box_blocks.specs.declared.held.Kept.{Kept}
use Rattle.box_blocks.specs.declared.held.Kept.TheVariants.{Growing, Whole}

abbrev pub bytes_of : Kept → List ℕ
bytes_of (Growing bytes) = bytes.items
bytes_of (Whole bytes) = bytes

abbrev pub writing_of : Held → Writing
writing_of held = record {
  place = held.place;
  given = held.given;
  number = held.number;
  bytes = bytes_of held.bytes;
}
