-- The bytes of a text, wherever they lie.
use Rattle.std.specs.Prelude.{ℕ, List}
use Rattle.awk_text.specs.declared.octets.Bytes.{Bytes}
use Rattle.awk_text.specs.declared.octets.Bytes.TheVariants.{Short, Long, Shared}

abbrev pub items_of : Bytes → List ℕ
items_of (Short bytes) = bytes.items
items_of (Long bytes) = bytes.items
items_of (Shared bytes) = bytes.value.items
