-- The texts of the names that an item has to itself, and the same in a table where they are many.
use Rattle.std.specs.Prelude.{◌≡◌, ℕ, List, IfSome}
use Rattle.awk_resolve.specs.Kinds.{texts}
use Rattle.awk_resolve.specs.declared.text_tables.OwnNames.TheInside.{Inside}

abbrev pub texts_of : Inside → List (List ℕ)
texts_of o = texts o.names.now

abbrev pub IsOwn : Inside → Type 0
IsOwn o = IfSome o.many (λ roll. roll ≡ texts o.names.now)
