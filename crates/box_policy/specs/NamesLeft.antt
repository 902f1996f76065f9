-- What a walk over components has still to give.
use Rattle.std.specs.Prelude.{ℕ, List, ◌++◌}
use Rattle.box_policy.specs.Paths.{names}
use Rattle.box_policy.specs.declared.names.Names.{Names}

-- the components of the first text, and then those of the second
abbrev pub names_left : Names → List (List ℕ)
names_left walk = names walk.front.now ++ names walk.back.now
