-- What is kept of patterns.
use Rattle.std.specs.Prelude.{◌≡◌, List, Contains}
use Rattle.awk_fields.specs.Separators.{IsEre}
use Rattle.awk_program.specs.Slots.{Text}
use Rattle.awk_builtins.specs.declared.cache.Near.{Near}

-- under each text lies the ERE that it spells
abbrev pub AreEres : {K V : Type 0} → (K → Text) → (V → Text) → List (K × V) → Type 0
AreEres {K} {V} text source entries = (e : K × V) → Contains entries e → (source e.1 ≡ text e.0) × IsEre (text e.0)

-- a pattern before the cache stands beside the text that it spells
abbrev pub IsNear : Near → Type 0
IsNear near = (near.ere.value ≡ near.source.items) × IsEre near.source.items
