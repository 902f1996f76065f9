-- What the parts of a script say, places aside.
use Rattle.std.specs.Prelude.{map, option_map}
use Rattle.awk_tree.specs.Canon.{bare_name}
use Rattle.awk_tree.specs.Terminals.{nowhere}
use Rattle.awk_resolve.specs.declared.mention.Mention.{Mention}
use Rattle.awk_resolve.specs.declared.mention.Mention.TheVariants.{Scalar, Array, Measured, Call, MainInput, Next}
use Rattle.awk_resolve.specs.declared.mention.Mention.TheVariants.{Return, Stray}
use Rattle.awk_resolve.specs.declared.mention.Role.{Role}
use Rattle.awk_resolve.specs.declared.mention.Role.TheVariants as role
use Rattle.awk_resolve.specs.declared.mention.Section.{Section}

abbrev pub bare_mention : Mention → Mention
bare_mention (Scalar n) = Scalar (bare_name n)
bare_mention (Array n) = Array (bare_name n)
bare_mention (Measured n) = Measured (bare_name n)
bare_mention (Call f args) = Call (bare_name f) (map (option_map bare_name) args)
bare_mention MainInput = MainInput
bare_mention (Next p) = Next nowhere
bare_mention (Return p) = Return nowhere
bare_mention (Stray p) = Stray nowhere

abbrev pub bare_role : Role → Role
bare_role role.Begin = role.Begin
bare_role role.End = role.End
bare_role role.Rule = role.Rule
bare_role (role.Function f ps) = role.Function (bare_name f) (map bare_name ps)

abbrev pub bare_part : Section → Section
bare_part p = record { role = bare_role p.role; mentions = map bare_mention p.mentions }
