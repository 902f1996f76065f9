-- What a policy decides on.
use Rattle.std.specs.Prelude.{ℕ, List, Option, None, Some}
use Rattle.box_policy.specs.declared.policy.Kind.{Kind}
use Rattle.box_policy.specs.declared.policy.Kind.TheVariants.{Read, Write, Append, Run, Env as EnvKind}
use Rattle.box_policy.specs.declared.policy.Kind.TheVariants.{Assign as AssignKind}
use Rattle.box_world.specs.declared.ask.Mode.{Mode}
use Rattle.box_world.specs.declared.ask.Mode.TheVariants.{Read as ReadMode, Write as WriteMode, Append as AppendMode}
use Rattle.box_world.specs.declared.ask.Mode.TheVariants.{RunIn, RunOut}
use Rattle.box_world.specs.declared.ask.Request.{Request}
use Rattle.box_world.specs.declared.ask.Request.TheVariants.{Open, Next, Put, Shut, System, Env, Assign}

-- a path, a command or a name, and the kind of what is to be done with it
pub record Subject : Type 0 where
  pub kind : Kind
  pub text : List ℕ

-- the kind of an opening
abbrev pub kind_of : Mode → Kind
kind_of ReadMode = Read
kind_of WriteMode = Write
kind_of AppendMode = Append
kind_of RunIn = Run
kind_of RunOut = Run

-- The subject of a request. Reading on, writing and closing have none: they are never denied, and
-- numbers of streams are not looked at.
abbrev pub subject_of : Request → Option Subject
subject_of (Open mode text) = Some (record { kind = kind_of mode; text = text })
subject_of (System text) = Some (record { kind = Run; text = text })
subject_of (Env name) = Some (record { kind = EnvKind; text = name })
subject_of (Assign name text) = Some (record { kind = AssignKind; text = name })
subject_of (Next n) = None
subject_of (Put n bytes) = None
subject_of (Shut n) = None
