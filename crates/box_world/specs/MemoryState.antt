-- What a world in memory is: what it was asked, and what it holds.
use Rattle.std.specs.Prelude.{ℕ, ℤ, List, [], Option}
use Rattle.box_world.specs.Calls.{Call}
use Rattle.box_world.specs.declared.memory_world.store.MemoryStream.{MemoryStream}

-- what a command does: what it prints, and its exit status
pub record Behavior : Type 0 where
  pub output : List ℕ
  pub status : ℤ

-- what is held beside that
pub record Contents : Type 0 where
  -- each under its text or its name
  pub commands : List (List ℕ × Behavior)
  pub files : List (List ℕ × List ℕ)
  pub environment : List (List ℕ × List ℕ)
  -- the standard input, and how many bytes were read of it
  pub input : List ℕ
  pub read : ℕ
  -- how many bytes one reading gives at most
  pub chunk : ℕ
  -- the open numbers with their streams, in order of opening
  pub streams : List (ℕ × MemoryStream)
  -- what was put to each command that was ever opened to be written to
  pub fed : List (List ℕ × List ℕ)
  -- what was written to the standard output and to the standard error
  pub output : List ℕ
  pub errors : List ℕ
  -- the number that the next opening gets
  pub next : ℕ

pub record MemoryState : Type 0 where
  pub asked : List Call
  -- the number of the ask that is to fail, counted from 1; 0 for none
  pub fail_at : ℕ
  -- the number from which on each ask is to fail, where there is one
  pub fail_from : Option ℕ
  pub store : Contents

-- what a new world holds
abbrev pub nothing : Contents
nothing = record {
  commands = [];
  files = [];
  environment = [];
  input = [];
  read = 0;
  chunk = 8192;
  streams = [];
  fed = [];
  output = [];
  errors = [];
  next = 3;
}
