use Rattle.std.proofs.Common.{◌≡◌, drop}
use Rattle.std.specs.List.{list_any}
use Rattle.awkbox.specs.OwnFiles.{is_same}
use Rattle.awkbox.proofs.own_files.is_among.Given as goal

-- no file before these is the same
abbrev pub invariant-loop-other : goal.invariant-loop-other
invariant-loop-other l = list_any (is_same l.file) (drop l.other-index l.files) ≡ list_any (is_same l.file) l.files
