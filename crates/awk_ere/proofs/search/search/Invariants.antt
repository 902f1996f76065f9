use Rattle.std.proofs.Common.{◌≡◌, length}
use Rattle.awk_ere.specs.Search.{Marks, BestOf, Goes, IsBlank, limit_of}
use Rattle.awk_ere.proofs.search.search.Given as goal

abbrev pub invariant-loop-place : goal.invariant-loop-place
invariant-loop-place l = record {
  here_len : length l.here ≡ length l.program;
  ahead_len : length l.ahead ≡ length l.program;
  blank : IsBlank l.ahead;
  marks : Marks l.sets l.program l.text l.entry l.from (limit_of l.place l.best) l.place l.here;
  best : BestOf (λ i j. Goes l.sets l.program l.text l.entry i 0 j) l.place l.from l.best;
}
