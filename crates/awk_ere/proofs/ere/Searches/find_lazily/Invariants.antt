use Rattle.awk_ere.specs.Lazy.{NoneBefore}
use Rattle.awk_ere.proofs.ere.Searches.find_lazily.Given as goal

abbrev pub invariant-loop-tried : goal.invariant-loop-tried
invariant-loop-tried l = NoneBefore l.self.0 l.self.1 l.from l.at
