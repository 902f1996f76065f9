-- What contracts see of a log with a limit.
use Rattle.std.specs.Prelude.{ℕ}

-- the writer behind, how many bytes it is passed at most, and how many it took
pub record Limited (W : Type 0) : Type 0 where
  pub inner : W
  pub limit : ℕ
  pub passed : ℕ
