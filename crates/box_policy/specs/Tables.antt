-- What the table of a pattern holds.
use Rattle.std.specs.Prelude.{◌≡◌, ℕ, Bool, true, false, ◌&&◌, ◌||◌, List, ◌++◌, map}
use Rattle.box_policy.specs.declared.tokens.Sort.{Sort}
use Rattle.box_policy.specs.declared.table.Block.{Block}
use Rattle.box_policy.specs.declared.tokens.Token.{Token}
use Rattle.box_policy.specs.Division.{Symbol}
use Rattle.box_policy.specs.Cells.{row, never, loop_at, test_at, ones}
use Rattle.box_policy.specs.Blocks.{has, leads, loops}
use Rattle.box_policy.specs.Symbols.{class_of, is_read}
use Rattle.box_policy.specs.Tokens.{on_bytes}

-- the blocks hold the cells of the symbols
pub record IsTable (sort : Sort) (blocks : List Block) (symbols : List (Symbol Token)) : Type 0 where
  pub leading : (k : ℕ) (token : Token) → is_read sort token ≡ true
      → has (map (leads token (on_bytes (class_of sort) token)) blocks) k ≡ test_at (row never symbols) k token
  pub looping : (k : ℕ) (token : Token) → is_read sort token ≡ true
      → has (map (loops (on_bytes (class_of sort) token)) blocks) k ≡ loop_at (row never symbols) k token

-- of the whole pattern the blocks hold what stands before the rest, which takes the first places
pub record Holds (sort : Sort) (blocks : List Block) (at : ℕ) (rest whole : List (Symbol Token)) : Type 0 where
  pub front : List (Symbol Token)
  pub split : front ++ rest ≡ whole
  pub count : ones front ≡ at
  pub table : IsTable sort blocks front
