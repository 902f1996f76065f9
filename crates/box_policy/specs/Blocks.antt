-- The words of a table: bit j of word i is place 64 i + j.
use Rattle.std.specs.Prelude.{◌≡◌, ℕ, zero, suc, ◌/◌, ◌%◌, Bool, true, false, not, ◌&&◌, ◌||◌, ◌==◌, List}
use Rattle.std.specs.Prelude.{if◌then◌else◌, slice_index_or, bit_or}
use Rattle.std.specs.Int.{bit_at}
use Rattle.box_policy.specs.declared.table.Block.{Block}
use Rattle.box_policy.specs.declared.tokens.Sort.{Sort}
use Rattle.box_policy.specs.declared.tokens.Token.{Token}
use Rattle.box_policy.specs.declared.tokens.Element.{Element}
use Rattle.box_policy.specs.Symbols.{class_of, is_read, symbol_of}
use Rattle.box_policy.specs.Tokens.{on_bytes}
use Rattle.box_policy.specs.declared.tokens.Token.TheVariants.{Open, Byte, Close}

abbrev pub is_set : ℕ → ℕ → Bool
is_set word j = bit_at word j == 1

-- the place is in the set
abbrev pub has : List ℕ → ℕ → Bool
has words k = is_set (slice_index_or words (k / 64) 0) (k % 64)

-- the places that the token leads on from
abbrev pub leads : Token → Bool → Block → ℕ
leads Open in_class block = block.opens
leads (Byte b) in_class block = bit_or (slice_index_or block.bytes b 0) (if in_class then block.any else 0)
leads Close in_class block = block.closes

-- the places that stay reached
abbrev pub loops : Bool → Block → ℕ
loops in_class block = bit_or block.wide (if in_class then block.narrow else 0)

-- the block has the element at the marked places too
pub record Adds (element : Element) (mark : ℕ) (old new : Block) : Type 0 where
  pub leading : (sort : Sort) (token : Token) (j : ℕ) → is_read sort token ≡ true
      → is_set (leads token (on_bytes (class_of sort) token) new) j
      ≡ (is_set (leads token (on_bytes (class_of sort) token) old) j
      || ((not (symbol_of sort element).is_run && (symbol_of sort element).test token) && is_set mark j))
  pub looping : (sort : Sort) (token : Token) (j : ℕ) → is_read sort token ≡ true
      → is_set (loops (on_bytes (class_of sort) token) new) j
      ≡ (is_set (loops (on_bytes (class_of sort) token) old) j
      || (((symbol_of sort element).is_run && (symbol_of sort element).test token) && is_set mark j))

-- the places that the last element leads to: it stays at them, or it leads there from the place before
abbrev pub came_to : List ℕ → List ℕ → ℕ → Bool
came_to words leading zero = false
came_to words leading (suc k) = has words k && has leading k

abbrev pub stepped : List ℕ → List ℕ → List ℕ → ℕ → Bool
stepped words leading looping k = (has words k && has looping k) || came_to words leading k
