-- The policy that a text writes.
use Rattle.std.specs.Prelude.{◌≡◌, ℕ, List, Option, Some, None, codes, IsUtf8}
use Rattle.std.specs.List.{AllZip}
use Rattle.toml.specs.Data.{Members, get_member}
use Rattle.toml.specs.Parse.{parse_document}
use Rattle.box_policy.specs.declared.policy.Rule.{Rule}
use Rattle.box_policy.specs.Rulebook.{Rulebook}
use Rattle.box_policy.specs.Tree.{text_at, tables_of}
use Rattle.box_policy.specs.Words.{effect_of, kind_of, pattern_of, from_of}
use Rattle.box_policy.specs.Refusals.{refusal}

-- the table writes the rule
pub record WritesRule (table : Members) (rule : Rule) : Type 0 where
  pub effect : effect_of table ≡ Some rule.effect
  pub kind : kind_of table ≡ Some rule.kind
  pub pattern : pattern_of table ≡ Some rule.pattern
  pub only_given : from_of table ≡ Some rule.only_given

-- the document writes the policy: nothing in it is refused, its base is the book's, and its tables write the rules in
-- order
pub record Writes (tree : Members) (book : Rulebook) : Type 0 where
  pub accepted : refusal tree ≡ None
  pub base : text_at (codes "base") tree ≡ Some book.base
  pub rules : AllZip WritesRule (tables_of (get_member (codes "rule") tree)) book.rules

-- the bytes are the text of a document that writes the policy
pub record Written (bytes : List ℕ) (book : Rulebook) : Type 0 where
  pub text : IsUtf8 bytes
  pub tree : Members
  pub read : parse_document bytes ≡ Some tree
  pub writes : Writes tree book
