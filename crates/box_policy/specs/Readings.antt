-- What is kept of a document, and of a rule's table, while a policy is read.
use Rattle.std.specs.Prelude.{◌≡◌, List, None, Some, codes}
use Rattle.toml.specs.Data.{Members, get_member}
use Rattle.toml.specs.View.{items_view}
use Rattle.box_policy.specs.declared.reading.Document.{Document}
use Rattle.box_policy.specs.declared.reading.Draft.{Draft}
use Rattle.box_policy.specs.Tree.{text_at, tables_in, tables_of}
use Rattle.box_policy.specs.Words.{version_of, effect_of, kind_of, pattern_of, from_of}

-- the version, the base and the rules of the tree
pub record IsDocument (tree : Members) (document : Document) : Type 0 where
  pub version : version_of tree ≡ Some document.version
  pub base : text_at (codes "base") tree ≡ Some document.base.now
  pub rules : tables_in (items_view document.rules.now) ≡ tables_of (get_member (codes "rule") tree)

-- the values of the table
pub record IsDraft (table : Members) (draft : Draft) : Type 0 where
  pub effect : effect_of table ≡ Some draft.effect
  pub kind : kind_of table ≡ Some draft.kind
  pub pattern : pattern_of table ≡ Some draft.pattern.now
  pub only_given : from_of table ≡ Some draft.only_given
