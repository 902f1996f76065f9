-- Lists whose members stand behind one sign each.
use Rattle.std.specs.Prelude.{List, [], ◌∷◌, ◌++◌}
use Rattle.awk_tokens.specs.declared.token.Token.{Token}
use Rattle.awk_tree.specs.Tree.{Text, Trees, none, more, Perhaps, absent, present}
use Rattle.awk_tree.specs.Terminals.{sign}
use Rattle.awk_tree.specs.Canon.{canon}

-- with this sign before each
abbrev pub canon_behind : Text → Trees → List Token
canon_behind text none = []
canon_behind text (more x xs) = sign text ∷ canon x ++ canon_behind text xs

-- a part that may be absent, with this sign before it
abbrev pub canon_behind_one : Text → Perhaps → List Token
canon_behind_one text absent = []
canon_behind_one text (present x) = sign text ∷ canon x
