-- An array that is filled with texts: how it is kept.
use Rattle.std.specs.Prelude.{◌≡◌, ℕ, true, List, length}
use Rattle.awk_text.specs.declared.value.Value.{Value}
use Rattle.awk_lib.specs.Kept.{rows_of, AreKept}
use Rattle.awk_lib.specs.Numbering.{shown}
use Rattle.awk_lib.specs.Parts.{texts_from}
use Rattle.awk_lib.specs.declared.elements.Elements.{Elements}

-- these elements are the texts under the keys 1, 2 and so on, in order
pub record AreFilled (parts : List (List ℕ)) (es : Elements Value) : Type 0 where
  pub kept : AreKept true (length parts) es
  pub list : shown (rows_of es) ≡ texts_from 1 parts
