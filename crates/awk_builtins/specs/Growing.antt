-- Operands whose texts are there without a change, and a concatenation of them behind a text.
use Rattle.std.specs.Prelude.{◌≡◌, ◌+◌, ◌≤◌, ℕ, [], ◌∷◌, ◌++◌, length}
use Rattle.awk_text.specs.Limits.{most_bytes}
use Rattle.awk_text.specs.Values.{text_of}
use Rattle.awk_text.specs.declared.value.Value.{Value}
use Rattle.awk_text.specs.declared.value.Value.TheVariants as v
use Rattle.awk_program.specs.Program.{Expression, Joins}
use Rattle.awk_program.specs.Slots.{Text}
use Rattle.awk_machine.specs.Forms.{value}
use Rattle.awk_machine.specs.Pieces.{At, Texts_of, give}
use Rattle.awk_machine.specs.State.{Given}
use Rattle.awk_store.specs.Acts.{Passes}
use Rattle.awk_store.specs.Wholes.{Whole}

module _ (g : Given) (w : Whole) where
  -- the value of the expression has this text, and is there without a change
  pub record Lends (x : Expression) (text : Text) : Type 0 where
    pub val : Value
    pub is : text_of val ≡ text
    pub passes : Passes g (value x) w (give val) w

  -- behind a text that leaves this much room these operands are this one
  abbrev pub Follows : Joins → ℕ → Text → Type 0
  Follows xs room more = (text : Text) → length text + room ≤ most_bytes →
      Passes g (At (Texts_of xs) (v.Text text ∷ [])) w (give (v.Text (text ++ more))) w
