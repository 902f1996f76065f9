-- Why what was read of two texts is not put under a base: it is none that a policy may have, or memory was refused.
use Rattle.std.specs.Prelude.{ℕ, List}
use Rattle.box_policy.specs.Rebased.{base_refusal}
use Rattle.box_policy.specs.Refusals.{IsRefusedBy}
use Rattle.awkbox.specs.declared.accepting.Refusal.{Refusal}
use Rattle.awkbox.specs.declared.accepting.Refusal.TheVariants.{Policy, Script, Assign}

abbrev pub IsBaseRefused : List ℕ → Refusal → Type 0
IsBaseRefused base (Policy e) = IsRefusedBy (base_refusal base) e
IsBaseRefused base (Script e) = ⊥
IsBaseRefused base (Assign n) = ⊥
