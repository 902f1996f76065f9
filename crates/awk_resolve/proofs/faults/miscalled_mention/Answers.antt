use Rattle.std.proofs.Common.{◌≡◌, ℕ, List, length, nat_lt, Option, Some, Bool, true, false, inl, inr, refl, sym}
use Rattle.std.proofs.lemmas.Bool.{ltb-true, lt-ltb}
use Rattle.std.specs.Bool.{then_some}
use Rattle.std.specs.Map.{lookup}
use Rattle.std.specs.Str.{bytes_eq}
use Rattle.awk_tree.specs.declared.names.Name.{Name}
use Rattle.awk_resolve.specs.Search.{Counts, Finds, MiscallAt}
use Rattle.awk_resolve.specs.declared.mention.Mention.TheVariants.{Call}
use Rattle.awk_resolve.proofs.faults.miscalled_mention.Goals as goal

counted : (known : Counts) (f : Name) (args : List (Option Name)) (n : ℕ) → lookup (bytes_eq f.text) known ≡ Some n
    → (b : Bool) → nat_lt n (length args) ≡ b → Finds (MiscallAt known (Call f args)) (then_some b f.place)
counted known f args n l true over = (inr (n, l, ltb-true n (length args) over), refl)
counted known f args n l false fits = λ q bad. elim bad.0 [
  | inl lacks ↦ lacks (n, l)
  | inr more ↦ let (k, l2, less) =
      more in let same : k ≡ n = cc in let over = lt-ltb n (length args) (rw same at less) in cc
]

pub returns-in-Some : goal.returns-in-Some
returns-in-Some c =
    rw (c.then_some.ensures, c.len.ensures, c.in-Call.is)
    (counted c.args.known.now c.in-Call.name c.in-Call.args c.in-Some.count.now
    (sym (rw c.bytes.ensures at c.in-Some.ensures)) (nat_lt c.in-Some.count.now (length c.in-Call.args)) refl)
