-- Arrays as wholes: how many elements one has, and all of them removed.
use Rattle.std.proofs.Common.{◌≡◌, sym, ap, subst, ◌∙◌, [], length, ℤ}
use Rattle.std.specs.Prelude.{Ok, pos}
use Rattle.awk_text.specs.declared.value.Value.TheVariants as v
use Rattle.awk_program.specs.Program as p
use Rattle.awk_program.specs.View.{variable_of}
use Rattle.awk_program.specs.declared.variables.Variable.{Variable}
use Rattle.awk_machine.specs.Pieces.{At, Doing, Value_of, Goes, give}
use Rattle.awk_machine.specs.State.{Given}
use Rattle.awk_machine.specs.Streams.{seen}
use Rattle.awk_streams.specs.Tasks.{goes_on}
use Rattle.awk_store.specs.Acts.{Acts, Passes}
use Rattle.awk_store.specs.Changes as changes
use Rattle.awk_store.specs.Kept as kept
use Rattle.awk_store.specs.Wholes.{Whole, base, names_in}
use Rattle.awk_store.proofs.Acting.{at_rest, moves, alters, done}
use Rattle.awk_store.proofs.Agreeing.{array-so}
use Rattle.awk_store.proofs.ArraySteps.{array-set, array_agrees, array_used}

module _ (g : Given) (w : Whole) where
  -- ---- length ( array )

  pub counts_so : (x : Variable) (n : ℤ) → n ≡ pos (length (kept.array w.0 x))
      → Passes g (At (Value_of (p.count (variable_of (names_in g) x))) []) w (give (v.Num n)) w
  counts_so x n is = moves (at_rest _ w) (λ k hid c a.
      ap (λ elements. Goes (give (v.Num (pos (length elements))) k) (seen (base g w hid) c)) (array-so g w hid c a x)
      ∙ ap (λ m. Goes (give (v.Num m) k) (seen (base g w hid) c)) (sym is))

  -- ---- delete

  pub empties_so : (x : Variable) (new : kept.Kept) → new ≡ changes.with_array (kept.reference w.0 x) [] w.0 →
      Acts g (At (Doing (p.delete_all (variable_of (names_in g) x))) []) goes_on w (Ok (tt {0})) (new, w.1)
  empties_so x new same =
      subst (λ n. Acts g (At (Doing (p.delete_all (variable_of (names_in g) x))) []) goes_on w (Ok (tt {0})) (n, w.1))
      (sym same)
      (done (alters (array_used g w x []) (at_rest _ w) (λ k hid c a. (
        hid,
        array_agrees g w x [] hid c a,
        ap (λ s. Goes k s) (array-set g w x [] hid c a),
      ))))
