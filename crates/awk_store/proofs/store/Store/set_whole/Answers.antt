use Rattle.std.proofs.Common.{◌≡◌, ◌⊎◌, ◌<◌, ◌≤◌, ◌∙◌, ap, arith, inl, inr, length, List, ℕ}
use Rattle.std.proofs.lemmas.Result.{err_from_is_err_and}
use Rattle.std.proofs.Math.Path.{subst}
use Rattle.awk_text.specs.Values.{text_of}
use Rattle.awk_text.specs.declared.fault.Fault.{Fault}
use Rattle.awk_text.specs.declared.fault.Fault.TheVariants as fault
use Rattle.awk_fields.specs.Separators.{IsEre, IsNoEre}
use Rattle.awk_program.specs.Slots.{slot_of}
use Rattle.awk_program.specs.declared.variables.Own.TheVariants as own
use Rattle.awk_store.specs.Kept.{Kept, own_text, value_at}
use Rattle.awk_store.specs.declared.cell.Cell.{Cell}
use Rattle.awk_store.proofs.Cells.{err_so, ok_always}
use Rattle.awk_store.proofs.store.Store.set_whole.Goals as goal
use Rattle.awk_store.proofs.store.Store.set_whole.Goals.{in-Some, in-None+in_ok-splitter-in-None}

-- the text of FS among the cells that are read
fs_is : (cells : List Cell) (k : Kept) {l : List Cell} → cells ≡ l → l ≡ k.cells
    → text_of (value_at cells (slot_of own.Fs)) ≡ own_text k own.Fs
fs_is cells k e f = ap (λ cs. text_of (value_at cs (slot_of own.Fs))) (e ∙ f)

-- where it has at most one byte it is not longer
none_longer : (fs gs : List ℕ) → fs ≡ gs → length fs ≤ 1 → 1 < length gs → IsEre gs
none_longer fs gs same few more = absurd (omega (arith, ap length same))

-- a fault of the separator, among those of the record
faulted : (e : Fault) (fs gs : List ℕ) (Else : Type 0) → fs ≡ gs → (e ≡ fault.Memory)
    ⊎ ((e ≡ fault.Pattern) × (1 < length fs) × IsNoEre fs)
    → (e ≡ fault.Memory) ⊎ ((e ≡ fault.Pattern) × (1 < length gs) × IsNoEre gs) ⊎ Else
faulted e fs gs Else same (inl is) = inl is
faulted e fs gs Else same (inr is) =
    inr (inl (subst (λ xs. (e ≡ fault.Pattern) × (1 < length xs) × IsNoEre xs) same is))

pub returns-in_err-splitter-in-None-clause-fault : goal.returns-in_err-splitter-in-None-clause-fault
returns-in_err-splitter-in-None-clause-fault c =
    let text_is = fs_is _ c.args.self.now c.as_slice-in-None.ensures.value (ap (λ k. k.cells) c.self.view_is) in
    let p = err_from_is_err_and c.from_residual.result c.from_residual.ensures.1 in
    rw (p.1, p.2)
    (faulted _ _ _ _ text_is c.in_err-splitter-in-None.ensures.err)

pub returns-clause-pattern : goal.returns-clause-pattern
returns-clause-pattern c =
    ok_always c.set_whole.result (elim c.match-short_splitter.branch [
      | in-Some w ↦ none_longer _ _ (fs_is _ c.args.self.now c.as_slice.ensures.value
          (ap (λ k. k.cells) c.self.view_is)) w.in-Some.ensures.short
      | in-None+in_ok-splitter-in-None w ↦ subst (λ fs. 1 < length fs → IsEre fs)
          (fs_is _ c.args.self.now w.as_slice-in-None.ensures.value (ap (λ k. k.cells) c.self.view_is))
          w.in_ok-splitter-in-None.ensures.pattern
    ])

pub returns-clause-fault : goal.returns-clause-fault
returns-clause-fault c =
    let pattern : 1 < length (own_text c.args.self.now own.Fs) → IsEre (own_text c.args.self.now own.Fs) =
    elim c.match-short_splitter.branch [
      | in-Some w ↦ none_longer _ _ (fs_is _ c.args.self.now c.as_slice.ensures.value
          (ap (λ k. k.cells) c.self.view_is)) w.in-Some.ensures.short
      | in-None+in_ok-splitter-in-None w ↦ subst (λ fs. 1 < length fs → IsEre fs)
          (fs_is _ c.args.self.now w.as_slice-in-None.ensures.value (ap (λ k. k.cells) c.self.view_is))
          w.in_ok-splitter-in-None.ensures.pattern
    ] in
    err_so c.set_whole.result c.set_whole.ensures.too_long (λ e so. inr (inr (so.0, pattern, so.1)))
