-- A range is turned on and off.
use Rattle.std.proofs.Common.{◌≡◌, refl, sym, ap, subst, ◌∙◌, ℕ, Bool, true, false, List, [], ◌∷◌}
use Rattle.std.specs.Prelude.{Ok, if◌then◌else◌, get_or}
use Rattle.awk_text.specs.Values.{truth}
use Rattle.awk_text.specs.declared.value.Value.{Value}
use Rattle.awk_program.specs.Program as p
use Rattle.awk_program.specs.Program.{Expression, Rule, When}
use Rattle.awk_machine.specs.Advances.{advance, held}
use Rattle.awk_machine.specs.Forms.{unary, value}
use Rattle.awk_machine.specs.Pieces.{Piece, At, Choosing, Goes}
use Rattle.awk_machine.specs.Rules as machine
use Rattle.awk_machine.specs.Rules.{action, choose_by}
use Rattle.awk_machine.specs.State.{Course, Given}
use Rattle.awk_machine.specs.Streams.{seen}
use Rattle.awk_store.specs.Changes.{with_on}
use Rattle.awk_store.specs.Kept.{Kept}
use Rattle.awk_store.specs.States.{Hidden}
use Rattle.awk_store.proofs.Ranges.{turns}
use Rattle.awk_store.specs.Acts.{Acts}
use Rattle.awk_store.specs.Wholes.{Whole, Agreeing, base, names_in}
use Rattle.awk_store.proofs.Acting.{at_rest, moves, alters, done}
use Rattle.awk_input.specs.Ranges.{acting, turned_on}

module _ (g : Given) (old : Whole) (n : ℕ) (x : Rule) (y z : Expression) (is : x.when ≡ p.range y z) (v : Value) where
  -- the machine's move, where the range is on or off, and the value holds or not
  moves_by : (on holds : Bool) → get_or old.0.on n false ≡ on → truth old.0.numbers v ≡ holds
      → (k : List Piece) (hid : Hidden) (c : Course) →
      advance g (At (Choosing n x) (v ∷ []) ∷ k) (seen (base g old hid) c)
      ≡ held g (seen (base g old hid) c)
      (if on then Goes (action x k) (if holds then machine.with_on n false (seen (base g old hid) c) else seen
      (base g old hid) c)
      else (if holds then Goes (At (Choosing n x) [] ∷ k) (machine.with_on n true (seen (base g old hid) c)) else Goes k
      (seen (base g old hid) c)))
  moves_by on holds e f k hid c =
      let s = seen (base g old hid) c in
      ap (λ w. held g s (choose_by w n x (Choosing n x) (v ∷ []) k s)) is
      ∙ ap (λ b. held g s ((if b then unary (value z) (Choosing n x)
      (λ u k s. Goes (action x k) (if truth s.numbers u then machine.with_on n false s else s)) (v ∷ []) k s
      else unary (value y) (Choosing n x) (λ u k s. if truth s.numbers u then Goes (At (Choosing n x) [] ∷ k)
      (machine.with_on n true s) else Goes k s) (v ∷ []) k s))) e
      ∙ ap (λ h. held g s (if on then Goes (action x k) (if h then machine.with_on n false s else s) else
      (if h then Goes (At (Choosing n x) [] ∷ k) (machine.with_on n true s) else Goes k s))) f

  agrees_on : (b : Bool) (hid : Hidden) (c : Course) → Agreeing g old hid c
      → Agreeing g (with_on n b old.0, old.1) hid c
  agrees_on b hid c a = record { tells = a.tells; row = a.row; cells = a.cells; sound = a.sound }

  pub stays_off : get_or old.0.on n false ≡ false → truth old.0.numbers v ≡ false
      → Acts g (At (Choosing n x) (v ∷ [])) (turned_on n x) old (Ok false) old
  stays_off e f = done (moves (at_rest _ old) (λ k hid c a. moves_by false false e f k hid c))

  pub turns_so : (new : Kept) → get_or old.0.on n false ≡ false → truth old.0.numbers v ≡ true → new
      ≡ with_on n true old.0
      → Acts g (At (Choosing n x) (v ∷ [])) (turned_on n x) old (Ok true) (new, old.1)
  turns_so new e f same =
      subst (λ (u : Kept). Acts g (At (Choosing n x) (v ∷ [])) (turned_on n x) old (Ok true) (u, old.1)) (sym same)
      (done (alters refl (at_rest _ old) (λ k hid c a. (
        hid,
        agrees_on true hid c a,
        moves_by false true e f k hid c ∙ ap (λ s. Goes (At (Choosing n x) [] ∷ k) (seen s c))
            (turns (names_in g) old.0 hid n true),
      ))))

  pub stays_on : get_or old.0.on n false ≡ true → truth old.0.numbers v ≡ false → Acts g (At (Choosing n x) (v ∷ []))
      (acting x) old
      (Ok (tt {0})) old
  stays_on e f = done (moves (at_rest _ old) (λ k hid c a. moves_by true false e f k hid c))

  pub turns_off : (new : Kept) → get_or old.0.on n false ≡ true → truth old.0.numbers v ≡ true → new
      ≡ with_on n false old.0
      → Acts g (At (Choosing n x) (v ∷ [])) (acting x) old (Ok (tt {0})) (new, old.1)
  turns_off new e f same =
      subst (λ (u : Kept). Acts g (At (Choosing n x) (v ∷ [])) (acting x) old (Ok (tt {0})) (u, old.1)) (sym same)
      (done (alters refl (at_rest _ old) (λ k hid c a. (
        hid,
        agrees_on false hid c a,
        moves_by true true e f k hid c ∙ ap (λ s. Goes (action x k) (seen s c)) (turns (names_in g) old.0 hid n false),
      ))))
