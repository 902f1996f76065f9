-- Names that no variable of the script has.
use Rattle.std.proofs.Common.{◌≡◌, refl, sym, ap, ◌∙◌, ℕ, zero, suc, Bool, true, false, true≢false, List, [], ◌∷◌}
use Rattle.std.proofs.Math.Path.{fun_ext}
use Rattle.std.proofs.lemmas.Slice.Eq.{bytes_eq-Decides}
use Rattle.std.specs.Prelude.{◌||◌, get_or, if◌then◌else◌, Option, Some, None, option_map, codes, Ok}
use Rattle.std.specs.List.{list_any}
use Rattle.std.specs.Str.{bytes_eq}
use Rattle.awk_text.specs.declared.value.Value.{Value}
use Rattle.awk_program.specs.Slots.{Text, slot_of}
use Rattle.awk_program.specs.Program.{global}
use Rattle.awk_program.specs.declared.variables.Own.TheVariants as own
use Rattle.awk_machine.specs.Advances.{advance, held}
use Rattle.awk_machine.specs.Begins.{set_at_start}
use Rattle.awk_machine.specs.Pieces as machine
use Rattle.awk_machine.specs.Pieces.{nowhere, Piece, Goes}
use Rattle.awk_machine.specs.State.{Course, Given}
use Rattle.awk_machine.specs.Streams.{seen}
use Rattle.awk_machine.specs.Targets.{set_nf}
use Rattle.awk_machine.specs.Variables.{changed, with_variable}
use Rattle.awk_store.specs.Kept.{scalar}
use Rattle.awk_store.specs.States.{Hidden, cell_named, values_of}
use Rattle.awk_store.specs.declared.cell.Cell.{Cell}
use Rattle.awk_streams.specs.Tasks.{goes_on}
use Rattle.awk_store.specs.Acts.{Acts}
use Rattle.awk_store.specs.Wholes.{Whole, Agreeing, base, names_in}
use Rattle.awk_store.proofs.Acting.{at_rest, done, moves}

-- ---- it is none of these names

not_first_by : (b c : Bool) → (b || c) ≡ false → b ≡ false
not_first_by true c e = absurd (true≢false e)
not_first_by false c e = refl

not_later_by : (b c : Bool) → (b || c) ≡ false → c ≡ false
not_later_by true c e = absurd (true≢false e)
not_later_by false c e = e

other_way_by : (x y : Text) (b : Bool) → bytes_eq x y ≡ false → bytes_eq y x ≡ b → bytes_eq y x ≡ false
other_way_by x y true e f = absurd (true≢false (sym ((bytes_eq-Decides x y).1 (sym ((bytes_eq-Decides y x).0 f))) ∙ e))
other_way_by x y false e f = f

pub other_way : (x y : Text) → bytes_eq x y ≡ false → bytes_eq y x ≡ false
other_way x y e = other_way_by x y (bytes_eq y x) e refl

no_cell_by : (n name : Text) (c : Cell) (x : Option Cell) → bytes_eq n name ≡ false → x ≡ None
    → (if bytes_eq n name then Some c else x) ≡ None
no_cell_by n name c x e none = rw e none

no_cell : (names : List Text) (cells : List Cell) (name : Text) → list_any (bytes_eq name) names ≡ false
    → cell_named names cells name ≡ None
no_cell [] cells name e = refl
no_cell (n ∷ ns) [] name e = refl
no_cell (n ∷ ns) (c ∷ cs) name e =
    no_cell_by n name c (cell_named ns cs name)
    (other_way name n (not_first_by (bytes_eq name n) (list_any (bytes_eq name) ns) e))
    (no_cell ns cs name (not_later_by (bytes_eq name n) (list_any (bytes_eq name) ns) e))

-- a name that one of them has is another one
not_named : (names : List Text) (name other : Text) (k : ℕ) → list_any (bytes_eq name) names ≡ false
    → get_or names k [] ≡ other → ([] ≡ other → ⊥) → bytes_eq name other ≡ false
not_named [] name other k e is some = absurd (some is)
not_named (n ∷ ns) name other zero e is some = ap (bytes_eq name) (sym is) ∙ not_first_by (bytes_eq name n)
    (list_any (bytes_eq name) ns) e
not_named (n ∷ ns) name other (suc k) e is some =
    not_named ns name other k (not_later_by (bytes_eq name n) (list_any (bytes_eq name) ns) e) is some

-- ---- to set it changes nothing

kept_by : {A : Type 0} (b : Bool) (a : A) (x : Option A) → x ≡ None → (if b then option_map (λ old. a) x else x) ≡ x
kept_by true a x none = rw none refl
kept_by false a x none = refl

unchanged_at : (f : Text → Option Value) (name other : Text) (a : Value) → f name ≡ None → (b : Bool)
    → bytes_eq name other ≡ b → changed f name a other ≡ f other
unchanged_at f name other a none true e =
    rw e (kept_by true a (f other) (ap f (sym ((bytes_eq-Decides name other).0 e)) ∙ none))
unchanged_at f name other a none false e = rw e refl

unchanged : (f : Text → Option Value) (name : Text) (a : Value) → f name ≡ None → changed f name a ≡ f
unchanged f name a none = fun_ext (λ other. unchanged_at f name other a none (bytes_eq name other) refl)

some_nf : [] ≡ codes "NF" → ⊥
some_nf e = absurd (cc)

module _ (g : Given) (old : Whole) (name : Text) (x : Value) (none : list_any (bytes_eq name) (names_in g) ≡ false)
  where
    set_moves : (k : List Piece) (hid : Hidden) (c : Course) → Agreeing g old hid c
        → advance g (set_at_start (machine.Variable (global name)) x ∷ k) (seen (base g old hid) c)
        ≡ Goes k (seen (base g old hid) c)
    set_moves k hid c a =
        let s = seen (base g old hid) c in
        ap (λ b. held g s (if b then set_nf nowhere x k s else Goes k (with_variable (global name) x s)))
        (not_named (names_in g) name (codes "NF") (slot_of own.Nf) none (a.sound.own own.Nf) some_nf)
        ∙ ap (λ vs. Goes k (seen (record (base g old hid) { values = vs }) c))
        (unchanged (values_of (names_in g) old.0.cells) name x
        (ap scalar (no_cell (names_in g) old.0.cells name none)))

    pub sets_none : Acts g (set_at_start (machine.Variable (global name)) x) goes_on old (Ok (tt {0})) old
    sets_none = done (moves (at_rest _ old) set_moves)
