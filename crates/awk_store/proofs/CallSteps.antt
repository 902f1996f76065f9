-- How calls begin and end.
use Rattle.std.proofs.Common.{◌≡◌, ◌⊎◌, ◌<◌, inl, inr, refl, sym, ap, ap₂, subst, ◌∙◌, ℕ, Bool, true, false, List, []}
use Rattle.std.proofs.Common.{◌∷◌, length, drop, map, arith}
use Rattle.std.proofs.lemmas.Bool.Decides.{nat_tests}
use Rattle.std.specs.Prelude.{Result, Ok, Err, ◌≤◌, nat_lt, OnOk, OnErr, IfOk, IfErr}
use Rattle.awk_text.specs.declared.fault.Fault.{Fault}
use Rattle.awk_text.specs.declared.fault.Fault.TheVariants as fault
use Rattle.awk_text.specs.declared.place.Place.{Place}
use Rattle.awk_text.specs.declared.value.Value.{Value}
use Rattle.awk_program.specs.Program as p
use Rattle.awk_program.specs.Program.{Arguments}
use Rattle.awk_machine.specs.Advances.{advance}
use Rattle.awk_machine.specs.Builtins.{first}
use Rattle.awk_machine.specs.Calls as calls
use Rattle.awk_machine.specs.Calls.{all_handed, arguments, function, most_depth}
use Rattle.awk_machine.specs.Pieces.{Piece, At, Do, Call, Each, Leave, Goes, give, ends, Faulted}
use Rattle.awk_machine.specs.State.{State, Course, Given}
use Rattle.awk_machine.specs.Streams.{seen}
use Rattle.awk_store.specs.Changes as changes
use Rattle.awk_store.specs.Kept.{Kept}
use Rattle.awk_store.specs.States.{Hidden, bound_of}
use Rattle.awk_store.specs.declared.frame.Bound.{Bound}
use Rattle.awk_store.specs.declared.frame.Caller.{Caller}
use Rattle.awk_store.proofs.Calling.{enters}
use Rattle.awk_store.specs.Wholes.{Whole, Agreeing, base, names_in}
use Rattle.awk_streams.specs.Chains.{halt_at, result_at}
use Rattle.awk_store.specs.Acts.{Acts, Passes}
use Rattle.awk_store.specs.Calling.{begun}
use Rattle.awk_store.proofs.Acting.{at_rest, moves, alters, done, faulted}

-- ---- the course is no part of what parameters hold

one-handed : (s : State) (c : Course) (x : calls.Argument) (v : Value) → calls.handed (seen s c) x v
    ≡ calls.handed s x v
one-handed s c (calls.by_value x) v = refl
one-handed s c (calls.by_name (p.global x)) v = refl
one-handed s c (calls.by_name (p.parameter n)) v = refl
one-handed s c calls.by_nothing v = refl

seen-handed : (s : State) (c : Course) (xs : List calls.Argument) (vs : List Value) → all_handed (seen s c) xs vs
    ≡ all_handed s xs vs
seen-handed s c [] vs = refl
seen-handed s c (x ∷ xs) [] = refl
seen-handed s c (x ∷ xs) (v ∷ vs) = ap₂ (λ b bs. b ∷ bs) (one-handed s c x v) (seen-handed s c xs vs)

is_deep : (d : ℕ) → most_depth ≤ d → (b : Bool) → nat_lt d most_depth ≡ b → nat_lt d most_depth ≡ false
is_deep d h true e = absurd (grind (arith, nat_tests))
is_deep d h false e = e

is_shallow : (d : ℕ) → d < most_depth → (b : Bool) → nat_lt d most_depth ≡ b → nat_lt d most_depth ≡ true
is_shallow d h true e = e
is_shallow d h false e = absurd (grind (arith, nat_tests))

-- ---- a call begins

module _ (g : Given) (old : Whole) (place : Place) (n : ℕ) (xs : Arguments) (vs : List Value) (given : List Bound)
    (others : List Bool) (are : others ≡ drop (length vs) (function g.program n).parameters)
    (hold : (hid : Hidden) → all_handed (base g old hid) (arguments xs) vs ≡ map (bound_of (names_in g)) given) where
  abbrev calling : Piece
  calling = Do (Call place n xs vs)

  enter_moves : old.0.depth < most_depth → (k : List Piece) (hid : Hidden) (c : Course) → Agreeing g old hid c →
      advance g (Do (Call place n xs vs) ∷ k) (seen (base g old hid) c)
      ≡ Goes (Do (Each (function g.program n).body) ∷ At (Leave (map (bound_of (names_in g)) old.0.frame)
      (length old.0.made)) [] ∷ k) (seen (base g (changes.entered given others old.0, old.1) hid) c)
  enter_moves below k hid c a =
      rw (
        is_shallow old.0.depth below (nat_lt old.0.depth most_depth) refl,
        seen-handed (base g old hid) c
            (arguments xs) vs,
        hold hid,
        sym are,
      )
      (ap (λ s. Goes (Do (Each (function g.program n).body) ∷ At (Leave (map (bound_of (names_in g)) old.0.frame)
      (length old.0.made)) [] ∷ k) (seen s c)) (enters (names_in g) old.0 hid given others))

  enter_faults : most_depth ≤ old.0.depth → (k : List Piece) (hid : Hidden) (c : Course) → Agreeing g old hid c →
      advance g (Do (Call place n xs vs) ∷ k) (seen (base g old hid) c) ≡ Goes (ends (Faulted fault.CallDepth place))
      (seen (base g old hid) c)
  enter_faults over k hid c a = rw (is_deep old.0.depth over (nat_lt old.0.depth most_depth) refl) refl

  begins : (caller : Caller) (new : Kept) → old.0.depth < most_depth → (caller.frame.items ≡ old.0.frame)
      × (caller.made ≡ length old.0.made) → new ≡ changes.entered given others old.0 →
      Acts g (Do (Call place n xs vs)) (begun g n) old (Ok caller) (new, old.1)
  begins caller new below (frame, made) same =
      subst (λ (x : Kept). Acts g calling (begun g n) old (Ok caller) (x, old.1)) (sym same)
      (done (alters refl (at_rest _ old) (λ k hid c a. (
        hid,
        record { tells = a.tells; row = a.row; cells = a.cells; sound = a.sound },
        enter_moves below k hid c a
            ∙ ap₂ (λ (f : List Bound) (m : ℕ). Goes (Do (Each (function g.program n).body) ∷ At
            (Leave (map (bound_of (names_in g)) f) m) [] ∷ k)
            (seen (base g (changes.entered given others old.0, old.1) hid) c)) (sym frame) (sym made),
      ))))

  begins_not : (new : Kept) (met : Fault) → new ≡ old.0 → (met ≡ fault.Memory)
      ⊎ ((met ≡ fault.CallDepth) × (most_depth ≤ old.0.depth)) → Acts g (Do (Call place n xs vs)) (begun g n) old
      (Err (halt_at place met)) (new, old.1)
  begins_not new met same why = subst (λ (x : Kept). Acts g calling (begun g n) old (Err (halt_at place met))
      (x, old.1)) (sym same) (faulted refl (why_so why))
    where
      why_so : (met ≡ fault.Memory) ⊎ ((met ≡ fault.CallDepth) × (most_depth ≤ old.0.depth)) → (met ≡ fault.Memory)
          ⊎ Passes g calling old (λ k. ends (Faulted met place)) old
      why_so (inl m) = inl m
      why_so (inr (m, over)) =
          inr (moves (at_rest _ old) (λ k hid c a. enter_faults over k hid c a
          ∙ ap (λ x. Goes (ends (Faulted x place)) (seen (base g old hid) c)) (sym m)))

  pub begins_result : (r : Result Caller Fault) (new : Kept) → OnOk r (old.0.depth < most_depth)
      → IfOk r (λ caller. (caller.frame.items ≡ old.0.frame) × (caller.made ≡ length old.0.made)) →
      OnOk r (new ≡ changes.entered given others old.0) → OnErr r (new ≡ old.0)
      → IfErr r (λ e. (e ≡ fault.Memory) ⊎ ((e ≡ fault.CallDepth) × (most_depth ≤ old.0.depth))) →
      Acts g (Do (Call place n xs vs)) (begun g n) old (result_at place r) (new, old.1)
  begins_result (Ok caller) new below holds ok err why = begins caller new below holds ok
  begins_result (Err met) new below holds ok err why = begins_not new met err why

-- ---- a call ends

pub leaves_so : (g : Given) (old : Whole) (caller : Caller) (vs : List Value) (new : Kept)
    → new ≡ changes.left caller.frame.items caller.made old.0 →
    Acts g (At (Leave (map (bound_of (names_in g)) caller.frame.items) caller.made) vs)
    (λ (u : Unit {0}). give (first vs)) old (Ok (tt {0})) (new, old.1)
leaves_so g old caller vs new same =
    subst (λ (x : Kept). Acts g (At (Leave (map (bound_of (names_in g)) caller.frame.items) caller.made) vs)
    (λ (u : Unit {0}). give (first vs)) old (Ok (tt {0})) (x, old.1)) (sym same)
    (done (alters refl (at_rest _ old)
    (λ k hid c a. (hid, record { tells = a.tells; row = a.row; cells = a.cells; sound = a.sound }, refl))))
