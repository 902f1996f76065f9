-- Forms that wait for a list of values.
use Rattle.std.proofs.Common.{◌≡◌, refl, sym, ap, subst, ◌∙◌, ◌+◌, List, [], ◌∷◌, ◌++◌, length, reverse, take, drop}
use Rattle.std.proofs.Common.{arith}
use Rattle.std.specs.Prelude.{Bool, true, false, if◌then◌else◌, nat_le, Result, Ok, Err, IfOk, Some, None}
use Rattle.std.proofs.lemmas.List.{reverse-reverse, length-reverse, reverse-append, length-append}
use Rattle.std.proofs.lemmas.Option.{slice_get_past}
use Rattle.awk_fields.specs.Rows.{joined}
use Rattle.awk_text.specs.declared.place.Place.{Place}
use Rattle.awk_text.specs.declared.value.Value.{Value}
use Rattle.awk_text.specs.declared.fault.Fault.{Fault}
use Rattle.awk_text.specs.declared.fault.Fault.TheVariants.{TextTooLong}
use Rattle.awk_text.specs.Limits.{most_bytes}
use Rattle.awk_text.specs.Values.{text_of}
use Rattle.awk_program.specs.Program as p
use Rattle.awk_program.specs.Program.{Expression}
use Rattle.awk_program.specs.View.{variable_of}
use Rattle.awk_program.specs.declared.variables.Variable.{Variable}
use Rattle.awk_lib.specs.Arrays.{without}
use Rattle.awk_machine.specs.Advances.{advance, held}
use Rattle.awk_machine.specs.Variables as variables
use Rattle.awk_program.specs.declared.statements.Redirection.{Redirection}
use Rattle.awk_program.specs.declared.variables.Own.TheVariants as own
use Rattle.awk_machine.specs.Forms.{each_of, each_by, keyed}
use Rattle.awk_machine.specs.Operators.{limited}
use Rattle.awk_machine.specs.Pieces.{Part, Piece, At, Doing, Then, Goes, granted, ends, Faulted}
use Rattle.awk_machine.specs.Printing.{print_by, output}
use Rattle.awk_machine.specs.Builtins.{first}
use Rattle.awk_machine.specs.State.{State, Course, Given}
use Rattle.awk_machine.specs.Streams.{seen}
use Rattle.awk_program.specs.Slots.{Text}
use Rattle.awk_store.specs.Changes as changes
use Rattle.awk_store.specs.Kept as kept
use Rattle.awk_store.specs.States.{Hidden}
use Rattle.awk_store.specs.Wholes.{Whole, Agreeing, base, names_in}
use Rattle.awk_streams.specs.Tasks.{goes_on}
use Rattle.awk_streams.specs.Chains.{result_at}
use Rattle.awk_store.specs.Acts.{Acts}
use Rattle.awk_store.proofs.Acting.{at_rest, alters, done}
use Rattle.awk_store.proofs.ArraySteps.{array-set, array_agrees, array_used}
use Rattle.awk_store.proofs.Agreeing.{own-text-so, array-so}
use Rattle.awk_builtins.specs.Outputs.{to_standard, to_stream}

abbrev text_ok : Text → Result Text Fault
text_ok x = Ok x

-- once all are there, the form goes on with them
pub all_there : (xs : List Expression) (part : Part) (f : List Value → Then) (vs : List Value) (k : List Piece)
    (s : State) → length xs ≡ length vs → each_of xs part f (reverse vs) k s ≡ f vs k s
all_there xs part f vs k s e =
    ap (λ o. each_by o part f (reverse vs) k s) (slice_get_past xs (length (reverse vs)) (let a = length-reverse vs in
    omega (arith, a, e))) ∙ ap (λ us. f us k s) (reverse-reverse vs)

-- the key is made of the store's SUBSEP
pub keyed_so : (g : Given) (w : Whole) (hid : Hidden) (c : Course) → Agreeing g w hid c
    → (place : Place) (vs : List Value) (f : Text → Then) (k : List Piece) →
    keyed place vs f k (seen (base g w hid) c) ≡ granted place (limited (joined (kept.own_text w.0 own.Subsep) vs)) f k
    (seen (base g w hid) c)
keyed_so g w hid c a place vs f k = ap (λ by. granted place (limited (joined by vs)) f k (seen (base g w hid) c))
    (own-text-so g w hid c a own.Subsep)

-- ---- print and printf

nil_right : {X : Type 0} (xs : List X) → xs ++ [] ≡ xs
nil_right [] = refl
nil_right (x ∷ xs) = ap (λ ys. x ∷ ys) (nil_right xs)

take_all : {X : Type 0} (xs ys : List X) → take (length xs) (xs ++ ys) ≡ xs
take_all [] [] = refl
take_all [] (y ∷ ys) = refl
take_all (x ∷ xs) ys = ap (λ zs. x ∷ zs) (take_all xs ys)

drop_all_of : {X : Type 0} (xs ys : List X) → drop (length xs) (xs ++ ys) ≡ ys
drop_all_of [] ys = refl
drop_all_of (x ∷ xs) ys = drop_all_of xs ys

module _ (text : State → List Value → Result Text Fault) (place : Place) (xs : List Expression) (part : Part) where
  pub printed_none : (vs : List Value) (k : List Piece) (s : State) → length xs ≡ length vs
      → print_by text place xs None part (reverse vs) k s ≡ granted place (text s vs)
      (λ t k s. Goes (to_standard place t k) s) k s
  printed_none vs k s e =
      all_there (xs ++ []) part (λ us k s. granted place (text s (take (length xs) us))
      (output place None (first (drop (length xs) us))) k s) vs k s (ap length (nil_right xs) ∙ e)
      ∙ ap (λ us. granted place (text s us) (λ t k s. Goes (to_standard place t k) s) k s) (ap (λ n. take n vs) e
      ∙ sym (ap (take (length vs)) (nil_right vs)) ∙ take_all vs [])

  pub printed_some : (r : Redirection Expression) (name : Value) (vs : List Value) (k : List Piece) (s : State)
      → length xs ≡ length vs →
      print_by text place xs (Some r) part (name ∷ reverse vs) k s ≡ granted place (text s vs)
      (λ t k s. Goes (to_stream r name t k) s) k s
  printed_some r name vs k s e =
      ap (λ us. print_by text place xs (Some r) part us k s) (sym (reverse-append vs (name ∷ [])))
      ∙ all_there (xs ++ r.target ∷ []) part (λ us k s. granted place (text s (take (length xs) us))
      (output place (Some r) (first (drop (length xs) us))) k s) (vs ++ name ∷ []) k s
      (length-append xs (r.target ∷ []) ∙ ap (λ n. n + 1) e ∙ sym (length-append vs (name ∷ [])))
      ∙ ap (λ n. granted place (text s (take n (vs ++ name ∷ [])))
      (output place (Some r) (first (drop n (vs ++ name ∷ [])))) k s) e
      ∙ ap (λ us. granted place (text s us) (output place (Some r) (first (drop (length vs) (vs ++ name ∷ [])))) k s)
      (take_all vs (name ∷ []))
      ∙ ap (λ us. granted place (text s vs) (output place (Some r) (first us)) k s) (drop_all_of vs (name ∷ []))

-- ---- delete

module _ (g : Given) (w : Whole) (place : Place) (x : Variable) (xs : List Expression) (vs : List Value)
    (e : length xs ≡ length vs) where
  abbrev removing : Piece
  removing = At (Doing (p.delete place (variable_of (names_in g) x) xs)) (reverse vs)

  abbrev then_remove : Text → Then
  then_remove key k s =
      Goes k (variables.with_array (variable_of (names_in g) x)
      (without (variables.array s (variable_of (names_in g) x)) key) s)

  by_key : (made : Result Text Fault) → limited (joined (kept.own_text w.0 own.Subsep) vs) ≡ made
      → (k : List Piece) (hid : Hidden) (c : Course) → Agreeing g w hid c →
      advance g (removing ∷ k) (seen (base g w hid) c) ≡ held g (seen (base g w hid) c)
      (granted place made then_remove k (seen (base g w hid) c))
  by_key made is k hid c a = ap (held g (seen (base g w hid) c))
      (all_there xs (Doing (p.delete place (variable_of (names_in g) x) xs)) (λ us. keyed place us then_remove) vs k
      (seen (base g w hid) c) e ∙ keyed_so g w hid c a place vs then_remove k
      ∙ ap (λ m. granted place m then_remove k (seen (base g w hid) c)) is)

  pub removes_so : (key : Text) (new : kept.Kept) → limited (joined (kept.own_text w.0 own.Subsep) vs) ≡ Ok key
      → new ≡ changes.with_array (kept.reference w.0 x) (without (kept.array w.0 x) key) w.0 →
      Acts g removing goes_on w (Ok (tt {0})) (new, w.1)
  removes_so key new is same = subst (λ n. Acts g removing goes_on w (Ok (tt {0})) (n, w.1)) (sym same)
      (done (alters (array_used g w x (without (kept.array w.0 x) key)) (at_rest _ w) (λ k hid c a. (
        hid,
        array_agrees g w x (without (kept.array w.0 x) key) hid c a,
        by_key (Ok key) is k hid c a
            ∙ ap (λ arr. Goes k (variables.with_array (variable_of (names_in g) x) (without arr key)
            (seen (base g w hid) c))) (array-so g w hid c a x)
            ∙ ap (λ s. Goes k s) (array-set g w x (without (kept.array w.0 x) key) hid c a),
      ))))

  pub removes_not : (f : Fault) → limited (joined (kept.own_text w.0 own.Subsep) vs) ≡ Err f
      → (k : List Piece) (hid : Hidden) (c : Course) → Agreeing g w hid c →
      advance g (removing ∷ k) (seen (base g w hid) c) ≡ Goes (ends (Faulted f place)) (seen (base g w hid) c)
  removes_not f is k hid c a = by_key (Err f) is k hid c a

-- ---- the key that one subscript is

limited_is : (t u : Text) → limited t ≡ Ok u → limited t ≡ Ok t
limited_is t u e = by_room (nat_le (length t) most_bytes) e
  where
    by_room : (b : Bool) → (if b then text_ok t else Err TextTooLong) ≡ Ok u
        → (if b then text_ok t else Err TextTooLong) ≡ Ok t
    by_room true e = refl
    by_room false e = absurd (cc)

pub key_is : {X : Type 0} (now : X → Text) (place : Place) (made : Result X Fault) (y : X) (s : Value)
    → IfOk made (λ x. (by : Text) → limited (joined by (s ∷ [])) ≡ Ok (now x)) →
    result_at place made ≡ Ok y → (by : Text) → limited (joined by (s ∷ [])) ≡ Ok (text_of s)
key_is now place (Ok x) y s ok is by = limited_is (text_of s ++ []) (now x) (ok by) ∙ ap text_ok (nil_right (text_of s))
key_is now place (Err f) y s ok is by = absurd (cc)
