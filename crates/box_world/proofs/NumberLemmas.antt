-- What opening and shutting keep of the numbers that are open.
use Rattle.std.proofs.Common.{◌≡◌, ℕ, ◌+◌, ◌==◌, Less, Equal, Greater, Bool, true, false, cond, nat_eq, nat_lt, List}
use Rattle.std.proofs.Common.{[], ◌∷◌, ◌++◌, refl, ap, arith}
use Rattle.std.proofs.lemmas.Bool.Decides.{nat_tests}
use Rattle.std.proofs.Math.Path.{fun_ext}
use Rattle.std.specs.BTreeMap.{insert_entry, is_at}
use Rattle.std.specs.Map.{keys_of, remove_entry}
use Rattle.std.specs.Ordering.{nat_cmp, is_eq}
use Rattle.box_world.specs.Calls.{is_among}
use Rattle.box_world.specs.MemoryNumbers.{AllBelow}

-- a number that is past all of them is not among them
pub is_among-next : (next : ℕ) (ks : List ℕ) → AllBelow next ks → is_among ks next ≡ false
is_among-next next [] below = refl
is_among-next next (k ∷ ks) below =
    let other : nat_eq k next ≡ false = grind (arith, nat_tests) in
    rw other (is_among-next next ks below.1)

-- a map finds a number where its order says that it is equal
pub is_at-number : (n : ℕ) → is_at (nat_cmp n) ≡ (λ k. k == n)
is_at-number n = fun_ext (λ k. by k (nat_lt n k) refl (nat_eq n k) refl)
  where
    by : (k : ℕ) (less : Bool) → nat_lt n k ≡ less → (same : Bool) → nat_eq n k ≡ same
        → is_eq (cond less Less (cond same Equal Greater)) ≡ nat_eq k n
    by k true p same q = let other : nat_eq k n ≡ false = grind (arith, nat_tests) in rw other refl
    by k false p true q = let equal : nat_eq k n ≡ true = grind (arith, nat_tests) in rw equal refl
    by k false p false q = let other : nat_eq k n ≡ false = grind (arith, nat_tests) in rw other refl

module _ {X : Type 0} where
  -- a key that is past all others goes last
  pub insert_entry-next : (next : ℕ) (x : X) (es : List (ℕ × X)) → AllBelow next (keys_of es)
      → insert_entry nat_cmp es next x ≡ es ++ (next, x) ∷ []
  insert_entry-next next x [] below = refl
  insert_entry-next next x (e ∷ es) below =
      let not_less : nat_lt next e.0 ≡ false = grind (arith, nat_tests) in
      let other : nat_eq next e.0 ≡ false = grind (arith, nat_tests) in
      rw (not_less, other) (ap (λ l. e ∷ l) (insert_entry-next next x es below.1))

  pub AllBelow-push : (next : ℕ) (x : X) (es : List (ℕ × X)) → AllBelow next (keys_of es)
      → AllBelow (next + 1) (keys_of (es ++ (next, x) ∷ []))
  AllBelow-push next x [] below = (omega arith, tt)
  AllBelow-push next x (e ∷ es) below = (omega arith, AllBelow-push next x es below.1)

  pub AllBelow-remove : (next : ℕ) (test : ℕ → Bool) (es : List (ℕ × X)) → AllBelow next (keys_of es)
      → AllBelow next (keys_of (remove_entry test es))
  AllBelow-remove next test [] below = tt
  AllBelow-remove next test (e ∷ es) below = by (test e.0) (AllBelow-remove next test es below.1)
    where
      by : (b : Bool) → AllBelow next (keys_of (remove_entry test es))
          → AllBelow next (keys_of (cond b es (e ∷ remove_entry test es)))
      by true rest = below.1
      by false rest = (below.0, rest)
