-- Texts made piece by piece: the laws that join the pieces to the whole.
use Rattle.std.proofs.Common.{◌≡◌, ℕ, ◌+◌, ◌≤◌, ◌<◌, Bool, true, false, List, [], ◌∷◌, ◌++◌, length, get_or, take, drop}
use Rattle.std.proofs.Common.{suc, ◌-◌, Option, Some, refl, sym, ap, ◌∙◌, append_assoc, append-nil, length-append}
use Rattle.std.proofs.Common.{arith}
use Rattle.std.proofs.lemmas.Bool.Decides.{nat_tests}
use Rattle.std.proofs.Math.Seq.{drop-cons}
use Rattle.std.proofs.lemmas.List.{take_rest}
use Rattle.std.specs.Prelude.{nat_le}
use Rattle.std.specs.List.{flat_map}
use Rattle.awk_text.specs.declared.value.Value.{Value}
use Rattle.awk_text.specs.Values.{text_of}
use Rattle.awk_text.specs.Limits.{most_bytes}
use Rattle.awk_fields.specs.Rows.{joined}
use Rattle.awk_format.specs.Formatted.{within}
use Rattle.awk_lib.specs.Written.{written}
use Rattle.awk_lib.proofs.Making.{written-written}
use Rattle.awk_machine.specs.Operators.{limited}
use Rattle.awk_builtins.specs.Lines.{held}

-- the text that is kept is the text within the limit
within_held_by : (b : Bool) (text : List ℕ) → nat_le (length text) most_bytes ≡ b → within (held text) ≡ limited text
within_held_by true text e = rw e refl
within_held_by false text e = rw e refl

pub within_held : (text : List ℕ) → within (held text) ≡ limited text
within_held text = within_held_by (nat_le (length text) most_bytes) text refl

-- one more piece of what is kept
pub written_held : (text piece : List ℕ) → written (held text) piece ≡ held (text ++ piece)
written_held text piece = grind (arith, nat_tests, length-append {A = ℕ})

-- one more value behind a separator
pub flat_map_more : (f : Value → List ℕ) (xs : List Value) (x : Value) → flat_map f (xs ++ x ∷ []) ≡ flat_map f xs
    ++ f x
flat_map_more f [] x = append-nil (f x)
flat_map_more f (y ∷ ys) x = ap (λ t. f y ++ t) (flat_map_more f ys x) ∙ sym (append_assoc (f y) (flat_map f ys) (f x))

pub joined_more : (separator : List ℕ) (x : Value) (xs : List Value) (y : Value)
    → joined separator ((x ∷ xs) ++ y ∷ []) ≡ joined separator (x ∷ xs) ++ (separator ++ text_of y)
joined_more separator x xs y =
    ap (λ t. text_of x ++ t) (flat_map_more (λ v. separator ++ text_of v) xs y)
    ∙ sym (append_assoc (text_of x) (flat_map (λ v. separator ++ text_of v) xs) (separator ++ text_of y))

-- a kept text of values, with a separator and one more value added
pub joined_add : (separator : List ℕ) (x : Value) (xs : List Value) (y : Value)
    → written (written (held (joined separator (x ∷ xs))) separator) (text_of y)
    ≡ held (joined separator ((x ∷ xs) ++ y ∷ []))
joined_add separator x xs y =
    written-written (held (joined separator (x ∷ xs))) separator (text_of y)
    ∙ written_held (joined separator (x ∷ xs)) (separator ++ text_of y)
    ∙ ap held (sym (joined_more separator x xs y))

-- the first value alone
pub joined_one : (separator : List ℕ) (x : Value) → joined separator (x ∷ []) ≡ text_of x
joined_one separator x = append-nil (text_of x)

-- ---- all the values of a list

-- the first piece
pub begun : (text more : List ℕ) → written (written (Some []) text) more ≡ held (text ++ more)
begun text more = written-written (Some []) text more ∙ written_held [] (text ++ more)

-- a separator and a value come to the front of what is still to come
pub one_more : (o : Option (List ℕ)) (separator : List ℕ) (x : Value) (xs : List Value) (more : List ℕ)
    → written (written (written o separator) (text_of x)) (flat_map (λ v. separator ++ text_of v) xs ++ more)
    ≡ written o (flat_map (λ v. separator ++ text_of v) (x ∷ xs) ++ more)
one_more o separator x xs more =
    let later = flat_map (λ v. separator ++ text_of v) xs in
    ap (λ t. written t (later ++ more)) (written-written o separator (text_of x))
    ∙ written-written o (separator ++ text_of x) (later ++ more)
    ∙ ap (written o) (sym (append_assoc (separator ++ text_of x) later more))

-- the whole of a list of values, with what ends it
pub whole : (o o1 : Option (List ℕ)) (separator : List ℕ) (x : Value) (xs : List Value) (end : List ℕ)
    → o ≡ written (Some []) (text_of x)
    → ((more : List ℕ) → written o1 more ≡ written o (flat_map (λ v. separator ++ text_of v) xs ++ more))
    → written o1 end ≡ held (joined separator (x ∷ xs) ++ end)
whole o o1 separator x xs end first others =
    let later = flat_map (λ v. separator ++ text_of v) xs in
    others end
    ∙ ap (λ t. written t (later ++ end)) first
    ∙ begun (text_of x) (later ++ end)
    ∙ ap held (sym (append_assoc (text_of x) later end))

-- the value at a place of a list is put behind a separator, and the values behind it are still to come
pub next_value : (separator : List ℕ) (vs : List Value) (start o o1 o2 : Option (List ℕ)) (x : Value) (i : ℕ)
    → x ≡ get_or vs i x → i < length vs
    → o1 ≡ written o separator → o2 ≡ written o1 (text_of x)
    → ((more : List ℕ) → written o (flat_map (λ v. separator ++ text_of v) (drop i vs) ++ more) ≡ written start
    (flat_map (λ v. separator ++ text_of v) vs ++ more))
    → (more : List ℕ) → written o2 (flat_map (λ v. separator ++ text_of v) (drop (i + 1) vs) ++ more) ≡ written start
    (flat_map (λ v. separator ++ text_of v) vs ++ more)
next_value separator vs start o o1 o2 x i is inside one two before more =
    let one_behind : suc i ≡ i + 1 = omega arith in
    let here : drop i vs ≡ x ∷ drop (i + 1) vs =
    drop-cons vs i x inside ∙ ap (λ y. y ∷ drop (suc i) vs) (sym is) ∙ ap (λ n. x ∷ drop n vs) one_behind in
    ap (λ t. written t (flat_map (λ v. separator ++ text_of v) (drop (i + 1) vs) ++ more))
    (two ∙ ap (λ t. written t (text_of x)) one)
    ∙ one_more o separator x (drop (i + 1) vs) more
    ∙ ap (λ l. written o (flat_map (λ v. separator ++ text_of v) l ++ more)) (sym here)
    ∙ before more

-- a list's first value, and the others
pub first_and_others : (vs : List Value) (x : Value) → 1 ≤ length vs → x ≡ get_or vs 0 x
    → vs ≡ x ∷ take (length vs - 1) (drop 1 vs)
first_and_others [] x some is = absurd (omega (arith, some))
first_and_others (y ∷ ys) x some is =
    let all : take (length (y ∷ ys) - 1) ys ≡ ys = grind (arith, take_rest ys 0) in
    ap (λ z. z ∷ ys) (sym is) ∙ ap (λ l. x ∷ l) (sym all)
