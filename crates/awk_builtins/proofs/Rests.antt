-- Lists, and what was made.
use Rattle.std.proofs.Common.{◌≡◌, ◌==◌, false, refl, ap, sym, ◌∙◌, ℕ, zero, suc, ◌≤◌, ◌<◌, drop, List, [], ◌∷◌, length}
use Rattle.std.proofs.Common.{arith}
use Rattle.std.specs.Prelude.{Option, Some, None, IfSome, Result, Ok, Err, IfOk, IfErr, get_or}
use Rattle.std.specs.Borrow.{Bor}
use Rattle.std.specs.Option.{option_copied}
use Rattle.std.specs.Result.{result_ok}
use Rattle.awk_program.specs.Program.{Expression, expressions_of}
use Rattle.awk_machine.specs.Forms.{listed}
use Rattle.awk_text.specs.declared.value.Value.{Value}

pub listed-of : (xs : List Expression) → listed (expressions_of xs) ≡ xs
listed-of [] = refl
listed-of (x ∷ xs) = ap (λ ys. x ∷ ys) (listed-of xs)

pub just_one : {X : Type 0} (xs : List X) (x : X) → 1 ≤ length xs → length xs < 2 → x ≡ get_or xs 0 x → xs ≡ x ∷ []
just_one [] x some few is = absurd (omega (arith, some))
just_one (y ∷ []) x some few is = ap (λ z. z ∷ []) (sym is)
just_one (y ∷ z ∷ ys) x some few is = absurd (omega (arith, few))

pub just_two : {X : Type 0} (xs : List X) (x y : X) → 2 ≤ length xs → length xs < 3 → x ≡ get_or xs 0 x
    → y ≡ get_or xs 1 y → xs ≡ x ∷ y ∷ []
just_two [] x y some few e f = absurd (omega (arith, some))
just_two (u ∷ []) x y some few e f = absurd (omega (arith, some))
just_two (u ∷ v ∷ []) x y some few e f = ap (λ z. z ∷ v ∷ []) (sym e) ∙ ap (λ z. x ∷ z ∷ []) (sym f)
just_two (u ∷ v ∷ w ∷ xs) x y some few e f = absurd (omega (arith, few))

pub just_three : {X : Type 0} (xs : List X) (x y z : X) → 3 ≤ length xs → length xs < 4 → x ≡ get_or xs 0 x
    → y ≡ get_or xs 1 y → z ≡ get_or xs 2 z → xs ≡ x ∷ y ∷ z ∷ []
just_three [] x y z some few e f h = absurd (omega (arith, some))
just_three (u ∷ []) x y z some few e f h = absurd (omega (arith, some))
just_three (u ∷ v ∷ []) x y z some few e f h = absurd (omega (arith, some))
just_three (u ∷ v ∷ w ∷ []) x y z some few e f h = ap (λ a. a ∷ v ∷ w ∷ []) (sym e) ∙ ap (λ a. x ∷ a ∷ w ∷ []) (sym f)
    ∙ ap (λ a. x ∷ y ∷ a ∷ []) (sym h)
just_three (u ∷ v ∷ w ∷ k ∷ xs) x y z some few e f h = absurd (omega (arith, few))

pub ok_for : {X E : Type 0} {P Q : X → Type 0} (r : Result X E) → ((x : X) → P x → Q x) → IfOk r P → IfOk r Q
ok_for (Ok x) f h = f x h
ok_for (Err e) f h = h

pub err_for : {X E : Type 0} {P Q : E → Type 0} (r : Result X E) → ((e : E) → P e → Q e) → IfErr r P → IfErr r Q
err_for (Ok x) f h = h
err_for (Err e) f h = f e h

pub drop_all : {X : Type 0} (xs : List X) (n : ℕ) → length xs ≤ n → drop n xs ≡ []
drop_all [] zero far = refl
drop_all [] (suc n) far = refl
drop_all (x ∷ xs) zero far = absurd (omega (arith, far))
drop_all (x ∷ xs) (suc n) far = drop_all xs n (omega (arith, far))

pub some_for : {X : Type 0} {P Q : X → Type 0} (r : Option X) → ((x : X) → P x → Q x) → IfSome r P → IfSome r Q
some_for None f h = tt
some_for (Some x) f h = f x h

-- what holds whatever is there
pub some_ever : {X F : Type 0} (r : Option X) → F → IfSome r (λ x. F)
some_ever None f = tt
some_ever (Some x) f = f

-- what a reference shows
pub some_told : {V : Type 0} (r : Option (Bor V)) (o : Option V) → option_copied r ≡ o → IfSome r (λ x. o ≡ Some x.now)
some_told None o e = tt
some_told (Some x) o e = sym e

pub some_both : {X : Type 0} {P Q R : X → Type 0} (r : Option X) → ((x : X) → P x → Q x → R x) → IfSome r P → IfSome r Q
    → IfSome r R
some_both None f p q = tt
some_both (Some x) f p q = f x p q

pub ok_told : {X E : Type 0} (r : Result X E) → IfSome (result_ok r) (λ x. r ≡ Ok x)
ok_told (Ok x) = refl
ok_told (Err e) = tt

-- past the end of a list that is not empty something is done
pub some_done : {X : Type 0} (xs : List X) (n : ℕ) → length xs ≤ n → false ≡ (length xs == 0) → 1 ≤ n
some_done [] n past some = absurd (cc)
some_done (x ∷ xs) n past some = omega (arith, past)

pub ok_some : {X E : Type 0} {P Q : X → Type 0} (r : Result X E) → ((x : X) → P x → Q x) → IfOk r P
    → IfSome (result_ok r) Q
ok_some (Ok x) f h = f x h
ok_some (Err e) f h = tt

abbrev pub value_some : Value → Option Value
value_some x = Some x
