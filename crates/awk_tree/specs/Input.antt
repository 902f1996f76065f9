-- What a parser reads from, and the steps that every rule is made of.
use Rattle.std.specs.Prelude.{◌≡◌, ◌≢◌, ℕ, zero, suc, Bool, if◌then◌else◌, ◌==◌, List, [], ◌∷◌, length, Result, Ok, Err}
use Rattle.awk_tokens.specs.declared.token.Token.{Token}
use Rattle.awk_tree.specs.Looks.{skip}
use Rattle.awk_tree.specs.declared.fault.ParseError.{ParseError}
use Rattle.awk_tree.specs.declared.fault.ParseError.TheVariants.{Memory, Unexpected, TooDeep}
use Rattle.awk_tokens.specs.declared.terminals.Terminal.{Terminal}
use Rattle.awk_tree.specs.Terminals.{is, look, ahead}

-- ---- parsers. A fault tells its token by how many were left.

abbrev pub Outcome : Type 0 → Type 0
Outcome A = Result (A × List Token) ParseError

abbrev pub Parser : Type 0 → Type 0
Parser A = List Token → Outcome A

abbrev pub and_then : {A B : Type 0} → Outcome A → (A → Parser B) → Outcome B
and_then (Ok p) f = f p.0 p.1
and_then (Err e) f = Err e

infixl 10 ◌>>=◌
abbrev pub ◌>>=◌ : {A B : Type 0} → Parser A → (A → Parser B) → Parser B
p >>= f = λ ts. and_then (p ts) f

infixl 10 ◌>>◌
abbrev pub ◌>>◌ : {A B : Type 0} → Parser A → Parser B → Parser B
p >> q = p >>= (λ _. q)

abbrev pub pure : {A : Type 0} → A → Parser A
pure a = λ ts. Ok (a, ts)

-- S4 at the next token
abbrev pub refuse : {A : Type 0} → Parser A
refuse = λ ts. Err (Unexpected (length ts))

-- S5 at the token before, which opened a level too much
abbrev pub deep : {A : Type 0} → Parser A
deep = λ ts. Err (TooDeep (suc (length ts)))

-- what stands inside what the token before opened, where levels are left
abbrev pub inside : {A : Type 0} → ℕ → Parser A → Parser A
inside depth p = λ ts. if depth == 0 then deep ts else p ts

-- takes the next token, whatever it is
unfoldable pub any : Parser Token
any [] = Err (Unexpected 0)
any (t ∷ ts) = Ok (t, ts)

-- by the next token, as an expression sees it
abbrev pub choice : {A : Type 0} → (Terminal → Parser A) → Parser A
choice f = λ ts. f (ahead ts) ts

-- by the next token, as it is
abbrev pub by_look : {A : Type 0} → (Terminal → Parser A) → Parser A
by_look f = λ ts. f (look ts) ts

-- the next token, where it is this one
unfoldable pub one : Terminal → Parser Token
one kind = λ ts. if is (ahead ts) kind then any ts else refuse ts

-- the same, told from the others that end an expression
unfoldable pub exactly : Terminal → Parser Token
exactly kind = λ ts. if is (look ts) kind then any ts else refuse ts

abbrev pub skipped : {A : Type 0} → Parser A → Parser A
skipped p = λ ts. p (skip ts)

-- as many as the test finds; the number bounds the turns
unfoldable pub many_from : {A : Type 0} → (Terminal → Bool) → Parser A → ℕ → Parser (List A)
many_from test item zero = λ ts. if test (ahead ts) then refuse ts else Ok ([], ts)
many_from test item (suc n) =
    λ ts. if test (ahead ts) then (item >>= λ x. many_from test item n >>= λ xs. pure (x ∷ xs)) ts else Ok ([], ts)

abbrev pub many : {A : Type 0} → (Terminal → Bool) → Parser A → Parser (List A)
many test item = λ ts. many_from test item (length ts) ts

-- what a function that parses ensures: the parser's outcome, unless memory fails
abbrev pub Reads : {A B : Type 0} → (B → A) → Outcome A → Result B ParseError → List Token → Type 0
Reads view outcome (Ok b) new = outcome ≡ Ok (view b, new)
Reads view outcome (Err e) new = e ≢ Memory → outcome ≡ Err e
