-- What is told of terminals by their numbers, and what of a token by the look-ahead.
use Rattle.std.proofs.Common.{◌≡◌, ℕ, Bool, true, false, cond, if◌then◌else◌, List, [], ◌∷◌, get_or, refl, sym, ap, ◌∙◌}
use Rattle.std.proofs.Common.{◌==◌, ◌&&◌, not, Option, Some, None}
use Rattle.std.proofs.lemmas.Bool.{eqb-true}
use Rattle.std.specs.Str.{bytes_eq}
use Rattle.awk_tokens.specs.declared.token.Token.{Token}
use Rattle.awk_tokens.specs.declared.kinds.TokenKind.{TokenKind}
use Rattle.awk_tokens.specs.declared.kinds.TokenKind.TheVariants as kind
use Rattle.awk_tree.specs.Tree.{Text}
use Rattle.awk_tokens.specs.declared.terminals.Terminal.{Terminal}
use Rattle.awk_tokens.specs.declared.terminals.Terminal.TheVariants as w
use Rattle.awk_tree.specs.Terminals.{number_of, is, seen, look, ahead, terminal, terminal_of, sign_of, word_in, byte_in}
use Rattle.awk_tree.specs.Terminals.{singles, doubles}
use Rattle.awk_tokens.specs.Words.{words, lookup, keyword_of, builtin_of}

pub both_true : (a b : Bool) → (a && b) ≡ true → (a ≡ true) × (b ≡ true)
both_true true true h = (refl, refl)
both_true true false h = absurd cc
both_true false b h = absurd cc

abbrev terminals : List Terminal
terminals = w.End ∷ w.Newline ∷ w.Semicolon ∷ w.CloseBrace ∷ w.OpenBrace ∷ w.OpenParen ∷ w.CloseParen ∷ w.OpenBracket ∷
    w.CloseBracket ∷ w.Comma ∷ w.Number ∷ w.Quoted ∷ w.Pattern ∷ w.Name ∷ w.CallName ∷ w.Refused ∷ w.Plus ∷ w.Minus ∷
    w.Star ∷ w.Slash ∷ w.Percent ∷ w.Caret ∷ w.Not ∷ w.Greater ∷ w.Less ∷ w.Bar ∷ w.BarGetline ∷ w.Question ∷ w.Colon ∷
    w.Tilde ∷ w.Dollar ∷ w.Refused ∷ w.Equal ∷ w.LessOrEqual ∷ w.GreaterOrEqual ∷ w.NotEqual ∷ w.NotTilde ∷ w.Refused ∷
    w.And ∷ w.Or ∷ w.Append ∷ w.BeginWord ∷ w.EndWord ∷ w.Refused ∷ w.Delete ∷ w.Do ∷ w.Else ∷ w.Exit ∷ w.For ∷
    w.Function ∷ w.Getline ∷ w.If ∷ w.In ∷ w.Print ∷ w.Printf ∷ w.Return ∷ w.While ∷ w.Refused ∷ []

abbrev terminal_at : ℕ → Terminal
terminal_at n = get_or terminals n w.End

-- a terminal of which there is one kind alone
abbrev pub single : Terminal → Bool
single (w.Builtin which) = false
single (w.Assign how) = false
single (w.Step which) = false
single (w.Jump which) = false
single other = true

number_again : (a : Terminal) → single a ≡ true → terminal_at (number_of a) ≡ a
number_again (w.Builtin which) s = absurd cc
number_again (w.Assign how) s = absurd cc
number_again (w.Step which) s = absurd cc
number_again (w.Jump which) s = absurd cc
number_again _ s = refl

same_number : (a b : Terminal) → is a b ≡ true → number_of a ≡ number_of b
same_number a b h = eqb-true (number_of a) (number_of b) h

-- the terminal with a number, where it is one of a single kind
numbered : (a b : Terminal) → single b ≡ true → is a b ≡ true → terminal_at (number_of a) ≡ b
numbered a b s h = ap terminal_at (same_number a b h) ∙ number_again b s

pub is-true : (a b : Terminal) → single b ≡ true → is a b ≡ true → a ≡ b
is-true (w.Builtin which) b s h = absurd (let e : w.Refused ≡ b = numbered (w.Builtin which) b s h in
    let f : false ≡ true = ap (is (w.Builtin which)) e ∙ h in cc)
is-true (w.Assign which) b s h = absurd (let e : w.Refused ≡ b = numbered (w.Assign which) b s h in
    let f : false ≡ true = ap (is (w.Assign which)) e ∙ h in cc)
is-true (w.Step which) b s h = absurd (let e : w.Refused ≡ b = numbered (w.Step which) b s h in
    let f : false ≡ true = ap (is (w.Step which)) e ∙ h in cc)
is-true (w.Jump which) b s h = absurd (let e : w.Refused ≡ b = numbered (w.Jump which) b s h in
    let f : false ≡ true = ap (is (w.Jump which)) e ∙ h in cc)
is-true a b s h = sym (number_again a refl) ∙ numbered a b s h

-- ---- the token that is seen

-- a terminal that an expression sees as it is
abbrev pub steady : Terminal → Bool
steady w.End = false
steady w.Newline = false
steady w.Semicolon = false
steady w.CloseBrace = false
steady w.Bar = false
steady w.BarGetline = false
steady other = true

seen_steady : (v : Terminal) (b : Bool) → steady (seen v b) ≡ true → seen v b ≡ v
seen_steady w.Newline b s = absurd cc
seen_steady w.Semicolon b s = absurd cc
seen_steady w.CloseBrace b s = absurd cc
seen_steady w.Bar true s = absurd cc
seen_steady w.Bar false s = refl
seen_steady _ b s = refl

steady_seen : (v : Terminal) (b : Bool) → steady v ≡ true → seen v b ≡ v
steady_seen w.Newline b s = absurd cc
steady_seen w.Semicolon b s = absurd cc
steady_seen w.CloseBrace b s = absurd cc
steady_seen w.Bar b s = absurd cc
steady_seen _ b s = refl

-- what is seen is what stands there
pub terminal_is : (kind : Terminal) (t : Token) (ts : List Token) → steady kind ≡ true → ahead (t ∷ ts) ≡ kind
    → terminal t ≡ kind
terminal_is kind t ts s e = sym (seen_steady (terminal t) (is (look ts) w.Getline) (ap steady e ∙ s)) ∙ e

-- what stands there is seen
pub ahead_is : (kind : Terminal) (t : Token) (ts : List Token) → steady kind ≡ true → terminal t ≡ kind
    → ahead (t ∷ ts) ≡ kind
ahead_is kind t ts s e = steady_seen (terminal t) (is (look ts) w.Getline) (ap steady e ∙ s) ∙ e

-- ---- no token is what only a look-ahead sees

abbrev no_bar_getline : List (Text × Terminal) → Bool
no_bar_getline [] = true
no_bar_getline (entry ∷ entries) = if is entry.1 w.BarGetline then false else no_bar_getline entries

abbrev no_byte_getline : List (ℕ × Terminal) → Bool
no_byte_getline [] = true
no_byte_getline (entry ∷ entries) = if is entry.1 w.BarGetline then false else no_byte_getline entries

not_both : (b c : Bool) → cond b false c ≡ true → (b ≡ false) × (c ≡ true)
not_both true c h = absurd cc
not_both false c h = (refl, h)

either : (b : Bool) (x y : Terminal) → is x w.BarGetline ≡ false → is y w.BarGetline ≡ false
    → is (cond b x y) w.BarGetline ≡ false
either true x y h k = h
either false x y h k = k

-- what is found is no bar before getline
abbrev found_plain : Option Terminal → Bool
found_plain None = true
found_plain (Some v) = not (is v w.BarGetline)

either_found : (b : Bool) (v : Terminal) (found : Option Terminal) → is v w.BarGetline ≡ false
    → found_plain found ≡ true → found_plain (cond b (Some v) found) ≡ true
either_found true v found h k = rw h refl
either_found false v found h k = k

word_plain : (entries : List (Text × Terminal)) (text : Text) → no_bar_getline entries ≡ true
    → is (word_in entries text) w.BarGetline ≡ false
word_plain [] text h = refl
word_plain (entry ∷ entries) text h =
    let k = not_both (is entry.1 w.BarGetline) (no_bar_getline entries) h in
    either (bytes_eq entry.0 text) entry.1 (word_in entries text) k.0 (word_plain entries text k.1)

byte_plain : (entries : List (ℕ × Terminal)) (byte : ℕ) → no_byte_getline entries ≡ true
    → is (byte_in entries byte) w.BarGetline ≡ false
byte_plain [] byte h = refl
byte_plain (entry ∷ entries) byte h =
    let k = not_both (is entry.1 w.BarGetline) (no_byte_getline entries) h in
    either (entry.0 == byte) entry.1 (byte_in entries byte) k.0 (byte_plain entries byte k.1)

sign_plain : (text : Text) → is (sign_of text) w.BarGetline ≡ false
sign_plain [] = word_plain doubles [] refl
sign_plain (c ∷ []) = byte_plain singles c refl
sign_plain (c ∷ d ∷ text) = word_plain doubles (c ∷ d ∷ text) refl

words_plain : (entries : List (Text × Terminal)) (text : Text) → no_bar_getline entries ≡ true
    → found_plain (lookup entries text) ≡ true
words_plain [] text h = refl
words_plain (entry ∷ entries) text h =
    let k = not_both (is entry.1 w.BarGetline) (no_bar_getline entries) h in
    either_found (bytes_eq entry.0 text) entry.1 (lookup entries text) k.0 (words_plain entries text k.1)

keyword_plain : (found : Option Terminal) → found_plain found ≡ true → is (keyword_of found) w.BarGetline ≡ false
keyword_plain None h = refl
keyword_plain (Some v) h = not_is v h where
  not_is : (v : Terminal) → not (is v w.BarGetline) ≡ true → is (keyword_of (Some v)) w.BarGetline ≡ false
  not_is w.BarGetline h = absurd cc
  not_is _ h = refl

builtin_plain : (found : Option Terminal) → is (builtin_of found) w.BarGetline ≡ false
builtin_plain None = refl
builtin_plain (Some v) = it v where
  it : (v : Terminal) → is (builtin_of (Some v)) w.BarGetline ≡ false
  it (w.Builtin which) = refl
  it _ = refl

terminal_plain : (k : TokenKind) (text : Text) → is (terminal_of k text) w.BarGetline ≡ false
unfolding terminal_of
terminal_plain kind.Number text = refl
terminal_plain kind.Quoted text = refl
terminal_plain kind.Pattern text = refl
terminal_plain kind.Keyword text = keyword_plain (lookup words text) (words_plain words text refl)
terminal_plain kind.Builtin text = builtin_plain (lookup words text)
terminal_plain kind.Refused text = refl
terminal_plain kind.Name text = refl
terminal_plain kind.CallName text = refl
terminal_plain kind.Sign text = sign_plain text

bar_from : (v : Terminal) (b : Bool) → is v w.BarGetline ≡ false → seen v b ≡ w.BarGetline → v ≡ w.Bar
bar_from w.Bar b h k = refl
bar_from w.BarGetline b h k = absurd cc
bar_from w.Newline b h k = absurd cc
bar_from w.Semicolon b h k = absurd cc
bar_from w.CloseBrace b h k = absurd cc
bar_from _ b h k = absurd cc

pub bar_is : (t : Token) (ts : List Token) → ahead (t ∷ ts) ≡ w.BarGetline → terminal t ≡ w.Bar
bar_is t ts h = bar_from (terminal t) (is (look ts) w.Getline) (terminal_plain t.kind t.text) h
