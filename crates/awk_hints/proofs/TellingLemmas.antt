-- What is told of a token, by the kind of the token.
use Rattle.std.proofs.Common.{◌≡◌, ◌∙◌, ◌+◌, ◌<◌, ℕ, Bool, true, false, List, [], ◌∷◌, ◌++◌, ap, sym, subst, length}
use Rattle.std.proofs.Common.{get_or, take, drop, map}
use Rattle.std.specs.List.{All}
use Rattle.std.specs.Prelude.{Option, Some, None, IfSome, codes}
use Rattle.std.specs.Option.{option_to_list}
use Rattle.std.specs.Str.{bytes_eq}
use Rattle.std.proofs.lemmas.List.Elements.{All-nil, All-cons, All-same, All-weaker}
use Rattle.awk_numbers.specs.declared.number.Numbers.{Numbers}
use Rattle.awk_numbers.specs.declared.number.Numbers.TheVariants.{Whole}
use Rattle.awk_tokens.specs.declared.kinds.TokenKind.TheVariants as kind
use Rattle.awk_tokens.specs.declared.token.Token.{Token}
use Rattle.awk_hints.specs.Causes.{Causes, IsNamed, as_function, is_gawk_name, is_between_numbers, is_of_name}
use Rattle.awk_hints.specs.Causes.{is_of_format, is_of_pattern, names_int}
use Rattle.awk_hints.specs.Hints.{AreTold, Tells, next, hint_of}
use Rattle.awk_hints.specs.declared.hint.Hint.{Hint}
use Rattle.awk_hints.proofs.Lists.{take_here, split_here}
use Rattle.awk_hints.specs.declared.hint.HintKind.{HintKind}
use Rattle.awk_hints.specs.declared.hint.HintKind.TheVariants as h

all_of : (numbers : Numbers) (t : Token) (k : Option HintKind) → IfSome k (Causes numbers t) → All (Causes numbers t)
    (option_to_list k)
all_of numbers t None c = All-nil (Causes numbers t)
all_of numbers t (Some x) c = All-cons (Causes numbers t) x [] c (All-nil (Causes numbers t))

-- of a sign
pub sign_told : (numbers : Numbers) (before : List Token) (t : Token) (after : List Token) (excused : Bool)
    (k : Option HintKind)
    (kinds : List HintKind) → t.kind ≡ kind.Sign → kinds ≡ option_to_list k →
    IfSome k (Causes numbers t) → (numbers ≡ Whole → bytes_eq t.text (codes "/=") ≡ true → k ≡ Some h.Division) →
    (numbers ≡ Whole → bytes_eq t.text (codes "/") ≡ true → excused ≡ false → is_between_numbers before after ≡ false
    → k ≡ Some h.Division) → AreTold numbers before t after excused kinds
sign_told numbers before t after excused k kinds s e c sets divides = record {
  caused = All-same (Causes numbers t) kinds (option_to_list k) e (all_of numbers t k c);
  names = λ n g. absurd (cc);
  sets = λ w _ b. e ∙ ap option_to_list (sets w b);
  divides = λ w _ b x n. e ∙ ap option_to_list (divides w b x n);
}

-- of a name that is no function's
pub variable_told : (numbers : Numbers) (before : List Token) (t : Token) (after : List Token) (excused : Bool)
    (k : Option HintKind)
    (kinds : List HintKind) → t.kind ≡ kind.Name → kinds ≡ option_to_list k →
    IfSome k (Causes numbers t) → (is_gawk_name t.text ≡ true → k ≡ Some h.GawkName)
    → AreTold numbers before t after excused kinds
variable_told numbers before t after excused k kinds n e c known = record {
  caused = All-same (Causes numbers t) kinds (option_to_list k) e (all_of numbers t k c);
  names = λ _ g. e ∙ ap option_to_list (known g);
  sets = λ _ s _. absurd (cc);
  divides = λ _ s _ _ _. absurd (cc);
}

-- of any other token
pub other_told : (numbers : Numbers) (before : List Token) (t : Token) (after : List Token) (excused : Bool)
    (kinds : List HintKind)
    → (t.kind ≡ kind.Sign → ⊥) → (t.kind ≡ kind.Name → ⊥) →
    All (Causes numbers t) kinds → AreTold numbers before t after excused kinds
other_told numbers before t after excused kinds no_sign no_name c = record {
  caused = c;
  names = λ n _. absurd (no_name n);
  sets = λ _ s _. absurd (no_sign s);
  divides = λ _ s _ _ _. absurd (no_sign s);
}

pub one_caused : (numbers : Numbers) (t : Token) (k : Option HintKind) (kinds : List HintKind) → kinds
    ≡ option_to_list k
    → IfSome k (Causes numbers t) → All (Causes numbers t) kinds
one_caused numbers t k kinds e c = All-same (Causes numbers t) kinds (option_to_list k) e (all_of numbers t k c)

-- what all that the script does with a name makes of it
pub name_causes : (numbers : Numbers) (t : Token) (k : HintKind) → IsNamed t → is_of_name k ≡ true → Causes numbers t k
unfolding Causes
name_causes numbers t h.Division n e = absurd (cc)
name_causes numbers t (h.Fraction letter) n e = absurd (cc)
name_causes numbers t h.Star n e = absurd (cc)
name_causes numbers t h.WideCharacter n e = absurd (cc)
name_causes numbers t h.EarlyStart n e = absurd (cc)
name_causes numbers t h.LongSeparator n e = absurd (cc)
name_causes numbers t h.GawkName n e = absurd (cc)
name_causes numbers t (h.GawkEscape letter) n e = absurd (cc)
name_causes numbers t h.HexNumber n e = absurd (cc)
name_causes numbers t h.UnsetField n e = absurd (cc)
name_causes numbers t h.Assignment n e = absurd (cc)
name_causes numbers t h.SetOnce n e = n
name_causes numbers t h.ReadOnce n e = n
name_causes numbers t h.OnlyRead n e = n
name_causes numbers t h.Uncalled n e = n
name_causes numbers t h.Unused n e = n

pub name_may_cause : (numbers : Numbers) (t : Token) (k : Option HintKind) → IsNamed t → IfSome k
    (λ x. is_of_name x ≡ true)
    → IfSome k (Causes numbers t)
name_may_cause numbers t None n e = tt
name_may_cause numbers t (Some x) n e = name_causes numbers t x n e

pub format_causes : (numbers : Numbers) (t : Token) (k : HintKind) → t.kind ≡ kind.Quoted → is_of_format k ≡ true
    → Causes numbers t k
unfolding Causes
format_causes numbers t h.Division q e = absurd (cc)
format_causes numbers t (h.Fraction letter) q e = q
format_causes numbers t h.Star q e = q
format_causes numbers t h.WideCharacter q e = q
format_causes numbers t h.EarlyStart q e = absurd (cc)
format_causes numbers t h.LongSeparator q e = absurd (cc)
format_causes numbers t h.GawkName q e = absurd (cc)
format_causes numbers t (h.GawkEscape letter) q e = absurd (cc)
format_causes numbers t h.HexNumber q e = absurd (cc)
format_causes numbers t h.UnsetField q e = absurd (cc)
format_causes numbers t h.Assignment q e = absurd (cc)
format_causes numbers t h.SetOnce q e = absurd (cc)
format_causes numbers t h.ReadOnce q e = absurd (cc)
format_causes numbers t h.OnlyRead q e = absurd (cc)
format_causes numbers t h.Uncalled q e = absurd (cc)
format_causes numbers t h.Unused q e = absurd (cc)

pub formats_cause : (numbers : Numbers) (t : Token) (kinds : List HintKind) → t.kind ≡ kind.Quoted → All
    (λ k. is_of_format k ≡ true) kinds
    → All (Causes numbers t) kinds
formats_cause numbers t kinds q all = All-weaker (λ k. is_of_format k ≡ true) (Causes numbers t)
    (λ k e. format_causes numbers t k q e) kinds
    all

pub pattern_causes : (numbers : Numbers) (t : Token) (k : HintKind) → t.kind ≡ kind.Pattern → is_of_pattern k ≡ true
    → Causes numbers t k
unfolding Causes
pattern_causes numbers t h.Division q e = absurd (cc)
pattern_causes numbers t (h.Fraction letter) q e = absurd (cc)
pattern_causes numbers t h.Star q e = absurd (cc)
pattern_causes numbers t h.WideCharacter q e = absurd (cc)
pattern_causes numbers t h.EarlyStart q e = absurd (cc)
pattern_causes numbers t h.LongSeparator q e = absurd (cc)
pattern_causes numbers t h.GawkName q e = absurd (cc)
pattern_causes numbers t (h.GawkEscape letter) q e = q
pattern_causes numbers t h.HexNumber q e = absurd (cc)
pattern_causes numbers t h.UnsetField q e = absurd (cc)
pattern_causes numbers t h.Assignment q e = absurd (cc)
pattern_causes numbers t h.SetOnce q e = absurd (cc)
pattern_causes numbers t h.ReadOnce q e = absurd (cc)
pattern_causes numbers t h.OnlyRead q e = absurd (cc)
pattern_causes numbers t h.Uncalled q e = absurd (cc)
pattern_causes numbers t h.Unused q e = absurd (cc)

pub patterns_cause : (numbers : Numbers) (t : Token) (kinds : List HintKind) → t.kind ≡ kind.Pattern
    → All (λ k. is_of_pattern k ≡ true) kinds → All (Causes numbers t) kinds
patterns_cause numbers t kinds q all = All-weaker (λ k. is_of_pattern k ≡ true) (Causes numbers t)
    (λ k e. pattern_causes numbers t k q e) kinds
    all

-- ---- one token more

pub next_told : (numbers : Numbers) (tokens : List Token) (i : ℕ) (t : Token) (old new : List Hint) (excused : Bool)
    (kinds : List HintKind)
    → i < length tokens → t ≡ get_or tokens i t → (excused ≡ true → names_int tokens ≡ true) →
    AreTold numbers (take i tokens) t (drop (i + 1) tokens) excused kinds → new ≡ old ++ map (hint_of t) kinds
    → Tells numbers tokens (take i tokens) old → Tells numbers tokens (take (i + 1) tokens) new
next_told numbers tokens i t old new excused kinds below is excuse told added so_far =
    let whole : Tells numbers tokens (take i tokens ++ t ∷ []) (old ++ map (hint_of t) kinds) =
    next (take i tokens) t (drop (i + 1) tokens) old excused kinds (split_here tokens i t below is) so_far excuse told
    in
    subst (λ ys. Tells numbers tokens ys new) (sym (take_here tokens i t below is))
    (subst (λ hs. Tells numbers tokens (take i tokens ++ t ∷ []) hs) (sym added) whole)

-- ---- tokens that are no signs and no variables

pub format_told : (numbers : Numbers) (before : List Token) (t : Token) (after : List Token) (excused : Bool)
    (kinds : List HintKind)
    → t.kind ≡ kind.Quoted → All (λ k. is_of_format k ≡ true) kinds →
    AreTold numbers before t after excused kinds
format_told numbers before t after excused kinds q all = record {
  caused = formats_cause numbers t kinds q all;
  names = λ n _. absurd (cc);
  sets = λ _ s _. absurd (cc);
  divides = λ _ s _ _ _. absurd (cc);
}

pub pattern_told : (numbers : Numbers) (before : List Token) (t : Token) (after : List Token) (excused : Bool)
    (kinds : List HintKind)
    → t.kind ≡ kind.Pattern → All (λ k. is_of_pattern k ≡ true) kinds →
    AreTold numbers before t after excused kinds
pattern_told numbers before t after excused kinds q all = record {
  caused = patterns_cause numbers t kinds q all;
  names = λ n _. absurd (cc);
  sets = λ _ s _. absurd (cc);
  divides = λ _ s _ _ _. absurd (cc);
}

pub function_told : (numbers : Numbers) (before : List Token) (t : Token) (after : List Token) (excused : Bool)
    (k : Option HintKind)
    (kinds : List HintKind) → t.kind ≡ kind.CallName → kinds ≡ option_to_list k →
    IfSome k (λ x. is_of_name x ≡ true) → AreTold numbers before t after excused kinds
function_told numbers before t after excused k kinds q e c = record {
  caused = one_caused numbers t k kinds e (name_may_cause numbers t k (as_function q) c);
  names = λ n _. absurd (cc);
  sets = λ _ s _. absurd (cc);
  divides = λ _ s _ _ _. absurd (cc);
}
