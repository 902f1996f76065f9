-- The tokens of the code.
use Rattle.std.proofs.Common.{◌≡◌, ℕ, ◌+◌, ◌≤◌, Bool, true, false, List, [], ◌∷◌, ◌++◌, length, get_or, if◌then◌else◌}
use Rattle.std.proofs.Common.{Some, None, option_map, refl, sym, ◌∙◌, ap, append_assoc}
use Rattle.awk_ere.specs.Pattern.{bytes}
use Rattle.awk_ere.specs.Interval.{Times, is_allowed, factor, interval}
use Rattle.awk_ere.specs.Bracket.{in_set, bracket}
use Rattle.awk_ere.specs.Token as spec
use Rattle.awk_ere.specs.Lexing.{has, IsSet, IsTimes, Later, IsAtom, IsToken, IsFront}
use Rattle.awk_ere.specs.declared.error.EreFault.{EreFault}
use Rattle.awk_ere.specs.declared.error.EreFault.TheVariants.{Interval}
use Rattle.awk_ere.specs.declared.front.Lead.{Lead}
use Rattle.awk_ere.specs.declared.token.Class.{Class}
use Rattle.awk_ere.specs.declared.token.Class.TheVariants.{One, Any, In}
use Rattle.awk_ere.specs.declared.token.Times as code
use Rattle.awk_ere.specs.declared.token.Token.{Token}
use Rattle.awk_ere.specs.declared.token.Token.TheVariants.{Atom, Start, End, Repeat, Opening, Closing, Bar}
use Rattle.awk_ere.proofs.Fronts.{behind, first_behind}

append_none : (xs : List (List Bool)) → xs ++ [] ≡ xs
append_none [] = refl
append_none (x ∷ xs) = ap (λ ys. x ∷ ys) (append_none xs)

pub later_same : (sets : List (List Bool)) → Later sets sets
later_same sets = ([], sym (append_none sets))

pub later_more : (a b c : List (List Bool)) → Later a b → Later b c → Later a c
later_more a b c (xs, e) (ys, f) = (xs ++ ys, f ∙ ap (λ zs. zs ++ ys) e ∙ append_assoc a xs ys)

atom_later : (a b : List (List Bool)) (class : Class) (t : spec.Token) → Later a b → IsAtom a class t → IsAtom b class t
atom_later a b (One c) t later h = h
atom_later a b Any t later h = h
atom_later a b (In k) t later (test, is, same) = (test, is, λ all after. same all (later_more a b all later after))

pub token_later : (a b : List (List Bool)) (token : Token) (t : spec.Token) → Later a b → IsToken a token t
    → IsToken b token t
token_later a b (Atom class) t later h = atom_later a b class t later h
token_later a b Start t later h = h
token_later a b End t later h = h
token_later a b (Repeat r) t later h = h
token_later a b Opening t later h = h
token_later a b Closing t later h = h
token_later a b Bar t later h = h

get_added : (sets more : List (List Bool)) (set : List Bool) → get_or ((sets ++ set ∷ []) ++ more) (length sets) []
    ≡ set
get_added [] more set = refl
get_added (x ∷ xs) more set = get_added xs more set

-- a bracket expression whose set was added
pub bracket_front : (s rest : List ℕ) (sets new : List (List Bool)) (set : List Bool) → IsSet (bracket s) set rest
    → new ≡ sets ++ set ∷ [] → IsFront new (spec.bracketed (bracket s)) (Atom (In (length sets))) rest
bracket_front s rest sets new set (negated, ranges, read, same) is = (
  spec.atom (bytes (in_set negated ranges)),
  ap spec.bracketed read,
  (in_set negated ranges, refl, λ all later b. ap (λ x. has x b) (got all later) ∙ same b),
) where
  got : (all : List (List Bool)) → Later new all → get_or all (length sets) [] ≡ set
  got all (more, e) = ap (λ x. get_or x (length sets) []) (e ∙ ap (λ x. x ++ more) is) ∙ get_added sets more set

pub bracket_wrong : (s : List ℕ) (f : EreFault) → bracket s ≡ None → spec.wrong f ≡ spec.bracketed None
    → spec.bracketed (bracket s) ≡ spec.wrong f
bracket_wrong s f none is = ap spec.bracketed none ∙ sym is

-- an interval
pub interval_front : (s rest : List ℕ) (t : Times) (r : code.Times) → interval s ≡ Some (t, rest) → is_allowed t ≡ true
    → IsTimes t r → IsFront [] (spec.repeated s (interval s)) (Repeat r) rest
interval_front s rest t r read allowed (least, most, times) = (
  spec.times t.0 t.1 (factor t),
  ap (spec.repeated s) read ∙ ap (λ b. if b then spec.token (spec.times t.0 t.1 (factor t)) rest else spec.wrong
      Interval) allowed,
  sym (ap (λ x. spec.times x (option_map (λ m. r.least + m) r.more) r.factor) least
      ∙ ap (λ x. spec.times t.0 x r.factor) most ∙ ap (λ x. spec.times t.0 t.1 x) times),
)

pub interval_wrong : (s rest : List ℕ) (t : Times) → interval s ≡ Some (t, rest) → is_allowed t ≡ false
    → spec.repeated s (interval s) ≡ spec.wrong Interval
interval_wrong s rest t read allowed =
    ap (spec.repeated s) read ∙ ap (λ b. if b then spec.token (spec.times t.0 t.1 (factor t)) rest else spec.wrong
    Interval) allowed

-- the front by what its first byte leads
pub front_led : (is_open may_repeat : Bool) (s : List ℕ) (l : Lead) → 1 ≤ length s
    → l ≡ spec.lead may_repeat (get_or s 0 0) → spec.front is_open may_repeat s ≡ spec.led l is_open may_repeat
    (get_or s 0 0) (behind s)
front_led is_open may_repeat s l le is =
    ap (spec.front is_open may_repeat) (first_behind s le) ∙ ap (λ x. spec.led x is_open may_repeat (get_or s 0 0)
    (behind s)) (sym is)

pub front_is : (sets : List (List Bool)) (a b : spec.Front) (token : Token) (rest : List ℕ) → a ≡ b
    → IsFront sets b token rest → IsFront sets a token rest
front_is sets a b token rest e (t, read, is) = (t, e ∙ read, is)

pub front_later : (a b : List (List Bool)) (read : spec.Front) (token : Token) (rest : List ℕ) → Later a b
    → IsFront a read token rest → IsFront b read token rest
front_later a b read token rest later (t, e, is) = (t, e, token_later a b token t later is)
