-- Where no number is marked twice and no function has the name of a variable, no name has two kinds.
use Rattle.std.proofs.Common.{◌≡◌, ◌≢◌, ◌∙◌, ◌⊎◌, inl, inr, ◌+◌, ◌<◌, ◌≤◌, ◌++◌, [], ◌∷◌, ℕ, true, List, refl, sym, ap}
use Rattle.std.proofs.Common.{Option, Some, None, Contains, length, get_or, take}
use Rattle.std.proofs.lemmas.List.{take_more, take_all}
use Rattle.std.proofs.lemmas.List.Elements.{Contains-push_cases}
use Rattle.std.specs.Map.{lookup}
use Rattle.std.specs.Option.{option_or}
use Rattle.std.specs.Str.{bytes_eq}
use Rattle.awk_text.specs.declared.place.Place.{Place}
use Rattle.awk_tree.specs.Tree.{Text}
use Rattle.awk_resolve.specs.Clash as s
use Rattle.awk_resolve.specs.Faults as fault
use Rattle.awk_resolve.specs.Faults.{Misdefined}
use Rattle.awk_resolve.specs.Kinds as k
use Rattle.awk_resolve.specs.Kinds.{Kind, global}
use Rattle.awk_resolve.specs.Marks.{is_marked}
use Rattle.awk_resolve.specs.Numbering.{number_in, numbers}
use Rattle.awk_resolve.specs.Numbers.{number, in_scope, in_perhaps, is_function}
use Rattle.awk_resolve.specs.declared.kinds.Kinds.{Kinds}
use Rattle.awk_resolve.specs.declared.mention.Role.{Role}
use Rattle.awk_resolve.specs.declared.mention.Role.TheVariants as role
use Rattle.awk_resolve.specs.declared.mention.Section.{Section}
use Rattle.awk_resolve.specs.declared.numbers.Numbers.{Numbers}
use Rattle.awk_resolve.specs.declared.numbers.Scope.{Scope}
use Rattle.awk_resolve.proofs.Kinding.{function_known}
use Rattle.awk_resolve.proofs.Meant.{scopes}
use Rattle.awk_resolve.proofs.Numbered.{scope_known}
use Rattle.awk_resolve.proofs.Reaching.{at_found}

-- where no function so far is double, and this one neither
pub more_double : (c : Kinds) (ps : List Section) (i : ℕ) (p : Section) → i < length ps → p ≡ get_or ps i p
    → (s.AnyDouble c (take i ps) → ⊥) → (s.IsDouble c p.role → ⊥)
    → s.AnyDouble c (take (i + 1) ps) → ⊥
more_double c ps i p h e none not_this (q, there, double) =
    by q double (Contains-push_cases (take i ps) p q (rw more at there))
  where
    more : take (i + 1) ps ≡ take i ps ++ p ∷ []
    more = take_more ps i p h ∙ ap (λ y. take i ps ++ y ∷ []) (sym e)

    by : (q : Section) → s.IsDouble c q.role → Contains (take i ps) q ⊎ (p ≡ q) → ⊥
    by q double (inl before) = none (q, before, double)
    by q double (inr same) = not_this (rw (← same) at double)

pub all_double : (c : Kinds) (ps : List Section) (i : ℕ) → length ps ≤ i → (s.AnyDouble c (take i ps) → ⊥)
    → s.AnyDouble c ps → ⊥
all_double c ps i h none = rw (take_all i ps h) at none

module _ (parts : List Section) (well : (place : Place) → Misdefined parts place → ⊥) where
  abbrev t : Numbers
  t = numbers parts

  -- the name of a function means the function wherever it stands, since no parameter has it
  function_global : (r : Role) (x : Text) → is_function t x ≡ true → number_in t r x ≡ number t (global x)
  function_global role.Begin x is = refl
  function_global role.End x is = refl
  function_global role.Rule x is = refl
  function_global (role.Function f qs) x is = by (lookup (bytes_eq f.text) t.functions) refl
    where
      inside : (c : Scope) → lookup (bytes_eq f.text) t.functions ≡ Some c → (o : Option ℕ) → in_scope c x ≡ o
          → option_or o (number t (global x)) ≡ number t (global x)
      inside c l None e = refl
      inside c l (Some n) e =
          let (g, ps, base, d, same, scoped) = scopes parts well f.text c l in
          let (i, q, at, text, there) = scope_known base ps c scoped x n e in
          let (h, hs, def, name) = function_known parts well x is in
          absurd (well q.place (fault.misnamed q.place (fault.as_function g h ps hs q d (at_found ps i q at) def
          (name ∙ sym text))))

      by : (o : Option Scope) → lookup (bytes_eq f.text) t.functions ≡ o
          → option_or (in_perhaps o x) (number t (global x)) ≡ number t (global x)
      by None l = refl
      by (Some c) l = inside c l (in_scope c x) refl

  module _ (c : Kinds) (same : c.numbers ≡ t) (once : s.AnyTwice c → ⊥) (apart : s.AnyDouble c parts → ⊥) where
    -- no name has two kinds, whatever item it stands in
    pub no_two : (r : Role) (x : Text) → s.HasTwo c r x → ⊥
    no_two r x (kind, other, g, h, differs) = by kind other g h differs
      where
        marks : (o : Option ℕ) → is_marked c.scalars o ≡ true → is_marked c.arrays o ≡ true → ⊥
        marks None e f = cc
        marks (Some n) e f = once (n, e, f)

        plain : number_in c.numbers r x ≡ number_in c.numbers role.Begin x → (one : Kind) → s.has_in c role.Begin x one
            ≡ s.has_in c r x one
        plain e k.scalar = ap (is_marked c.scalars) (sym e)
        plain e k.array = ap (is_marked c.arrays) (sym e)
        plain e k.function = refl

        at_text : (y : Text) → x ≡ y → s.HasTwo c role.Begin x → s.HasTwo c role.Begin y
        at_text y e two = rw e at two

        as_function : is_function c.numbers x ≡ true → (one two : Kind) → s.has_in c r x one ≡ true
            → s.has_in c r x two ≡ true → one ≢ two → ⊥
        as_function is one two e f apart_kinds =
            let is2 : is_function t x ≡ true = rw same at is in
            let (function, ps, (p, there, defines), name) = function_known parts well x is2 in
            let whole : number_in c.numbers r x ≡ number_in c.numbers role.Begin x =
            rw same (function_global r x is2) in
            apart (
              p,
              there,
              (
                function,
                ps,
                defines,
                at_text function.text (sym name) (
                  one,
                  two,
                  plain whole one ∙ e,
                  plain whole two ∙ f,
                  apart_kinds,
                ),
              ),
            )

        by : (one two : Kind) → s.has_in c r x one ≡ true → s.has_in c r x two ≡ true → one ≢ two → ⊥
        by k.scalar k.scalar e f d = d refl
        by k.array k.array e f d = d refl
        by k.scalar k.array e f d = marks (number_in c.numbers r x) e f
        by k.array k.scalar e f d = marks (number_in c.numbers r x) f e
        by k.function two e f d = as_function e k.function two e f d
        by k.scalar k.function e f d = as_function f k.scalar k.function e f d
        by k.array k.function e f d = as_function f k.array k.function e f d
