use Rattle.std.proofs.Common.{ℕ, Some, None, [], ◌∷◌, refl, subst, arith}
use Rattle.awk_ere.specs.Spelled.{Finds}
use Rattle.awk_lib.proofs.Matching.{stands}
use Rattle.awk_builtins.proofs.searches.locate_in.Goals as goal

pub place-requires-clause-ordered : goal.place-requires-clause-ordered
place-requires-clause-ordered c =
    (stands c.args.ere.now c.args.text.now 0 c.in-Some.start c.in-Some.end
    (subst (Finds c.args.ere.now c.args.text.now 0) c.in-Some.is c.in_ok-start.ensures)).ordered

pub place-requires-clause-inside : goal.place-requires-clause-inside
place-requires-clause-inside c =
    let s = stands c.args.ere.now c.args.text.now 0 c.in-Some.start c.in-Some.end
    (subst (Finds c.args.ere.now c.args.text.now 0) c.in-Some.is c.in_ok-start.ensures) in
    omega (arith, s.inside, c.if-text.false)

pub returns-in-Some-clause-ok : goal.returns-in-Some-clause-ok
returns-in-Some-clause-ok c =
    let m : ℕ × ℕ = (c.in-Some.start, c.in-Some.end) in (
      m ∷ [],
      (Some m, subst (Finds c.args.ere.now c.args.text.now 0) c.in-Some.is c.in_ok-start.ensures, refl),
      c.place.ensures,
    )

pub returns-in-None-clause-ok : goal.returns-in-None-clause-ok
returns-in-None-clause-ok c =
    ([], (None, subst (Finds c.args.ere.now c.args.text.now 0) c.in-None.is c.in_ok-start.ensures, refl), refl)
