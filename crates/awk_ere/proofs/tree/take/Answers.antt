use Rattle.std.proofs.Common.{subst}
use Rattle.awk_ere.specs.Pattern.{start, finish}
use Rattle.awk_ere.specs.Lexing.{IsToken}
use Rattle.awk_ere.specs.Tree.{finished}
use Rattle.awk_ere.proofs.Normal.{same_refl}
use Rattle.awk_ere.proofs.Trees.{take_atom, take_anchor, take_times, take_closing}
use Rattle.awk_ere.proofs.tree.take.Goals as goal

pub returns-in_ok-frame-in-Atom : goal.returns-in_ok-frame-in-Atom
returns-in_ok-frame-in-Atom c = λ sets t os f is around inner.
    take_atom sets c.args.groups.now.items c.args.top c.in_ok-frame-in-Atom.frame t os f around inner c.in-Atom.class
    (λ m p. c.in_ok-frame-in-Atom.ensures sets m p) (subst (λ x. IsToken sets x t) c.in-Atom.is is)

pub returns-in_ok-frame-in-Start : goal.returns-in_ok-frame-in-Start
returns-in_ok-frame-in-Start c = λ sets t os f is around inner.
    take_anchor sets c.args.groups.now.items c.args.top c.in_ok-frame-in-Start.frame t os f around inner start
    (λ m h. c.in_ok-frame-in-Start.ensures sets m start h (λ all. same_refl start))
    (subst (λ x. IsToken sets x t) c.in-Start.is is)

pub returns-in_ok-frame-in-End : goal.returns-in_ok-frame-in-End
returns-in_ok-frame-in-End c = λ sets t os f is around inner.
    take_anchor sets c.args.groups.now.items c.args.top c.in_ok-frame-in-End.frame t os f around inner finish
    (λ m h. c.in_ok-frame-in-End.ensures sets m finish h (λ all. same_refl finish))
    (subst (λ x. IsToken sets x t) c.in-End.is is)

pub returns-in_ok-frame-in-Repeat : goal.returns-in_ok-frame-in-Repeat
returns-in_ok-frame-in-Repeat c = λ sets t os f is around inner.
    take_times sets c.args.groups.now.items c.args.top c.in_ok-frame-in-Repeat.frame t os f around inner _ _ _
    (λ b p q. c.in_ok-frame-in-Repeat.ensures sets b p q) (subst (λ x. IsToken sets x t) c.in-Repeat.is is)

pub returns-in_ok-frame-in-Some : goal.returns-in_ok-frame-in-Some
returns-in_ok-frame-in-Some c = λ sets t os f is around inner.
    take_closing sets c.in_ok-frame-in-Some.frame t (subst (λ x. IsToken sets x t) c.in-Closing.is is) f
    c.args.groups.now.items c.pop.new.self.items c.in-Some.outer c.args.top os c.in-Some.ensures.items around inner
    (λ m h. c.in_ok-frame-in-Some.ensures sets m (finished f) h (c.in_ok-group-in-Some.ensures sets f inner))
