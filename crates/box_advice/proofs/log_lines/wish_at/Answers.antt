use Rattle.std.proofs.Common.{◌≡◌, ◌<◌, sym, ap, subst, ℕ, List}
use Rattle.std.specs.Prelude.{All, IfSome, MatchOption}
use Rattle.awk_text.specs.Quoted.{quoted}
use Rattle.box_monitor.specs.Subjects.{Subject}
use Rattle.box_advice.specs.Logs.{wish_of}
use Rattle.box_advice.proofs.LogsLemmas.{subject_at}
use Rattle.box_advice.proofs.log_lines.wish_at.Goals as goal

pub returns-in-Some-clause-read : goal.returns-in-Some-clause-read
returns-in-Some-clause-read c = (
  c.in-Some.text,
  subst (λ found. IfSome found (λ text. All (λ byte. byte < 256) text)) c.in-Some.is c.in_ok-found.ensures.bytes,
  subst (λ found. IfSome found (λ text. quoted text ≡ c.args.told.quoted.now)) c.in-Some.is c.in_ok-found.ensures.read,
  c.wish_with.ensures,
)

pub returns-in-Some-clause-found : goal.returns-in-Some-clause-found
returns-in-Some-clause-found c text bytes e =
    let same : c.in-Some.text ≡ text =
    subst (λ found. MatchOption found ⊥ (λ one. one ≡ text)) c.in-Some.is (c.in_ok-found.ensures.found text bytes e) in
    subst (λ one. c.wish_with.result ≡ wish_of c.args.number c.args.told.place (subject_at c.args.told.kind one)) same
    c.wish_with.ensures

pub returns-in-None-clause-found : goal.returns-in-None-clause-found
returns-in-None-clause-found c text bytes e =
    subst (λ found. MatchOption found ⊥ (λ one. one ≡ text)) c.in-None.is (c.in_ok-found.ensures.found text bytes e)
