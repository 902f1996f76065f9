use Rattle.std.proofs.Common.{◌≡◌, ◌∙◌, sym, ap, subst}
use Rattle.std.specs.Prelude.{IfOk, MatchOption}
use Rattle.awk_text.specs.Quoted.{quoted}
use Rattle.box_monitor.specs.Lines.{kind_word}
use Rattle.box_advice.specs.LogLines.{joined, place_text}
use Rattle.box_advice.specs.Logs.{wish_of}
use Rattle.box_advice.proofs.LogsLemmas.{all_tell, joined_written, subject_at, tells_joined}
use Rattle.box_advice.proofs.log_lines.wish_of.Goals as goal

pub returns-in-Some-clause-read : goal.returns-in-Some-clause-read
returns-in-Some-clause-read c =
    let told = c.in-Some.told in
    let line = c.in-Some.ensures.read in
    all_tell c.wish_at.result _ _ (λ wish h. record {
      place = told.place;
      subject = subject_at told.kind h.0;
      is_place = c.in-Some.ensures.small;
      bytes = h.1;
      written = joined_written c.args.line.now told.place (subject_at told.kind h.0) line.0 line.1 (line.2
          ∙ ap (λ q. joined (place_text told.place) (kind_word told.kind) line.0 q) (sym h.2));
      is_wish = h.3;
    }) c.wish_at.ensures.read

pub returns-in-Some-clause-found : goal.returns-in-Some-clause-found
returns-in-Some-clause-found c wish t =
    let w = tells_joined c.args.number c.args.line.now wish t in
    let same = c.in-Some.ensures.found t.place t.subject.kind w.0 (quoted t.subject.text) t.is_place w.1 w.2 in
    subst (λ one. IfOk c.wish_at.result (λ found. MatchOption found ⊥ (λ it. it ≡ one)))
    (ap (λ p. wish_of c.args.number p (subject_at c.in-Some.told.kind t.subject.text)) same.0
    ∙ ap (λ k. wish_of c.args.number t.place (subject_at k t.subject.text)) same.1 ∙ sym t.is_wish)
    (c.wish_at.ensures.found t.subject.text t.bytes (sym same.2))

pub returns-in-None-clause-found : goal.returns-in-None-clause-found
returns-in-None-clause-found c wish t =
    let w = tells_joined c.args.number c.args.line.now wish t in
    c.in-None.ensures.found t.place t.subject.kind w.0 (quoted t.subject.text) t.is_place w.1 w.2
