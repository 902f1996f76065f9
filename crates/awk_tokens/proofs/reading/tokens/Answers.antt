use Rattle.std.proofs.Common.{◌≡◌, ◌≢◌, ◌+◌, ◌++◌, ◌∷◌, [], true, not, cond, take, sym, ap, subst, ◌∙◌, arith}
use Rattle.std.proofs.lemmas.Result.{err_from_is_err_and}
use Rattle.awk_tokens.specs.Places.{place_after}
use Rattle.awk_tokens.specs.Reads.{ends_operand, IsUnread, Stands}
use Rattle.awk_tokens.specs.Next.{IsNext}
use Rattle.awk_tokens.specs.Scan.{gap_len}
use Rattle.awk_tokens.proofs.StepLemmas.{At, at_start, rest_range, gap_step, token_step, at_end, at_fault}
use Rattle.awk_tokens.proofs.Once.{read_once, refused_unread}
use Rattle.awk_tokens.proofs.reading.tokens.Goals as goal

pub loop-start-init : goal.loop-start-init
loop-start-init c =
    subst (λ tokens. At c.args.numbers c.args.script.now 0 (record { line = 1; column = 1 }) true tokens)
    (sym c.new-found.ensures.items) (at_start c.args.numbers c.args.script.now)

pub loop-start-preserved-then-gap-ne0 : goal.loop-start-preserved-then-gap-ne0
loop-start-preserved-then-gap-ne0 c =
    let script = c.args.script.now in
    let same = rest_range script c.loop-start.start in
    let gap = c.gap_len-gap.result in
    gap_step c.args.numbers script c.loop-start.start c.loop-start.place c.loop-start.operand c.loop-start.found.items
    gap c.place_after-place.result c.loop-start.invariant (ap gap_len (sym same) ∙ sym c.gap_len-gap.ensures.value)
    c.if-gap-ne0.true
    (λ front placed. c.place_after-place.ensures front placed ∙ ap (λ w. place_after (front ++ take gap w)) same)

pub loop-start-preserved : goal.loop-start-preserved
loop-start-preserved c =
    let script = c.args.script.now in
    let start = c.loop-start.start in
    let place = c.loop-start.place in
    let operand = c.loop-start.operand in
    let tokens = c.loop-start.found.items in
    let token = c.in_ok-token.token in
    let len = c.in_ok-token.len in
    let next : IsNext c.args.numbers operand _ start place token len = c.in_ok-token.ensures.read in
    let step = token_step c.args.numbers script start place operand tokens token len c.loop-start.invariant
    (subst (λ z. IsNext c.args.numbers operand z start place token len) (rest_range script start) next) in
    let pushed : c.push.new.self.items ≡ tokens ++ token ∷ [] =
    c.push.ensures.items ∙ ap (λ ok. cond ok (tokens ++ token ∷ []) tokens) (c.is_err.ensures.negation
    ∙ ap not c.if-is_err.false) in
    let ends : c.ends_operand-operand.result ≡ ends_operand token.kind token.text = c.ends_operand-operand.ensures
    ∙ ap (ends_operand token.kind) c.bytes.ensures in
    subst (λ ts. At c.args.numbers script (start + len) token.end (not c.ends_operand-operand.result) ts) (sym pushed)
    (subst (λ e. At c.args.numbers script (start + len) token.end (not e) (tokens ++ token ∷ [])) (sym ends) step)

pub returns-clause-only : goal.returns-clause-only
returns-clause-only c =
    let at = c.loop-start in
    let read = at_end c.args.numbers c.args.script.now at.start at.place at.operand at.found.items at.invariant
    (omega arith) in
    λ others. read_once c.args.numbers c.args.script.now at.found.items others read

pub returns-in_err-token-clause-unread : goal.returns-in_err-token-clause-unread
returns-in_err-token-clause-unread c =
    let script = c.args.script.now in
    let at = c.loop-start in
    let e = c.in_err-token.field-0.0 in
    let told : (e.code ≢ 9 → Stands c.args.numbers at.operand e.code _) × (e.place ≡ at.place) =
    c.in_err-token.ensures.refused in
    let rest : e.code ≢ 9 → IsUnread c.args.numbers script =
    λ other tokens.
    refused_unread c.args.numbers script e.code e.place tokens
    (at_fault c.args.numbers script at.start at.place e.place at.operand at.found.items e.code at.invariant
    (subst (λ z. Stands c.args.numbers at.operand e.code z) (rest_range script at.start) (told.0 other)) told.1) in
    let p = err_from_is_err_and c.from_residual.result c.from_residual.ensures.1 in
    rw (p.1, p.2) rest
