-- What tokens spell, the text spells that is read as them.
use Rattle.std.proofs.Common.{◌≡◌, ℕ, List, sym, subst, Result, Ok, Err, IfOk, IfErr, inr}
use Rattle.awk_numbers.specs.declared.number.Numbers.{Numbers}
use Rattle.awk_parse.specs.Scripts.{IsSpelled, IsRefused}
use Rattle.awk_parse.specs.declared.script.Script.{Script}
use Rattle.awk_tokens.specs.Reads.{Reads}
use Rattle.awk_tokens.specs.declared.syntax_error.SyntaxError.{SyntaxError}
use Rattle.awk_tokens.specs.declared.token.Token.{Token}
use Rattle.awk_tree.specs.Tree.{Entry}
use Rattle.awkbox.specs.Accepted.{IsScriptRefused, ReadsScript}
use Rattle.awkbox.specs.Scripts as spec
use Rattle.awkbox.specs.Scripts.{Spells}

pub read : (numbers : Numbers) (text : List ℕ) (tokens : List Token) (r : Result Script SyntaxError)
    → Reads numbers text tokens
    → IfOk r (λ s. s.numbers ≡ numbers) → IfOk r (λ s. IsSpelled tokens s) → IfOk r (λ s. ReadsScript text s)
read numbers text tokens (Ok s) reads is h = record {
  tokens = tokens;
  reads = subst (λ n. Reads n text tokens) (sym is) reads;
  spelled = h;
}
read numbers text tokens (Err e) reads is h = tt

pub spelled : (numbers : Numbers) (text : List ℕ) (tokens : List Token) (r : Result Script SyntaxError)
    → Reads numbers text tokens
    → IfOk r (λ s. s.numbers ≡ numbers) → IfOk r (λ s. IsSpelled tokens s)
    → IfOk r (λ s. (items : List Entry) × Spells text items s)
spelled numbers text tokens (Ok s) reads is h =
    let reads = subst (λ n. Reads n text tokens) (sym is) reads in
    (h.0, record { tokens = tokens; reads = reads; spells = h.1; of = h.2 })
spelled numbers text tokens (Err e) reads is h = tt

pub refused : (numbers : Numbers) (text : List ℕ) (tokens : List Token) (r : Result Script SyntaxError)
    → Reads numbers text tokens
    → IfErr r (λ e. IsRefused tokens e) → IfErr r (λ e. IsScriptRefused numbers text e)
refused numbers text tokens (Ok s) reads h = tt
refused numbers text tokens (Err e) reads h = inr (tokens, reads, h)

pub told : (numbers : Numbers) (text : List ℕ) (tokens : List Token) (r : Result Script SyntaxError)
    → Reads numbers text tokens
    → IfErr r (λ e. IsRefused tokens e) → IfErr r (λ e. spec.IsScriptRefused numbers text e)
told numbers text tokens (Ok s) reads h = tt
told numbers text tokens (Err e) reads h = λ _. inr (tokens, reads, h)
