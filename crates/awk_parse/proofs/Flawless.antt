-- A script without a fault of names and words has no flaw but want of memory.
use Rattle.std.proofs.Common.{◌≡◌, ◌≢◌, List, refl, Err}
use Rattle.awk_text.specs.declared.place.Place.{Place}
use Rattle.awk_tokens.specs.declared.token.Token.{Token}
use Rattle.awk_tree.specs.declared.fault.ParseError.{ParseError}
use Rattle.awk_tree.specs.declared.fault.ParseError.TheVariants as fault
use Rattle.awk_tree.specs.Statements as grammar
use Rattle.awk_statements.specs.Places as places
use Rattle.awk_resolve.specs.declared.mention.Section.{Section}
use Rattle.awk_resolve.specs.Faultless.{Faultless, GivesArrays}
use Rattle.awk_resolve.specs.Kinds.{Agrees, Clashes, two_kinds, no_array}
use Rattle.awk_parse.specs.declared.flaw.Flaw.{Flaw}
use Rattle.awk_parse.specs.declared.flaw.Flaw.TheVariants as flaw
use Rattle.awk_parse.specs.Flaws.{Flawed, memory, word, function, kind}
use Rattle.awk_parse.proofs.Laws.{none_spelled}
use Rattle.awk_parse.specs.Scripts.{IsRefused, by_grammar, by_memory}

no_clash : (parts : List Section) (place : Place) → Agrees parts → GivesArrays parts → Clashes parts place → ⊥
no_clash parts place agrees gives (two_kinds n k l p h i differ first) = differ (agrees n k l h i)
no_clash parts place agrees gives (no_array r f args i q calls none takes forced) =
    gives r f args i q calls none takes forced

pub only_memory : (parts : List Section) (f : Flaw) → Faultless parts → Flawed parts f → f ≡ flaw.Memory
only_memory parts f h memory = refl
only_memory parts f h (word place m) = absurd (h.placed place m)
only_memory parts f h (function place placed m) = absurd (h.defined place m)
only_memory parts f h (kind place placed defined m first) = absurd (no_clash parts place h.agrees h.gives m)

-- a fault of the grammar refuses the tokens
pub refused : (tokens : List Token) (e : ParseError) → (e ≢ fault.Memory → grammar.script tokens ≡ Err e)
    → IsRefused tokens (places.refusal tokens e)
refused tokens fault.Memory h = by_memory
refused tokens (fault.Unexpected n) h =
    let is = h (λ (q : fault.Unexpected n ≡ fault.Memory). cc) in
    by_grammar (fault.Unexpected n) (none_spelled tokens (fault.Unexpected n) is) is
refused tokens (fault.TooDeep n) h =
    let is = h (λ (q : fault.TooDeep n ≡ fault.Memory). cc) in
    by_grammar (fault.TooDeep n) (none_spelled tokens (fault.TooDeep n) is) is
