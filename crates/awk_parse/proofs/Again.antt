-- What the canonical spelling of a script is parsed as.
use Rattle.std.proofs.Common.{◌≡◌, ◌≢◌, List, [], map, ap, sym, ◌∙◌, refl, subst, Ok, Err}
use Rattle.awk_tokens.specs.declared.token.Token.{Token}
use Rattle.awk_tree.specs.declared.fault.ParseError.{ParseError}
use Rattle.awk_tree.specs.declared.fault.ParseError.TheVariants as fault
use Rattle.awk_tree.specs.Tree.{Entry}
use Rattle.awk_tree.specs.Statements as grammar
use Rattle.awk_tree.specs.Canon.{canon_script, bare_entry}
use Rattle.awk_parse.proofs.Law.{done_is}
use Rattle.awk_parse.proofs.Laws.{scripts_are_read_again}
use Rattle.awk_statements.specs.Places as places
use Rattle.awk_resolve.specs.Mentions.{part}
use Rattle.awk_resolve.specs.Faultless.{Faultless}
use Rattle.awk_resolve.proofs.Displacing.{faultless_places_aside}
use Rattle.awk_parse.specs.declared.flaw.Flaw.{Flaw}
use Rattle.awk_parse.specs.declared.script.Script.{Script}
use Rattle.awk_parse.specs.Flaws as flaws
use Rattle.awk_parse.specs.Flaws.{Flawed}
use Rattle.awk_parse.specs.Scripts.{IsScriptOf, tree}
use Rattle.awk_parse.specs.SpellsScripts.{SpellsScript}
use Rattle.awk_parse.proofs.Flawless.{only_memory}
use Rattle.awk_parse.proofs.Twice.{bare_twice}

-- the grammar reads the canonical spelling as the items without places
pub read_again :
    (tokens ts : List Token) (s : Script) (items : List Entry) → SpellsScript ts items → IsScriptOf items s
    → tokens ≡ canon_script (tree s) →
    grammar.script tokens ≡ Ok (map bare_entry items, [])
read_again tokens ts s items read of e =
    ap grammar.script (e ∙ ap canon_script of.tree_is) ∙ scripts_are_read_again items (ts, read)

bare_tree : (s : Script) (items : List Entry) → IsScriptOf items s → map bare_entry (tree s) ≡ map bare_entry items
bare_tree s items of = ap (map bare_entry) of.tree_is

-- where the script is of the items that were read, it is the same, places aside
pub same_tree :
    (tokens ts : List Token) (s r : Script) (items found : List Entry) → SpellsScript ts items → IsScriptOf items s
    → tokens ≡ canon_script (tree s) →
    grammar.script tokens ≡ Ok (found, []) → IsScriptOf found r → map bare_entry (tree r) ≡ map bare_entry (tree s)
same_tree tokens ts s r items found read of e now is =
    bare_tree r found is
    ∙ (ap (map bare_entry) (done_is found (map bare_entry items) [] []
    (sym now ∙ read_again tokens ts s items read of e)).0 ∙ (bare_twice items ∙ sym (bare_tree s items of)))

-- and else memory was refused
pub same_flaw :
    (tokens ts : List Token) (s : Script) (items found : List Entry) (f : Flaw) → SpellsScript ts items
    → IsScriptOf items s →
    tokens ≡ canon_script (tree s) → grammar.script tokens ≡ Ok (found, []) → Flawed (map part found) f
    → (flaws.refusal f).code ≡ 9
same_flaw tokens ts s items found f read of e now flawed =
    let found_is = done_is found (map bare_entry items) [] [] (sym now ∙ read_again tokens ts s items read of e) in
    let none = subst (λ (xs : List Entry). Faultless (map part xs)) (sym found_is.0)
    (faultless_places_aside items of.faultless) in
    rw (only_memory (map part found) f none flawed) refl

pub same_fault :
    (tokens ts : List Token) (s : Script) (items : List Entry) (e : ParseError) → SpellsScript ts items
    → IsScriptOf items s →
    tokens ≡ canon_script (tree s) → (e ≢ fault.Memory → grammar.script tokens ≡ Err e) → (places.refusal tokens e).code
    ≡ 9
same_fault tokens ts s items fault.Memory read of e h = refl
same_fault tokens ts s items (fault.Unexpected n) read of e h =
    absurd (let k = read_again tokens ts s items read of e in
    let z = h (λ (q : fault.Unexpected n ≡ fault.Memory). cc) in cc)
same_fault tokens ts s items (fault.TooDeep n) read of e h = absurd (let k = read_again tokens ts s items read of e in
    let z = h (λ (q : fault.TooDeep n ≡ fault.Memory). cc) in cc)
