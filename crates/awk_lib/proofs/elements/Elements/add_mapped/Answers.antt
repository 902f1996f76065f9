use Rattle.std.proofs.Common.{◌≡◌, ◌+◌, Some, refl, ap, ◌∙◌, arith}
use Rattle.std.proofs.lemmas.Bool.Decides.{nat_tests}
use Rattle.std.specs.List.{position_or_len}
use Rattle.std.specs.Map.{keys_of}
use Rattle.std.specs.Str.{bytes_eq}
use Rattle.indexmap.specs.IndexMap.{insert_entry}
use Rattle.awk_lib.specs.declared.dense.Numbered.{Numbered}
use Rattle.awk_lib.proofs.Keeping.{put_mapped, put_apart, put_there, put_last}
use Rattle.awk_lib.proofs.elements.Elements.add_mapped.Goals as goal

pub overflow_add-result : goal.overflow_add-result
overflow_add-result g c = omega (arith, c.in_ok-i.ensures.within, c.len-len.ensures.small)

pub returns-clause-place : goal.returns-clause-place
returns-clause-place g c =
    let es = c.args.self.now in
    let x : Numbered g.row.V.Denot = record { number = c.args.number; value = c.args.value } in
    let fs = record es { map = c.insert_full.new.self; count = es.count + 1 } in
    let now = c.in_ok-i.ensures.entries ∙ ap (λ t. insert_entry bytes_eq es.map.entries t (Some x)) c.in_ok-key.ensures
    in
    let at = c.in_ok-i.ensures.index ∙ ap (λ t. position_or_len (bytes_eq t) (keys_of es.map.entries))
    c.in_ok-key.ensures in
    put_there es fs c.args.key.now x c.requires.absent refl now c.in_ok-i.i at

pub returns-clause-added : goal.returns-clause-added
returns-clause-added g c =
    let es = c.args.self.now in
    let x : Numbered g.row.V.Denot = record { number = c.args.number; value = c.args.value } in
    let fs = record es { map = c.insert_full.new.self; count = es.count + 1 } in
    let now = c.in_ok-i.ensures.entries ∙ ap (λ t. insert_entry bytes_eq es.map.entries t (Some x)) c.in_ok-key.ensures
    in
    put_mapped es fs c.args.key.now x c.requires.absent refl now

pub returns-clause-last : goal.returns-clause-last
returns-clause-last g c =
    let es = c.args.self.now in
    let x : Numbered g.row.V.Denot = record { number = c.args.number; value = c.args.value } in
    let fs = record es { map = c.insert_full.new.self; count = es.count + 1 } in
    let now = c.in_ok-i.ensures.entries ∙ ap (λ t. insert_entry bytes_eq es.map.entries t (Some x)) c.in_ok-key.ensures
    in
    let at = c.in_ok-i.ensures.index ∙ ap (λ t. position_or_len (bytes_eq t) (keys_of es.map.entries))
    c.in_ok-key.ensures in
    λ e.
    let last : c.in_ok-i.i + 1 ≡ c.len-len.result = grind (arith, nat_tests, e) in
    put_last es fs c.args.key.now x c.requires.absent refl now c.in_ok-i.i at (last ∙ c.len-len.ensures.len)

pub returns-clause-apart : goal.returns-clause-apart
returns-clause-apart g c =
    let es = c.args.self.now in
    let x : Numbered g.row.V.Denot = record { number = c.args.number; value = c.args.value } in
    let fs = record es { map = c.insert_full.new.self; count = es.count + 1 } in
    let now = c.in_ok-i.ensures.entries ∙ ap (λ t. insert_entry bytes_eq es.map.entries t (Some x)) c.in_ok-key.ensures
    in
    put_apart es fs c.args.key.now x c.requires.absent refl now c.requires.apart c.requires.outside
