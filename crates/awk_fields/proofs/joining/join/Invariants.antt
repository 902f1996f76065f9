use Rattle.std.proofs.Common.{◌≡◌, ◌++◌, drop, map}
use Rattle.std.specs.List.{flat_map}
use Rattle.awk_text.specs.Values.{text_of}
use Rattle.awk_fields.specs.Edits.{field_of}
use Rattle.awk_fields.specs.Rows.{rebuilt, shown_in}
use Rattle.awk_fields.proofs.joining.join.Given as goal

abbrev pub invariant-loop-part : goal.invariant-loop-part
invariant-loop-part l = l.made.items ++ flat_map (λ v. l.ofs ++ text_of v)
    (map shown_in (map (field_of l.text) (drop l.part-index l.others)))
    ≡ rebuilt l.ofs (map (field_of l.text) l.fn.parts)
