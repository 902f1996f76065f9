use Rattle.std.proofs.Common.{sym, true, map}
use Rattle.std.specs.Prelude.{◌≡◌}
use Rattle.awk_streams.specs.Tables.{Table}
use Rattle.awk_machine.specs.Forms.{value}
use Rattle.awk_machine.specs.Pieces.{give}
use Rattle.awk_machine.specs.State.{Given}
use Rattle.awk_program.specs.Program as p
use Rattle.awk_program.specs.Program.{joins_of}
use Rattle.awk_program.specs.View.{variable_of, view, view_joined}
use Rattle.awk_program.proofs.Views.{view-Concat}
use Rattle.awk_store.specs.Acts.{Passes}
use Rattle.awk_store.specs.Wholes.{names_in}
use Rattle.awk_text.specs.declared.place.Place.{Place}
use Rattle.awk_text.specs.declared.value.Value.{Value}
use Rattle.awk_builtins.proofs.Rests.{ok_for}
use Rattle.awk_builtins.proofs.at_hand.growth.assigned.Goals as goal

pub returns-in-Concat-clause-done : goal.returns-in-Concat-clause-done
returns-in-Concat-clause-done c =
    ok_for {P = λ is. is ≡ true → (x : Value) × ((g : Given) (t : Table) (place : Place) → Passes g
    (value (p.assign place (p.variable (variable_of (names_in g) c.in-Variable.to))
    (p.concat (view (names_in g) c.get.result.now)
    (joins_of (map (view_joined (names_in g)) c.as_slice.result.now)))))
    (c.args.store.now, t) (give x) (c.grown.new.store, t))}
    c.grown.result (λ is h yes. let r = h yes in (
      r.0,
      λ g t place. rw (c.in-Variable.is, c.in-Concat.is, view-Concat, sym c.get.ensures, sym c.as_slice.ensures)
          (r.1 g t place),
    )) c.grown.ensures.done
