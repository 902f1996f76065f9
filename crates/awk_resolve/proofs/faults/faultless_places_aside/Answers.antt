use Rattle.awk_resolve.proofs.Displacing as law
use Rattle.awk_resolve.proofs.faults.faultless_places_aside.Goals as goal

-- src/places.rt:7:1
pub returns : goal.returns
returns c = law.faultless_places_aside
