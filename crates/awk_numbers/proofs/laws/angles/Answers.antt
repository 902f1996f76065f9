use Rattle.awk_numbers.proofs.Waves.{directions, waves}
use Rattle.awk_numbers.proofs.laws.angles.Goals as goal

pub returns-clause-wave : goal.returns-clause-wave
returns-clause-wave c = waves

pub returns-clause-direction : goal.returns-clause-direction
returns-clause-direction c = directions
