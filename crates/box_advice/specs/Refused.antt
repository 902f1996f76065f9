-- How a policy's refusal is told by a proposal.
use Rattle.std.specs.Prelude.{◌==◌, if◌then◌else◌}
use Rattle.box_policy.specs.declared.error.PolicyError.{PolicyError}
use Rattle.box_advice.specs.declared.proposing.ProposalError.{ProposalError}
use Rattle.box_advice.specs.declared.proposing.ProposalError.TheVariants.{Policy, Memory}

abbrev pub refused_by : PolicyError → ProposalError
refused_by error = if error.code == 8 then Memory else Policy error
