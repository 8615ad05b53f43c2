-- `model::claims::claim` meets its contract: cited here, since a search that is given a statement about all lists of calls does not end in it. Assumes nothing.
use Rattle.model.proofs.Demand.{claim}
use Rattle.model.proofs.claims.claim.Goals as goal

pub returns : goal.returns
returns c = claim
