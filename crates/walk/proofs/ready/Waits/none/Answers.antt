-- `walk::ready::Waits::none`: the first places of a list of zeros.
use Rattle.std.proofs.Common.{List, ℕ, replicate, ap}
use Rattle.std.proofs.lemmas.List.{take-replicate}
use Rattle.walk.proofs.ready.Waits.none.Goals as goal

pub returns : goal.returns
returns c = ap (λ (l : List ℕ). (0, l, replicate 512 0)) (take-replicate c.args.runs 512 0 c.requires)
