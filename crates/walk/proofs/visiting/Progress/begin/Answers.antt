-- `walk::visiting::Progress::begin`: what the version needs, and that the walk begins.
use Rattle.std.proofs.Common.{◌-◌, refl, ap, ◌∙◌, arith}
use Rattle.tables.specs.Reached.{started}
use Rattle.walk.specs.Given.{Given, chains_in, places_in}
use Rattle.walk.proofs.Looping.{few-chains, standing}
use Rattle.walk.proofs.visiting.Progress.begin.Goals as goal

pub start_version-requires : goal.start_version-requires
unfolding chains_in places_in
start_version-requires c = (omega (arith, few-chains _ c.given.invariant), standing _ c.given.invariant)

pub returns : goal.returns
unfolding chains_in places_in
returns c =
    let chains = ap (λ (g : Given). g.chains) c.given.view_is in
    record {
      version = λ k lt. c.start_version.ensures k (omega (arith, lt, chains)) ∙ ap (λ (g : Given). started (chains_in g) (places_in g) g.known k) c.given.view_is;
      waits = c.start_all.ensures;
      left = ap (λ (g : Given). g.first - g.known) c.given.view_is;
      last = refl;
    }
