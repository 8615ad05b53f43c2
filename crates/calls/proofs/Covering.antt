-- Every start with every list of calls, each by value or lent, is what some words say. Assumes nothing.
use Rattle.std.proofs.Common.{◌≡◌, refl, ◌∙◌, ap, List, [], ◌∷◌, ◌++◌, map, Bool}
use Rattle.model.specs.Log.{Fresh, Call}
use Rattle.calls.specs.Words.{calls_after, fresh_in, calls_in, start_words, mixed_words, EveryList}
use Rattle.calls.proofs.Making.{calls_next, start_next}

-- Words of calls say these calls
calls_back : (cs : List (Bool × Call)) → calls_after 0 (mixed_words cs) ≡ map (λ c. c.1) cs
unfolding mixed_words calls_after
calls_back [] = refl
calls_back (c ∷ cs) = calls_next c.0 c.1 (mixed_words cs) ∙ ap (λ ds. c.1 ∷ ds) (calls_back cs)

-- So demand 3's lists are all among those that `made_by` makes, whichever of their calls are lent
mixed_said : (f : Fresh) (cs : List (Bool × Call)) →
    (fresh_in (start_words f ++ mixed_words cs) ≡ f) × (calls_in (start_words f ++ mixed_words cs) ≡ map (λ c. c.1) cs)
mixed_said f cs = ((start_next f (mixed_words cs)).0, (start_next f (mixed_words cs)).1 ∙ calls_back cs)

-- and so are their lists of further calls
pub every_list : EveryList
every_list = record { from_start = mixed_said; further = calls_back }
