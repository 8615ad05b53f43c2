-- What is written as steps reads back as the same steps. Assumes nothing.
use Rattle.std.proofs.Common.{◌≡◌, refl, List, [], ◌∷◌, ℕ, ◌*◌, arith, length, take}
use mathlib.Core.Option.{some}
use Rattle.lists.specs.Lists.{concat}
use Rattle.lists.specs.Areas.{over}
use Rattle.lists.proofs.Pads.{take-over}
use Rattle.model.specs.Steps.{Step, retreat, advance, opened, apply, step_words, words}
use Rattle.model.specs.Reader.{decoded, said}

-- Three words a step
pub words-length : (ss : List Step) → length (words ss) ≡ 3 * length ss
unfolding words concat step_words
words-length [] = refl
words-length (retreat a b ∷ ss) = omega (arith, words-length ss)
words-length (advance a b ∷ ss) = omega (arith, words-length ss)
words-length (apply r ∷ ss) = omega (arith, words-length ss)
words-length (opened a b ∷ ss) = omega (arith, words-length ss)

-- Words say the steps that they were made of
pub said-words : (ss : List Step) → said (words ss) ≡ some ss
unfolding words concat step_words said decoded
said-words [] = refl
said-words (retreat a b ∷ ss) = rw (said-words ss)
said-words (advance a b ∷ ss) = rw (said-words ss)
said-words (apply r ∷ ss) = rw (said-words ss)
said-words (opened a b ∷ ss) = rw (said-words ss)

-- So does a lent list that they were written into
pub reads_back : (ss : List Step) (lent : List ℕ) → said (take (3 * length ss) (over (words ss) lent)) ≡ some ss
reads_back ss lent = rw (take-over (words ss) lent (3 * length ss) (words-length ss)) (said-words ss)
