-- What is written as steps is read as the same steps, and refusal 16 leaves the "reader unmoved". Assumes nothing.
use Rattle.std.specs.Prelude.{◌≡◌, List, map, ℕ, ◌*◌, length, take, Ok, Err, None}
use Rattle.std.proofs.Math.Option.{none, some}
use Rattle.model.specs.declared.record.CausalGraph.{CausalGraph}
use Rattle.model.specs.declared.answers.Refusal.{Refusal}
use Rattle.model.specs.declared.answers.Refusal.TheVariants.{UnknownKind}
use Rattle.model.specs.Steps.{Step, words}
use Rattle.model.specs.Walk.{WalkResult, walk_of}
use Rattle.model.specs.Replay.{replay_of}
use Rattle.model.specs.Reader.{said, as_step}
use Rattle.reader.specs.declared.StepReader.{StepReader}
use Rattle.reader.specs.Reading.{next_from, HandedOut, read_all}

-- Just these steps, then the end
unfoldable pub just_these : List Step → HandedOut
just_these ss = (map as_step ss, ((Ok None), 3 * length ss))

-- The part of the step list that the answer counts: three words a step
unfoldable pub written_in : WalkResult → List ℕ
written_in r = take (3 * r.0.count) r.2

-- What a walk or a full replay wrote are the words of as many steps as the answer counts, and a reader hands out just these
pub record ReadsBack (r : WalkResult) : Type 0 where
  pub steps : List Step
  pub counted : length steps ≡ r.0.count
  pub written : words steps ≡ written_in r
  pub read : read_all (written_in r) 0 ≡ just_these steps

pub record RoundTrip : Type 0 where
  -- every list of steps, as words
  pub words_read : (ss : List Step) → read_all (words ss) 0 ≡ just_these ss
  -- every walk and every full replay of every graph value, refused ones included, whatever room it is lent
  pub walks_read : (g : CausalGraph) (a b known first : ℕ) (rows steps : List ℕ) → ReadsBack (walk_of g a b known first rows steps)
  pub replays_read : (g : CausalGraph) (rows steps : List ℕ) → ReadsBack (replay_of g rows steps)
  -- every list of words: the steps that it says, or else refusal 16
  pub said_read : (ws : List ℕ) (ss : List Step) → said ws ≡ some ss → read_all ws 0 ≡ just_these ss
  pub unsaid_refused : (ws : List ℕ) → said ws ≡ none → (read_all ws 0).1.0 ≡ Err UnknownKind
  -- "step reader at kind above 3": "reader unmoved"
  pub unmoved : (r : StepReader) (x : Refusal) → (next_from r).0 ≡ Err x → next_from r ≡ (Err UnknownKind, r)
