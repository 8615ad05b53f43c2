-- The round trip: every list of steps, walk and full replay reads back, and 16 leaves the reader where it stands. Assumes nothing.
use Rattle.std.proofs.Common.{◌≡◌, refl, sym, ap, ◌∙◌, Bool, true, false, List, [], map, ℕ, ◌*◌, ◌/◌, arith, length, take}
use mathlib.Core.Option.{none, some}
use Rattle.lists.specs.Lists.{concat}
use Rattle.lists.specs.Areas.{over}
use Rattle.lists.proofs.Pads.{take-over}
use Rattle.model.specs.declared.record.CausalGraph.{CausalGraph}
use Rattle.model.specs.declared.answers.Refusal.{Refusal}
use Rattle.model.specs.declared.answers.Refusal.TheVariants.{Broken, RowsTooLong, UnknownKind}
use Rattle.model.specs.Graph.{Graph}
use Rattle.model.specs.Record.{view}
use Rattle.model.specs.Broken.{broken}
use Rattle.model.specs.Choice.{range_of}
use Rattle.model.specs.Steps.{Step, steps_of, words}
use Rattle.model.specs.Walk.{WalkResult, wrote, unwalked, rows_into, rows_too_long, list_outcome, range_outcome, walk_range, walk_of}
use Rattle.model.specs.Cut.{cut_from}
use Rattle.model.specs.Replay.{Replayed, replay_ranges, replay_of}
use Rattle.model.specs.Reader.{said, as_step}
use Rattle.model.proofs.Reading.{words-length, said-words, reads_back}
use Rattle.reader.specs.declared.StepReader.{StepReader}
use Rattle.reader.specs.Reading.{next_from, handed, read_all}
use Rattle.reader.specs.RoundTrip.{just_these, written_in, ReadsBack, RoundTrip}
use Rattle.reader.proofs.Decoding.{stays}
use Rattle.reader.proofs.Handing.{reads-said, reads_unsaid}
use Rattle.std.specs.Prelude.{Ok, Err, None}
use Rattle.model.specs.Refusals.{Outcome}

-- Words that say steps, or none; the words of steps
said_read : (ws : List ℕ) (ss : List Step) → said ws ≡ some ss → read_all ws 0 ≡ just_these ss
unfolding read_all just_these
said_read ws ss e = reads-said (length ws) ws ws 0 ss refl (omega arith) e ∙ ap (λ (n : ℕ). (map as_step ss, ((Ok None), n))) (omega arith)

unsaid_refused : (ws : List ℕ) → said ws ≡ none → (read_all ws 0).1.0 ≡ Err UnknownKind
unfolding read_all
unsaid_refused ws e = reads_unsaid (length ws) ws ws 0 refl (omega arith) e

words_read : (ss : List Step) → read_all (words ss) 0 ≡ just_these ss
words_read ss = said_read (words ss) ss (said-words ss)

-- Steps written into a lent list, and none written
wrote-read : (g : Graph) (o : Outcome) (ss : List Step) (rows steps : List ℕ) → ReadsBack (wrote g o ss rows steps)
unfolding wrote written_in
wrote-read g o ss rows steps = record {
  steps = ss;
  counted = refl;
  written = sym (take-over (words ss) steps (3 * length ss) (words-length ss));
  read = said_read (take (3 * length ss) (over (words ss) steps)) ss (reads_back ss steps);
}

unwalked-read : (r : Refusal) (rows steps : List ℕ) → ReadsBack (unwalked r rows steps)
unfolding unwalked written_in words concat
unwalked-read r rows steps = record { steps = []; counted = refl; written = refl; read = words_read [] }

-- Walks
range_read : (g : Graph) (a b known first : ℕ) (rows steps : List ℕ) → ReadsBack (walk_range g a b known first rows steps)
unfolding walk_range
range_read g a b known first rows steps = go (rows_too_long (range_of g a b) rows)
  where
    room : ℕ
    room = length steps / 3

    all : List Step
    all = steps_of (range_of g a b) a known first

    go : (t : Bool) → ReadsBack (elim t as (λ _. WalkResult) [
      | true ↦ unwalked RowsTooLong (rows_into (range_of g a b) rows) steps
      | false ↦ wrote g (list_outcome room all) (take room all) (rows_into (range_of g a b) rows) steps
    ])
    go true = unwalked-read RowsTooLong (rows_into (range_of g a b) rows) steps
    go false = wrote-read g (list_outcome room all) (take room all) (rows_into (range_of g a b) rows) steps

walks_read : (g : CausalGraph) (a b known first : ℕ) (rows steps : List ℕ) → ReadsBack (walk_of g a b known first rows steps)
unfolding walk_of
walks_read g a b known first rows steps = go (range_outcome g a b known)
  where
    go : (o : Outcome) → ReadsBack (elim o as (λ _. WalkResult) [ Ok _ ↦ walk_range (view g) a b known first rows steps | Err r ↦ unwalked r rows steps ])
    go (Ok _) = range_read (view g) a b known first rows steps
    go (Err r) = unwalked-read r rows steps

-- Full replays
replays_read : (g : CausalGraph) (rows steps : List ℕ) → ReadsBack (replay_of g rows steps)
unfolding replay_of
replays_read g rows steps = go (broken g)
  where
    all : Replayed
    all = replay_ranges (view g) (cut_from (view g) 0) (length steps / 3) rows

    go : (t : Bool) → ReadsBack (elim t as (λ _. WalkResult) [ true ↦ unwalked Broken rows steps | false ↦ wrote (view g) all.0 all.1 all.2 steps ])
    go true = unwalked-read Broken rows steps
    go false = wrote-read (view g) all.0 all.1 all.2 steps

unmoved : (r : StepReader) (x : Refusal) → (next_from r).0 ≡ Err x → next_from r ≡ (Err UnknownKind, r)
unmoved r x e = ap (handed r) (stays r.words.now r.at x e)

pub round_trip : RoundTrip
round_trip = record {
  words_read = words_read;
  walks_read = walks_read;
  replays_read = replays_read;
  said_read = said_read;
  unsaid_refused = unsaid_refused;
  unmoved = unmoved;
}
