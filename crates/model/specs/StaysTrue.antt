-- 02, F-4: a run start once told true stays true, and what that rests on. Over the definitions that the calls' contracts cite, by value and
-- lent. Assumes nothing.
use Rattle.std.specs.Prelude.{◌≡◌, true, false, List, [], ◌∷◌, ◌++◌, ℕ, ◌≤◌, ◌<◌, get_or, Ok}
use Rattle.model.specs.declared.record.CausalGraph.{CausalGraph}
use Rattle.model.specs.Graph.{Graph, runs, start, marked}
use Rattle.model.specs.Record.{view}
use Rattle.model.specs.Start.{told, start_run_at_of}
use Rattle.model.specs.Log.{Fresh, Call, start_run_at, made_by}

-- A run start at this event is told true: it is not refused, and not told false
abbrev pub ToldTrue : CausalGraph → ℕ → Type 0
ToldTrue g at = (start_run_at_of g at).answer ≡ Ok true

-- An unmarked run starts at event e
pub record UnmarkedAt (g : Graph) (e : ℕ) : Type 0 where
  pub run : ℕ
  pub held : run < runs g
  pub starts : start g run ≡ e
  pub unmarked : marked g run ≡ false

-- Each seen length is the start of a run: of the one that has it, or of one before
abbrev pub SeenStarts : Graph → Type 0
SeenStarts g = (q : ℕ) → q < runs g → (r : ℕ) × (r ≤ q) × (get_or g.seen q 0 ≡ start g r)

pub record StaysTrue : Type 0 where
  -- "for every list of pushes, run starts and takes from a fresh graph, a position that was once told true is told true by any later run
  -- start at it, and that later call leaves the graph unchanged": cs are the calls before the one, ds those between the two
  pub stays : (f : Fresh) (cs ds : List Call) (at : ℕ) → ToldTrue (made_by f cs).0 at →
      let g : CausalGraph = (made_by f (cs ++ start_run_at at ∷ ds)).0 in start_run_at_of g at ≡ told g true
  -- It rests on this. Told true, a run start leaves an unmarked run that starts there ..
  pub leaves_unmarked : (f : Fresh) (cs : List Call) (at : ℕ) → ToldTrue (made_by f cs).0 at → UnmarkedAt (view (made_by f (cs ++ start_run_at at ∷ [])).0) at
  -- .. since seen lengths are run starts: none lies inside the run that is split
  pub seen_starts : (f : Fresh) (cs : List Call) → SeenStarts (view (made_by f cs).0)
  -- An unmarked run stays unmarked, whatever calls follow, and keeps its start
  pub unmarked_stays : (f : Fresh) (cs ds : List Call) (e : ℕ) → UnmarkedAt (view (made_by f cs).0) e → UnmarkedAt (view (made_by f (cs ++ ds)).0) e
  -- Where an unmarked run starts, a run start is told true with nothing done
  pub unmarked_told : (f : Fresh) (cs : List Call) (at : ℕ) → UnmarkedAt (view (made_by f cs).0) at → start_run_at_of (made_by f cs).0 at ≡ told (made_by f cs).0 true
