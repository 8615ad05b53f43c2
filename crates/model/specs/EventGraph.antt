-- The papers' terms. An event graph, happened before, version and critical version are those of Eg-walker (Gentle and Kleppmann,
-- EuroSys 2025, sections 2 and 3); availability is that of Kahn (Topological sorting of large networks, 1962). Assumes nothing.
use Rattle.std.specs.Prelude.{◌≡◌, ◌⊎◌, ◌↔◌, Bool, true, false, not, ◌&&◌, ◌||◌, List, ℕ, zero, suc, ◌<◌, eqb}
use Rattle.lists.specs.Lists.{any, all, filter, mem}

-- Eg-walker: an event graph is a set of events, each of which names its parents among the others
pub record EventGraph : Type 0 where
  pub is_event : ℕ → Bool
  pub parents : ℕ → List ℕ

-- Eg-walker: p happened before e exactly if a path of one or more parent edges leads from e back to p; then p is an ancestor of e
pub data HappenedBefore (G : EventGraph) : ℕ → ℕ → Type 0 where
  parent : {p e : ℕ} → mem p (G.parents e) ≡ true → HappenedBefore G p e
  further : {p q e : ℕ} → mem q (G.parents e) ≡ true → HappenedBefore G p q → HappenedBefore G p e

-- Eg-walker: two events of which neither happened before the other
pub record Concurrent (G : EventGraph) (a b : ℕ) : Type 0 where
  pub other : ¬ (a ≡ b)
  pub not_before : ¬ HappenedBefore G a b
  pub not_after : ¬ HappenedBefore G b a

-- Eg-walker: a version is a set of events none of which happened before another of it
pub record Version (G : EventGraph) (vs : List ℕ) : Type 0 where
  pub events : (e : ℕ) → mem e vs ≡ true → G.is_event e ≡ true
  pub apart : (a b : ℕ) → mem a vs ≡ true → mem b vs ≡ true → ¬ HappenedBefore G a b

-- Eg-walker: Events(V), the members of V and all their ancestors
abbrev pub InEvents : EventGraph → List ℕ → ℕ → Type 0
InEvents G vs e = (mem e vs ≡ true) ⊎ ((v : ℕ) × (mem v vs ≡ true) × HappenedBefore G e v)

-- Eg-walker: the version of a graph is the set of its events with no child
abbrev pub VersionOf : EventGraph → List ℕ → Type 0
VersionOf G vs =
    (e : ℕ) → (mem e vs ≡ true) ↔ ((G.is_event e ≡ true) × ((c : ℕ) → G.is_event c ≡ true → mem e (G.parents c) ≡ false))

-- Of a set of events, those that are parent of none of it: the version of the part of the graph that the set is
unfoldable pub maximal : EventGraph → List ℕ → List ℕ
maximal G es = filter (λ e. all (λ c. not (mem e (G.parents c))) es) es

-- A set of events that has the parents of each of its events
unfoldable pub closed : EventGraph → List ℕ → Bool
closed G es = all (λ e. all (λ p. mem p es) (G.parents e)) es

-- Eg-walker: a version is critical exactly if each event of Events(V) happened before each event that is not in it
pub record Critical (G : EventGraph) (vs : List ℕ) : Type 0 where
  pub version : Version G vs
  pub parts : (a b : ℕ) → InEvents G vs a → G.is_event b ≡ true → ¬ InEvents G vs b → HappenedBefore G a b

-- The events before s are those of a critical version: what 01 calls to start at a critical version
pub record CriticalAt (G : EventGraph) (s : ℕ) : Type 0 where
  pub members : List ℕ
  pub critical : Critical G members
  pub before : (e : ℕ) → InEvents G members e ↔ ((G.is_event e ≡ true) × (e < s))

-- Parents are lower numbers than their children, as in every graph and log here
abbrev pub Lower : EventGraph → Type 0
Lower G = (e p : ℕ) → mem p (G.parents e) ≡ true → p < e

-- p is reached from e along parents, in at most k steps
unfoldable pub reaches : ℕ → EventGraph → ℕ → ℕ → Bool
reaches zero G e p = false
reaches (suc k) G e p = any (λ q. eqb p q || reaches k G q p) (G.parents e)

-- Ancestors by computing. Where parents are lower numbers no path from e is longer than e: `ancestors` of `Meaning` (specs/Meaning.antt)
unfoldable pub ancestor : EventGraph → ℕ → ℕ → Bool
ancestor G e p = reaches e G e p

-- Kahn: an element is available when it is not visited and no predecessor is left unvisited
unfoldable pub available : (ℕ → Bool) → List ℕ → ℕ → Bool
available visited predecessors e = not (visited e) && all visited predecessors
