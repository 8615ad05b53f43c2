-- A critical version is one whose events happened before all others; a marked run starts at one. Assumes nothing.
use Rattle.std.proofs.Common.{◌≡◌, ◌⊎◌, inl, inr, ◌↔◌, true, List, ℕ, suc, ◌-◌, ◌≤◌, ◌<◌, arith, length, leb, leb-true}
use Rattle.lists.specs.Lists.{filter, upto, mem}
use Rattle.lists.proofs.Truth.{lt_or_le}
use Rattle.lists.proofs.Members.{mem-filter}
use Rattle.lists.proofs.Counts.{count_le}
use Rattle.lists.proofs.Passing.{passing}
use Rattle.model.specs.EventGraph.{EventGraph, HappenedBefore, ancestor, InEvents, maximal, CriticalAt, Lower}
use Rattle.model.specs.Graph.{Graph, marked}
use Rattle.model.specs.Archive.{SeenByAll}
use Rattle.model.specs.Log.{Log, run_start, held_of, held_before, event_graph}
use Rattle.model.proofs.Ancestry.{ancestor_iff}
use Rattle.model.proofs.Maximal.{maximal_in, maximal-apart, maximal-events}
use Rattle.model.proofs.Exact.{ancestors}
use Rattle.model.proofs.Runs.{held-is, held_bounds, run_of}
use Rattle.model.proofs.Tied.{Tied, mono, down, in_run_lem}
use Rattle.model.proofs.Seen.{Seen, containing-is, reaches_more}
use Rattle.model.proofs.Marked.{marked-is}

-- The parents of events are events
abbrev pub Inside : EventGraph → Type 0
Inside G = (e p : ℕ) → G.is_event e ≡ true → mem p (G.parents e) ≡ true → G.is_event p ≡ true

module _ (G : EventGraph) (low : Lower G) (inside : Inside G) (s : ℕ) where
  -- The events before s, and those of them that are maximal
  abbrev before : List ℕ
  before = filter G.is_event (upto s)

  abbrev tops : List ℕ
  tops = maximal G before

  before_in : (e : ℕ) → mem e before ≡ true → (e < s) × (G.is_event e ≡ true)
  before_in e = (passing G.is_event s e).0

  before_has : (e : ℕ) → (e < s) × (G.is_event e ≡ true) → mem e before ≡ true
  before_has e = (passing G.is_event s e).1

  before-closed : (e p : ℕ) → mem e before ≡ true → mem p (G.parents e) ≡ true → mem p before ≡ true
  before-closed e p m n = before_has p (omega (arith, low e p n, (before_in e m).0), inside e p (before_in e m).1 n)

  is_in : (e : ℕ) → InEvents G tops e ↔ (mem e before ≡ true)
  is_in = maximal-events G before low s (λ e m. (before_in e m).0) before-closed

  seen-critical : SeenByAll G s → CriticalAt G s
  seen-critical seen = record {
    members = tops;
    critical = record {
      version = record {
        events = λ e m. (before_in e (maximal_in G before e m)).1;
        apart = λ a b m n. maximal-apart G before before-closed a b m (maximal_in G before b n);
      };
      parts = λ a b u h v. let i = before_in a ((is_in a).0 u) in seen a b i.1 i.0 h (past b h v (lt_or_le b s));
    };
    before = λ e. ((λ u. let i = before_in e ((is_in e).0 u) in (i.1, i.0)), (λ h. (is_in e).1 (before_has e (h.1, h.0))));
  }
    where
      past : (b : ℕ) → G.is_event b ≡ true → ¬ InEvents G tops b → (b < s) ⊎ (s ≤ b) → s ≤ b
      past b h v (inl c) = absurd (v ((is_in b).1 (before_has b (c, h))))
      past b h v (inr c) = c

  critical-seen : CriticalAt G s → SeenByAll G s
  critical-seen c a b h lt k le = c.critical.parts a b ((c.before a).1 (h, lt)) k (λ u. omega (arith, ((c.before b).0 u).1))

  -- The events before s are those of a critical version exactly if each happened before each event from s on
  pub critical_iff : SeenByAll G s ↔ CriticalAt G s
  critical_iff = (seen-critical, critical-seen)

-- A log's parents are events where their children are
pub log_inside : (l : Log) → Lower (event_graph l) → Inside (event_graph l)
unfolding held_of
log_inside l low e p h m =
    held-is l l.next p (leb-true l.first_held p (mem-filter (λ q. leb l.first_held q) p (l.parents e) m).1)
    (omega (arith, low e p m, (held_bounds l l.next e h).1))

module _ (g : Graph) (l : Log) (t : Tied g l) (lower : Lower (event_graph l)) where
  -- An event from a run's start on is in a run from that one on
  pub run_past : (r b : ℕ) → held_before l l.next b ≡ true → run_start l r ≤ b → r ≤ run_of l b
  run_past r b h le = go (in_run_lem g l t b h).1 (lt_or_le (run_of l b) r)
    where
      go : b < run_start l (suc (run_of l b)) → (run_of l b < r) ⊎ (r ≤ run_of l b) → r ≤ run_of l b
      go u (inl c) = absurd (omega (arith, mono g l t (suc (run_of l b)) r c))
      go u (inr c) = c

  -- The run of a held event is one of the log's
  pub run-held : (b : ℕ) → held_before l l.next b ≡ true → run_of l b < length l.edges
  unfolding run_of
  run-held b h = omega (arith, containing-is g l t b (held_bounds l l.next b h).1 (held_bounds l l.next b h).0, count_le (λ s. leb s b) l.edges)

  -- What happened before an event's run happened before the event
  pub run-before : (a b : ℕ) → held_before l l.next b ≡ true → ancestors l (run_start l (run_of l b)) a ≡ true → HappenedBefore (event_graph l) a b
  unfolding ancestors ancestor
  run-before a b h up =
      let n : ℕ = run_of l b in
      let i : (run_start l n ≤ b) × (b < run_start l (suc n)) = in_run_lem g l t b h in
      (ancestor_iff (event_graph l) lower b a).1 (down g l t (b - run_start l n) b n b a (omega (arith, i.0)) i.1 (omega arith)
      (inl (λ j k. reaches_more (run_start l n) j (event_graph l) (run_start l n) a k up)))

-- A marked run starts at a critical version
pub marks_critical : (g : Graph) (l : Log) → Tied g l → Seen g l → Lower (event_graph l) → (r : ℕ) → r < length l.edges → marked g r ≡ true →
    CriticalAt (event_graph l) (run_start l r)
marks_critical g l t S lower r lt m =
    (critical_iff (event_graph l) lower (log_inside l lower) (run_start l r)).0 (λ a b h q k le.
    let few = run-held g l t lower b k in
    let seen = (marked-is g l t S r lt m).1 (run_of l b) (run_past g l t lower r b k le) few in
    run-before g l t lower a b k (S.sound (run_of l b) a few (held_bounds l l.next a h).0 (omega (arith, seen))))
