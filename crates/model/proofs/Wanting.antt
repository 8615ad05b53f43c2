-- The wanted parents give the marked events, and nothing else does. Assumes nothing.
use Rattle.std.proofs.Common.{◌≡◌, refl, sym, ap, ◌∙◌, subst, ◌⊎◌, inl, inr, ◌↔◌, Bool, true, false, not, List, [], ◌∷◌, ◌++◌, ℕ, ◌-◌, ◌≤◌, ◌<◌, arith, length, take, drop, ltb, ltb-true}
use Rattle.std.proofs.Common.{ltb-false, le-ltb}
use Rattle.lists.specs.Lists.{all, filter, from, mem, rising}
use Rattle.lists.specs.Areas.{over}
use Rattle.lists.proofs.Truth.{bool_iff, false_true, not_so, and_left, and_right, or_cases}
use Rattle.lists.proofs.Members.{mem-first, mem-rest, mem-append, all_of, all-at}
use Rattle.lists.proofs.Counts.{mem-from}
use Rattle.lists.proofs.Pads.{take-over, drop-over}
use Rattle.lists.proofs.Rising.{rising_tail, rising_above, rising-filter, rising-from, rising-join, rising-only}
use Rattle.model.specs.declared.record.CausalGraph.{CausalGraph}
use Rattle.model.specs.declared.record.EventIndex.{EventIndex}
use Rattle.model.specs.declared.answers.Written.{Written}
use Rattle.model.specs.EventGraph.{EventGraph, HappenedBefore, parent, InEvents, Version, maximal, closed, Lower}
use Rattle.model.specs.Refusals.{number, refusal, first_of, Outcome}
use Rattle.model.specs.Answers.{outcome_number}
use Rattle.model.specs.Graph.{Graph, len, side, is_held, all_held}
use Rattle.model.specs.Record.{Sized, view}
use Rattle.model.specs.Broken.{broken, WellFormed}
use Rattle.model.specs.Cut.{unwritten}
use Rattle.model.specs.Push.{push_of}
use Rattle.model.specs.HeldEvents.{held_events}
use Rattle.model.specs.Wanted.{events_in, paired, ranges, wanted_parents, wanted_outcome, wanted_parents_of, Gives, ended, Wanted}
use Rattle.model.specs.Log.{Log, Fresh, Call, push, made_by, log_push, event_graph}
use Rattle.model.proofs.Stored.{held_of}
use Rattle.model.proofs.Ancestry.{before_trans}
use Rattle.model.proofs.Maximal.{closed_at, closed_of, maximal_in, maximal_has, maximal-apart, maximal-events}
use Rattle.model.proofs.Siding.{held-between}
use Rattle.model.proofs.Seen.{Inv, len_tied, first_tied, lower_tied}
use Rattle.model.proofs.Telling.{events_are, push-told}
use Rattle.model.proofs.PushedOn.{push_sees, push_logged}
use Rattle.model.proofs.OwnLog.{held-lower}
use Rattle.model.proofs.Good.{made_good, made-append}
use Rattle.std.specs.Prelude.{Ok, Err}

-- Nothing is marked by no ranges
none-marked : {A : Type 0} (e : ℕ) → mem e [] ≡ true → A
unfolding mem
none-marked e m = false_true m

-- A marked event is one of the first range or of the others
marked-either : (a b e : ℕ) (ws : List ℕ) → mem e (events_in (a ∷ b ∷ ws)) ≡ true → (mem e (from a (b - a)) ≡ true) ⊎ (mem e (events_in ws) ≡ true)
unfolding events_in
marked-either a b e ws m = or_cases (mem e (from a (b - a))) (mem e (events_in ws)) (sym (mem-append e (from a (b - a)) (events_in ws)) ∙ m)

-- Marked events lie above what their ranges do
pub events_above : (low : ℕ) (ws : List ℕ) → ((w : ℕ) → mem w ws ≡ true → low < w) → (e : ℕ) → mem e (events_in ws) ≡ true → low < e
unfolding events_in
events_above low [] h e m = none-marked e m
events_above low (a ∷ []) h e m = none-marked e m
events_above low (a ∷ b ∷ ws) h e m =
    cases (marked-either a b e ws m) (λ n. events_above low ws (λ w k. h w (mem-rest a w (b ∷ ws) (mem-rest b w ws k))) e n)
  where
    cases : (mem e (from a (b - a)) ≡ true) ⊎ (mem e (events_in ws) ≡ true) → (mem e (events_in ws) ≡ true → low < e) → low < e
    cases (inl n) ih = omega (arith, (mem-from e a (b - a) n).0, h a (mem-first a (b ∷ ws)))
    cases (inr n) ih = ih n

-- and rise as these do
pub events-rise : (ws : List ℕ) → rising ws ≡ true → rising (events_in ws) ≡ true
unfolding events_in rising
events-rise [] h = refl
events-rise (a ∷ []) h = refl
events-rise (a ∷ b ∷ ws) h =
    let lt : a < b = ltb-true a b (and_left (ltb a b) (rising (b ∷ ws)) h) in
    let k : rising (b ∷ ws) ≡ true = and_right (ltb a b) (rising (b ∷ ws)) h in
    rising-join (from a (b - a)) (events_in ws) (rising-from a (b - a)) (events-rise ws (rising_tail b ws k))
    (λ x y m n. omega (arith, (mem-from x a (b - a) m).0, (mem-from x a (b - a) m).1, events_above b ws (λ w q. rising_above b ws k w q) y n))

-- A set that a list gives is closed
gives-closed : (G : EventGraph) (vs es : List ℕ) → Gives G vs es → closed G es ≡ true
gives-closed G vs es h = closed_of G es (λ e p m n. (h p).0 (onward e p n ((h e).1 m)))
  where
    onward : (e p : ℕ) → mem p (G.parents e) ≡ true → InEvents G vs e → InEvents G vs p
    onward e p n (inl m) = inr (e, m, parent n)
    onward e p n (inr t) = inr (t.0, t.1, before_trans G (parent n) t.2)

-- A version that gives a set is its maximal events
version-maximal : (G : EventGraph) (vs es : List ℕ) → Version G vs → Gives G vs es → rising vs ≡ true → rising es ≡ true → vs ≡ maximal G es
unfolding maximal
version-maximal G vs es ver h r k =
    rising-only vs (maximal G es) r (rising-filter (λ e. all (λ c. not (mem e (G.parents c))) es) es k) (λ v.
    bool_iff (mem v vs) (mem v (maximal G es))
    (λ m. maximal_has G es v ((h v).0 (inl m)) (λ c n p. childless v m c p ((h c).1 n)))
    (λ m. member v m ((h v).1 (maximal_in G es v m))))
  where
    childless : (v : ℕ) → mem v vs ≡ true → (c : ℕ) → mem v (G.parents c) ≡ true → InEvents G vs c → ⊥
    childless v m c p (inl n) = ver.apart v c m n (parent p)
    childless v m c p (inr t) = ver.apart v t.0 m t.1 (before_trans G (parent p) t.2)

    member : (v : ℕ) → mem v (maximal G es) ≡ true → InEvents G vs v → mem v vs ≡ true
    member v m (inl n) = n
    member v m (inr t) = absurd (maximal-apart G es (closed_at G es (gives-closed G vs es h)) v t.0 m ((h t.0).0 (inl t.1)) t.2)

words-rise : (ws : List ℕ) → ranges ws ≡ true → rising (events_in ws) ≡ true
unfolding ranges
words-rise ws h = events-rise ws (and_left (rising ws) (paired ws) h)

wanted_rises : (g : Graph) (ws : List ℕ) → ranges ws ≡ true → rising (wanted_parents g ws) ≡ true
unfolding wanted_parents maximal
wanted_rises g ws h = rising-filter (λ e. all (λ c. not (mem e ((held_events g).parents c))) (events_in ws)) (events_in ws) (words-rise ws h)

module _ (g : Graph) (ws : List ℕ) (formed : WellFormed g) where
  abbrev E : EventGraph
  E = held_events g

  abbrev es : List ℕ
  es = events_in ws

  module _ (h : all_held g es ≡ true) (k : closed E es ≡ true) where
    marked-held : (e : ℕ) → mem e es ≡ true → is_held (side g e) ≡ true
    unfolding all_held
    marked-held e m = all-at (λ x. is_held (side g x)) es h e m

    wanted_gives : Gives E (wanted_parents g ws) es
    unfolding wanted_parents
    wanted_gives = maximal-events E es (held-lower g formed) (len g) (λ e m. (held-between g e (marked-held e m)).1) (closed_at E es k)

    wanted_held : (e : ℕ) → mem e (wanted_parents g ws) ≡ true → is_held (side g e) ≡ true
    unfolding wanted_parents
    wanted_held e m = marked-held e (maximal_in E es e m)

    wanted_version : Version E (wanted_parents g ws)
    unfolding wanted_parents
    wanted_version = record { events = wanted_held; apart = λ a b m n. maximal-apart E es (closed_at E es k) a b m (maximal_in E es b n) }

  wanted_none : all_held g es ≡ true → (closed E es ≡ false) ↔ ((vs : List ℕ) → all_held g vs ≡ true → ¬ Gives E vs es)
  unfolding all_held
  wanted_none h = (
    (λ e vs w y. false_true (sym e ∙ gives-closed E vs es y)),
    (λ n. not_so (closed E es) (λ k. n (wanted_parents g ws) (all_of (λ e. is_held (side g e)) (wanted_parents g ws) (wanted_held h k)) (wanted_gives h k))),
  )

-- What the tests say where the call is done, and where it is 17
done_tests : (a b c d e : Bool) → first_of ((a, 1) ∷ (not b, 3) ∷ (not c, 4) ∷ (not d, 17) ∷ (e, 11) ∷ []) ≡ Ok tt →
    (a ≡ false) × (b ≡ true) × (c ≡ true) × (d ≡ true) × (e ≡ false)
unfolding first_of outcome_number number
done_tests true b c d e h = absurd (omega (arith, ap outcome_number h))
done_tests false false c d e h = absurd (omega (arith, ap outcome_number h))
done_tests false true false d e h = absurd (omega (arith, ap outcome_number h))
done_tests false true true false e h = absurd (omega (arith, ap outcome_number h))
done_tests false true true true true h = absurd (omega (arith, ap outcome_number h))
done_tests false true true true false h = (refl, refl, refl, refl, refl)

none_tests : (a b c d e : Bool) → first_of ((a, 1) ∷ (not b, 3) ∷ (not c, 4) ∷ (not d, 17) ∷ (e, 11) ∷ []) ≡ Err (refusal 17) →
    (a ≡ false) × (b ≡ true) × (c ≡ true) × (d ≡ false)
unfolding first_of outcome_number number
none_tests true b c d e h = absurd (omega (arith, ap outcome_number h))
none_tests false false c d e h = absurd (omega (arith, ap outcome_number h))
none_tests false true false d e h = absurd (omega (arith, ap outcome_number h))
none_tests false true true false e h = (refl, refl, refl, refl)
none_tests false true true true true h = absurd (omega (arith, ap outcome_number h))
none_tests false true true true false h = absurd (omega (arith, ap outcome_number h))

module _ (g : CausalGraph) (ws lent : List ℕ) where
  abbrev answered : Outcome → Written × List ℕ
  answered o = elim o as (λ _. Written × List ℕ) [
    | Ok _ ↦ (record { count = length (wanted_parents (view g) ws); outcome = Ok tt }, over (wanted_parents (view g) ws) lent)
    | Err r ↦ unwritten r lent
  ]

  ends_so : (wanted_parents_of g ws lent).0.outcome ≡ wanted_outcome g ws lent
  unfolding wanted_parents_of unwritten
  ends_so = go (wanted_outcome g ws lent)
    where
      go : (o : Outcome) → (answered o).0.outcome ≡ o
      go (Ok _) = refl
      go (Err r) = refl

  abbrev Tests : Bool → Type 0
  Tests d = (broken g ≡ false) × (ranges ws ≡ true) × (all_held (view g) (events_in ws) ≡ true) × (closed (held_events (view g)) (events_in ws) ≡ d)

  done_all : wanted_outcome g ws lent ≡ Ok tt →
      (broken g ≡ false) × (ranges ws ≡ true) × (all_held (view g) (events_in ws) ≡ true) × (closed (held_events (view g)) (events_in ws) ≡ true) ×
      (ltb (length lent) (length (wanted_parents (view g) ws)) ≡ false)
  unfolding wanted_outcome
  done_all h = done_tests (broken g) (ranges ws) (all_held (view g) (events_in ws)) (closed (held_events (view g)) (events_in ws)) _ h

  done_so : ended g ws lent (Ok tt) → Tests true
  done_so h = let t = done_all (sym ends_so ∙ h) in (t.0, t.1, t.2, t.3)

  wanted_written : ended g ws lent (Ok tt) →
      (take (wanted_parents_of g ws lent).0.count (wanted_parents_of g ws lent).1 ≡ wanted_parents (view g) ws) ×
      (drop (wanted_parents_of g ws lent).0.count (wanted_parents_of g ws lent).1 ≡ drop (wanted_parents_of g ws lent).0.count lent)
  unfolding wanted_parents_of
  wanted_written h =
      let vs : List ℕ = wanted_parents (view g) ws in
      subst (λ (o : Outcome). (take (answered o).0.count (answered o).1 ≡ vs) × (drop (answered o).0.count (answered o).1 ≡ drop (answered o).0.count lent))
      (sym (sym ends_so ∙ h)) (take-over vs lent (length vs) refl, drop-over vs lent (length vs) refl)

  wanted_fits : (wanted_parents_of g ws lent).0.count ≤ length lent
  unfolding wanted_parents_of unwritten
  wanted_fits = go (wanted_outcome g ws lent) refl
    where
      go : (o : Outcome) → wanted_outcome g ws lent ≡ o → (answered o).0.count ≤ length lent
      go (Ok _) e = ltb-false (length lent) (length (wanted_parents (view g) ws)) (done_all e).4
      go (Err r) e = omega arith

  none_so : ended g ws lent (Err (refusal 17)) → Tests false
  unfolding wanted_outcome
  none_so h = none_tests (broken g) (ranges ws) (all_held (view g) (events_in ws)) (closed (held_events (view g)) (events_in ws)) _ (sym ends_so ∙ h)

  so_none : Tests false → ended g ws lent (Err (refusal 17))
  unfolding wanted_outcome first_of
  so_none t = ends_so ∙ rw (t.0, t.1, t.2, t.3)

  call_none : Sized g → ended g ws lent (Err (refusal 17)) ↔
      ((broken g ≡ false) × (ranges ws ≡ true) × (all_held (view g) (events_in ws) ≡ true) ×
      ((vs : List ℕ) → all_held (view g) vs ≡ true → ¬ Gives (held_events (view g)) vs (events_in ws)))
  call_none sized = (
    (λ h. let t = none_so h in (t.0, t.1, t.2, (wanted_none (view g) ws (held_of g sized t.0).formed t.2).0 t.3)),
    (λ n. so_none (n.0, n.1, n.2, (wanted_none (view g) ws (held_of g sized n.0).formed n.2).1 n.3)),
  )

wanted_pushed : (f : Fresh) (cs : List Call) (ws lent : List ℕ) (n : ℕ) (a b : EventIndex) → let g : CausalGraph = (made_by f cs).0 in
    ended g ws lent (Ok tt) → (push_of g (wanted_parents (view g) ws) n).answer ≡ Ok (a, b) →
    (e : ℕ) → HappenedBefore (event_graph (made_by f (cs ++ push (wanted_parents (view g) ws) n ∷ [])).1) e a.0 ↔ (mem e (events_in ws) ≡ true)
wanted_pushed f cs ws lent n a b done q e =
    let tests = done_so (made_by f cs).0 ws lent done in
    let h = tests.2 in
    let k = tests.3 in
    let g : Graph = view (made_by f cs).0 in
    let l : Log = (made_by f cs).1 in
    let ps : List ℕ = wanted_parents g ws in
    let formed : WellFormed g = (made_good f cs).fact.formed in
    let v : Inv g l = (made_good f cs).fact.inv in
    let low : Lower (event_graph l) = lower_tied l v.lower in
    let held : (p : ℕ) → mem p ps ≡ true → (l.first_held ≤ p) × (p < l.next) = λ p m.
    let i = held-between g p (wanted_held g ws formed h k p m) in
    (omega (arith, i.0, first_tied g l v.tied), omega (arith, i.1, len_tied g l v.tied)) in
    let logged : (made_by f (cs ++ push ps n ∷ [])).1 ≡ log_push l ps n =
    ap (λ (m : CausalGraph × Log). m.1) (made-append f cs (push ps n ∷ [])) ∙ push_logged (made_by f cs).0 l ps n a b q in
    let first : a.0 ≡ l.next = (push-told (made_by f cs).0 l (len_tied g l v.tied) ps n a b q).0 in
    let gives : Gives (event_graph l) ps (events_in ws) =
    subst (λ (G : EventGraph). Gives G ps (events_in ws)) (events_are g l v.tied v.lower) (wanted_gives g ws formed h k) in
    subst (λ (m : Log). HappenedBefore (event_graph m) e a.0 ↔ (mem e (events_in ws) ≡ true)) (sym logged)
    (subst (λ (x : ℕ). HappenedBefore (event_graph (log_push l ps n)) e x ↔ (mem e (events_in ws) ≡ true)) (sym first)
    ((λ x. (gives e).0 ((push_sees l low ps n held e).0 x)), (λ m. (push_sees l low ps n held e).1 ((gives e).1 m))))

nothing_wanted : (g : CausalGraph) (lent : List ℕ) → broken g ≡ false → wanted_parents_of g [] lent ≡ (record { count = 0; outcome = Ok tt }, lent)
unfolding wanted_parents_of wanted_outcome first_of ranges paired rising events_in all_held all wanted_parents maximal filter closed over
nothing_wanted g lent h =
    let none : length (wanted_parents (view g) []) ≡ 0 = refl in
    let done : wanted_outcome g [] lent ≡ (Ok tt) = rw (h, le-ltb (length lent) (length (wanted_parents (view g) [])) (omega (arith, none))) in
    rw (done, wanted_parents_of) refl

-- What is claimed of the wanted parents
pub wanted : Wanted
wanted = record {
  gives = λ g ws lent sized done.
      let t = done_so g ws lent done in
      let formed = (held_of g sized t.0).formed in
      (wanted_version (view g) ws formed t.2 t.3, wanted_gives (view g) ws formed t.2 t.3);
  rises = λ g ws lent done. wanted_rises (view g) ws (done_so g ws lent done).1;
  only = λ g ws vs h r v y. unfold wanted_parents in version-maximal (held_events g) vs (events_in ws) v y r (words-rise ws h);
  none = call_none;
  pushed = wanted_pushed;
  written = wanted_written;
  fits = wanted_fits;
  nothing = nothing_wanted;
}
