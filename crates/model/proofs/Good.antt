-- After every list of calls from a fresh start the record is held, its graph tied to the plain log, and no run below `changed_from`
-- differs. Assumes nothing.
use Rattle.std.proofs.Common.{◌≡◌, refl, sym, ap, ◌∙◌, subst, true, List, [], ◌∷◌, ◌++◌, append_assoc, ℕ}
use Rattle.lists.proofs.Bounds.{below_at}
use Rattle.model.specs.declared.record.CausalGraph.{CausalGraph}
use Rattle.model.specs.Graph.{Graph, runs, start, first_held, len, containing, side, held}
use Rattle.model.specs.Record.{view}
use Rattle.model.specs.Broken.{WellFormed, WithinLimits}
use Rattle.model.specs.Fresh.{fresh, after_outcome}
use Rattle.model.specs.Split.{split}
use Rattle.model.specs.Push.{push, push_outcome}
use Rattle.model.specs.Start.{answers, splitting, starting, split_outcome, taken}
use Rattle.model.specs.Log.{Fresh, Call, take_changed_from, Log, begin, empty_log, begin_log, log_push, log_start, after_calls, made_by}
use Rattle.model.specs.Claim.{takeless, Unchanged}
use Rattle.model.proofs.Begins.{fresh-formed, fresh-limits, after-passed}
use Rattle.model.proofs.FormedReads.{first-len}
use Rattle.model.proofs.FormedSplits.{split-len, split-first}
use Rattle.model.proofs.FormedPush.{accepted, pushed-splits, push-formed, push-limits, pushed-len, pushed-first}
use Rattle.model.proofs.FormedCalls.{start-inside, start-formed, start-limits, taken-formed, taken-limits}
use Rattle.model.proofs.Runs.{first_next}
use Rattle.model.proofs.Seen.{Inv}
use Rattle.model.proofs.Keeping.{len_is, first-is, fresh_inv, taken_inv, push_inv, start-split, start-told}
use Rattle.model.proofs.Persisting.{Persists, push_persists, start_persists}
use Rattle.model.proofs.Takes.{Since, zero_persists, since_persists}
use Rattle.model.proofs.Fronts.{Childless, fresh-childless, edge-childless, split-childless, push-childless}
use Rattle.model.proofs.Calls.{Keeps, Kept, calls_keep, takeless_keep, begin_keeps, calls_append}
use Rattle.std.specs.Prelude.{Ok}

-- What every list of calls keeps
pub record Good (g : Graph) (l : Log) : Type 0 where
  pub formed : WellFormed g
  pub limits : WithinLimits g
  pub inv : Inv g l
  pub front : Childless g l

good_fresh : (events : ℕ) (frontier : List ℕ) → after_outcome events frontier ≡ Ok tt → Good (fresh events frontier) (empty_log events)
good_fresh events frontier e =
    let p = after-passed events frontier e in
    record {
      formed = fresh-formed events frontier p.0 p.1;
      limits = fresh-limits events frontier p.2;
      inv = fresh_inv events frontier (below_at events frontier p.1);
      front = fresh-childless events frontier;
    }

good_push : (g : Graph) (l : Log) → Good g l → (ps : List ℕ) (n : ℕ) → push_outcome g ps n ≡ Ok tt → Good (push g ps n) (log_push l ps n)
good_push g l G ps n e =
    let a = accepted g (first-len g G.formed) ps n e in
    record {
      formed = push-formed g G.formed ps n e;
      limits = push-limits g G.formed G.limits ps n e;
      inv = push_inv g l G.inv ps n e;
      front = push-childless g l ps n (first-is g l G.inv) (len_is g l G.inv) (first_next l G.inv.tied.edged)
          (pushed-first g G.formed ps n e) (pushed-len g G.formed ps n e) (pushed-splits g G.formed ps n a).same_len
          a.some a.known G.inv.front.below G.inv.lower G.front;
    }

good_split : (g : Graph) (l : Log) → Good g l → (at : ℕ) → starting g at ≡ splitting → split_outcome g ≡ Ok tt → Good (split g (containing g at) at) (log_start l at)
good_split g l G at e q = record {
  formed = start-formed g G.formed at e;
  limits = start-limits g G.formed G.limits at e q;
  inv = start-split g l G.formed G.inv at e;
  front =
      let b = (start-inside g G.formed at e).0 in
      split-childless g l (containing g at) at (split-first g G.formed (containing g at) at b) (split-len g G.formed (containing g at) at b) G.front;
}

good_told : (g : Graph) (l : Log) → Good g l → (at : ℕ) → starting g at ≡ answers true → Good g (log_start l at)
good_told g l G at e = record { formed = G.formed; limits = G.limits; inv = start-told g l G.formed G.inv at e; front = edge-childless g l at G.front }

taken-childless : (g : Graph) (l : Log) → Childless g l → Childless (taken g) l
unfolding taken held side first_held len runs start containing
taken-childless g l c = c

good_taken : (g : Graph) (l : Log) → Good g l → Good (taken g) l
good_taken g l G = record { formed = taken-formed g G.formed; limits = taken-limits g G.limits; inv = taken_inv g l G.inv; front = taken-childless g l G.front }

keeps_good : Keeps Good
keeps_good = record { formed = λ g l G. G.formed; limits = λ g l G. G.limits; pushes = good_push; splits = good_split; tells = good_told }

-- The record is held after every list of calls, and its graph is all that calls keep
pub made_good : (f : Fresh) (cs : List Call) → Kept Good (made_by f cs).0 (made_by f cs).1
unfolding made_by
made_good f cs = calls_keep Good keeps_good good_taken cs (begin f).1 (begin_log f (begin f).0) (begin_keeps Good keeps_good good_fresh f)

-- Beside it, what splits, growth and new runs keep
good_with : (P : Graph → Type 0) → Persists P → Keeps (λ g l. Good g l × P g)
good_with P K = record {
  formed = λ g l G. G.0.formed;
  limits = λ g l G. G.0.limits;
  pushes = λ g l G ps n e. (good_push g l G.0 ps n e, push_persists P K g ps n G.0.formed e G.1);
  splits = λ g l G at e q. (good_split g l G.0 at e q, start_persists P K g at G.0.formed e G.1);
  tells = λ g l G at e. (good_told g l G.0 at e, G.1);
}

zero-fresh : (events : ℕ) (frontier : List ℕ) → (fresh events frontier).changed ≡ 0
unfolding fresh
zero-fresh events frontier = refl

-- Calls one list after another, from a fresh start
pub made-append : (f : Fresh) (cs ds : List Call) → made_by f (cs ++ ds) ≡ after_calls (made_by f cs).0 (made_by f cs).1 ds
unfolding made_by
made-append f cs ds = calls_append cs ds (begin f).1 (begin_log f (begin f).0)

-- Where takes keep a fact too, it holds after every further list of calls, and after every list if it holds of fresh graphs
module _ (P : Graph → Type 0) (K : Persists P) (takes : (g : Graph) → P g → P (taken g)) where
  abbrev With : Graph → Log → Type 0
  With g l = Good g l × P g

  takes_with : (g : Graph) (l : Log) → With g l → With (taken g) l
  takes_with g l G = (good_taken g l G.0, takes g G.1)

  pub later_with : (f : Fresh) (cs ds : List Call) → P (view (made_by f cs).0) → P (view (made_by f (cs ++ ds)).0)
  later_with f cs ds p =
      let k = made_good f cs in
      subst (λ (m : CausalGraph × Log). P (view m.0)) (sym (made-append f cs ds))
      (calls_keep With (good_with P K) takes_with ds (made_by f cs).0 (made_by f cs).1 (record { held = k.held; fact = (k.fact, p) })).fact.1

  pub made_with : ((events : ℕ) (frontier : List ℕ) → P (fresh events frontier)) → (f : Fresh) (cs : List Call) → P (view (made_by f cs).0)
  unfolding made_by
  made_with h f cs =
      (calls_keep With (good_with P K) takes_with cs (begin f).1 (begin_log f (begin f).0)
      (begin_keeps With (good_with P K) (λ events frontier e. (good_fresh events frontier e, h events frontier)) f)).fact.1

-- `changed_from` is 0 until the first take
pub before_take : (f : Fresh) (ds : List Call) → takeless ds → (made_by f ds).0.changed_from.0 ≡ 0
unfolding made_by view
before_take f ds h =
    let zero : Graph → Type 0 = λ g. g.changed ≡ 0 in
    (takeless_keep (λ g l. Good g l × zero g) (good_with zero zero_persists) ds h (begin f).1 (begin_log f (begin f).0)
    (begin_keeps (λ g l. Good g l × zero g) (good_with zero zero_persists) (λ events frontier e. (good_fresh events frontier e, zero-fresh events frontier)) f)).fact.1

-- After a take no run below `changed_from` differs from what it left
pub since_take : (f : Fresh) (cs ds : List Call) → takeless ds →
    Unchanged (made_by f (cs ++ take_changed_from ∷ [])).0 (made_by f (cs ++ take_changed_from ∷ ds)).0
unfolding Unchanged view
since_take f cs ds h =
    let taking : List Call = cs ++ take_changed_from ∷ [] in
    let T : CausalGraph × Log = made_by f taking in
    let k = made_good f taking in
    let z = takeless_keep (λ g l. Good g l × Since (view T.0) g) (good_with (Since (view T.0)) (since_persists (view T.0))) ds h T.0 T.1
    (record { held = k.held; fact = (k.fact, λ r lt. refl) }) in
    subst (λ (m : CausalGraph). Unchanged T.0 m)
    (ap (λ (m : CausalGraph × Log). m.0) (sym (made-append f taking ds)) ∙
    ap (λ (es : List Call). (made_by f es).0) (append_assoc cs (take_changed_from ∷ []) ds)) z.fact.1
