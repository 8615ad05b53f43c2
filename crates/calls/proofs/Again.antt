-- Two run starts at one event with a list of calls between them are those that 02's law speaks of (F-4). Assumes nothing.
use Rattle.std.proofs.Common.{◌≡◌, sym, ap, ◌∙◌, subst, true, List, ◌∷◌, ◌++◌, ℕ}
use Rattle.model.specs.declared.record.CausalGraph.{CausalGraph}
use Rattle.model.specs.Start.{told, start_run_at_of}
use Rattle.model.specs.Log.{Fresh, Call, start_run_at, Log, answer, made_by}
use Rattle.model.proofs.Good.{made-append}
use Rattle.model.proofs.StaysTrue.{stays_true}
use Rattle.calls.specs.Words.{calls_after, fresh_in, calls_in, called_by, graph_after}
use Rattle.calls.specs.Again.{called_again, StartsAgain}
use Rattle.calls.proofs.Making.{log_free}
use Rattle.std.specs.Prelude.{Ok}
use Rattle.model.specs.Answers.{Started}

-- The graph after calls, a run start and further calls
made_on : (f : Fresh) (cs ds : List Call) (at : ℕ) → graph_after (start_run_at_of (made_by f cs).0 at).graph ds ≡ (made_by f (cs ++ start_run_at at ∷ ds)).0
unfolding graph_after answer
made_on f cs ds at =
    sym (ap (λ (m : CausalGraph × Log). m.0) (made-append f cs (start_run_at at ∷ ds)) ∙ log_free (made_by f cs).0 (made_by f cs).1 (start_run_at at ∷ ds))

-- What the four calls gave, as one
module _ (ws : List ℕ) (at : ℕ) (between : List ℕ) (g h : CausalGraph) (s t : Started) (called : g ≡ (called_by ws).0) (started : s ≡ start_run_at_of g at)
    (Called-on : h ≡ graph_after s.graph (calls_after 0 between)) (started-again : t ≡ start_run_at_of h at) where
  first : s ≡ start_run_at_of (called_by ws).0 at
  first = started ∙ ap (λ (x : CausalGraph). start_run_at_of x at) called

  given : h ≡ called_again ws at between
  given =
      Called-on ∙ ap (λ (x : Started). graph_after x.graph (calls_after 0 between)) first ∙ made_on (fresh_in ws) (calls_in ws) (calls_after 0 between) at

  stays : s.answer ≡ Ok true → t ≡ told h true
  stays e =
      started-again ∙
      subst (λ (x : CausalGraph). start_run_at_of x at ≡ told x true) (sym given)
      (stays_true.stays (fresh_in ws) (calls_in ws) (calls_after 0 between) at (sym (ap (λ (x : Started). x.answer) first) ∙ e))

  pub starts-again : StartsAgain ws at between (record { first = s.answer; given = h; again = t.answer; left = t.graph })
  unfolding told
  starts-again = record {
    first = ap (λ (x : Started). x.answer) first;
    given = given;
    again = ap (λ (x : Started). x.answer) started-again;
    left = ap (λ (x : Started). x.graph) started-again;
    stays = λ e. (ap (λ (x : Started). x.answer) (stays e), ap (λ (x : Started). x.graph) (stays e));
  }
