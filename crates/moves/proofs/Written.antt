-- What the writer leaves of the definitions' steps is what the definitions write, cut to the room. Assumes nothing.
use Rattle.std.proofs.Common.{◌≡◌, refl, sym, ap, ap₂, ◌∙◌, List, [], ◌∷◌, ◌++◌, map, ℕ, zero, suc, ◌+◌, ◌-◌, ◌*◌, ◌/◌, arith, length, get_or, take, drop, ltb}
use lib.ListN.{length-map}
use Rattle.lists.specs.Lists.{concat, from}
use Rattle.lists.specs.Areas.{over}
use Rattle.model.specs.Graph.{Graph, start}
use Rattle.model.specs.Steps.{Step, retreat, advance, apply, opened, step_words, words, moved_in}
use Rattle.model.proofs.Reading.{words-length}
use Rattle.moves.specs.declared.writing.Kind.TheVariants.{Retreat, Advance, Apply, Open}
use Rattle.moves.specs.Emit.{Rec, Writing, going, step_of, emit_one, emit, applies}
use Rattle.moves.specs.Moves.{rec_of, recs}
use Rattle.moves.proofs.Emitting.{emit-append}
use Rattle.moves.proofs.Closing.{rec_words, rec_events, told, emit-fresh}
use Rattle.moves.proofs.Defined.{map-append}

-- Some steps after others are all of them
pub emit_then : (gst : List ℕ) (w : Writing) (ss ts : List Step) → emit (emit w (recs gst ss)) (recs gst ts) ≡ emit w (recs gst (ss ++ ts))
emit_then gst w ss ts = sym (ap (emit w) (map-append (rec_of gst) ss ts) ∙ emit-append w (recs gst ss) (recs gst ts))

-- Records of runs that start alike are alike
pub recs-same : (st st' : List ℕ) → ((i : ℕ) → get_or st i 0 ≡ get_or st' i 0) → (ss : List Step) → recs st ss ≡ recs st' ss
unfolding rec_of
recs-same st st' h [] = refl
recs-same st st' h (retreat a b ∷ ss) = ap₂ (λ (n : ℕ) (l : List Rec). step_of Retreat a b n ∷ l) (ap₂ (λ (x y : ℕ). x - y) (h b) (h a)) (recs-same st st' h ss)
recs-same st st' h (advance a b ∷ ss) = ap₂ (λ (n : ℕ) (l : List Rec). step_of Advance a b n ∷ l) (ap₂ (λ (x y : ℕ). x - y) (h b) (h a)) (recs-same st st' h ss)
recs-same st st' h (apply r ∷ ss) = ap (λ (l : List Rec). step_of Apply r (suc r) 0 ∷ l) (recs-same st st' h ss)
recs-same st st' h (opened a b ∷ ss) = ap (λ (l : List Rec). step_of Open a b 0 ∷ l) (recs-same st st' h ss)

-- Open of a range
pub open_is : (gst : List ℕ) (w : Writing) (a b : ℕ) → emit_one w (step_of Open a b 0) ≡ emit w (recs gst (opened a b ∷ []))
unfolding emit rec_of
open_is gst w a b = refl

-- Runs applied in order
pub applies_are : (gst : List ℕ) (a n : ℕ) → applies a n ≡ recs gst (map apply (from a n))
unfolding applies from rec_of
applies_are gst a zero = refl
applies_are gst a (suc n) = let e : a + 1 ≡ suc a = omega arith in rw e (ap (λ (l : List Rec). step_of Apply a (suc a) 0 ∷ l) (applies_are gst (suc a) n))

-- Records are the definitions' steps, in words and in the events moved
words_are : (gst : List ℕ) (ss : List Step) → rec_words (recs gst ss) ≡ words ss
unfolding rec_words words step_words concat rec_of
words_are gst [] = refl
words_are gst (retreat a b ∷ ss) = ap (λ (l : List ℕ). 0 ∷ a ∷ b ∷ l) (words_are gst ss)
words_are gst (advance a b ∷ ss) = ap (λ (l : List ℕ). 1 ∷ a ∷ b ∷ l) (words_are gst ss)
words_are gst (apply r ∷ ss) = ap (λ (l : List ℕ). 2 ∷ r ∷ suc r ∷ l) (words_are gst ss)
words_are gst (opened a b ∷ ss) = ap (λ (l : List ℕ). 3 ∷ a ∷ b ∷ l) (words_are gst ss)

events_are : (g : Graph) (ss : List Step) → rec_events (recs g.starts ss) ≡ moved_in g ss
unfolding rec_events moved_in rec_of start
events_are g [] = refl
events_are g (retreat a b ∷ ss) = ap (λ (k : ℕ). (get_or g.starts b 0 - get_or g.starts a 0) + k) (events_are g ss)
events_are g (advance a b ∷ ss) = ap (λ (k : ℕ). (get_or g.starts b 0 - get_or g.starts a 0) + k) (events_are g ss)
events_are g (apply r ∷ ss) = omega (arith, events_are g ss)
events_are g (opened a b ∷ ss) = omega (arith, events_are g ss)

take-recs : (gst : List ℕ) (k : ℕ) (ss : List Step) → take k (recs gst ss) ≡ recs gst (take k ss)
take-recs gst zero ss = refl
take-recs gst (suc k) [] = refl
take-recs gst (suc k) (s ∷ ss) = ap (λ (l : List Rec). rec_of gst s ∷ l) (take-recs gst k ss)

-- Steps in an empty list of some room: those that fit are written, counted and moved, and it was too short if not all fit
pub written_is : (g : Graph) (ss : List Step) (area : List ℕ) → let fit : List Step = take (length area / 3) ss in
    emit (going 0 0, area) (recs g.starts ss)
    ≡ (record { count = length fit; moved = moved_in g fit; outcome = told (ltb (length area / 3) (length ss)) }, over (words fit) area)
unfolding over
written_is g ss area =
    let room : ℕ = length area / 3 in
    let t : take room (recs g.starts ss) ≡ recs g.starts (take room ss) = take-recs g.starts room ss in
    let len : length (take room (recs g.starts ss)) ≡ length (take room ss) = ap length t ∙ length-map (take room ss) (rec_of g.starts) in
    let ws : rec_words (take room (recs g.starts ss)) ≡ words (take room ss) = ap rec_words t ∙ words_are g.starts (take room ss) in
    let mv : rec_events (take room (recs g.starts ss)) ≡ moved_in g (take room ss) = ap rec_events t ∙ events_are g (take room ss) in
    let three : 3 * length (take room (recs g.starts ss)) ≡ length (words (take room ss)) = omega (arith, len, words-length (take room ss)) in
    let sh : ltb room (length (recs g.starts ss)) ≡ ltb room (length ss) = ap (ltb room) (length-map ss (rec_of g.starts)) in
    emit-fresh (recs g.starts ss) area ∙ (λ i. (record { count = len i; moved = mv i; outcome = told (sh i) }, ws i ++ drop (three i) area))
