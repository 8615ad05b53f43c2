-- Words that a call found, written into a lent list: what the code leaves is what the definitions say. Assumes nothing.
use Rattle.std.proofs.Common.{◌≡◌, refl, ap, Bool, true, false, cond, List, [], ◌∷◌, ◌++◌, map, ℕ, ◌/◌, ◌≤◌, ◌<◌, min, arith, length, take, drop, length-take, take_all, ltb, lt-ltb, le-ltb, Ok, Err}
use Rattle.std.proofs.Common.{◌+◌, get_or, add-one, drop-cons}
use Rattle.std.proofs.lemmas.List.{take-map, length-map}
use Rattle.lists.specs.Lists.{concat}
use Rattle.lists.specs.Areas.{over}
use Rattle.model.specs.declared.answers.Written.{Written}
use Rattle.model.specs.declared.answers.Refusal.TheVariants.{ListTooShort}
use Rattle.model.specs.Refusals.{first_of, Outcome}
use Rattle.model.specs.Cut.{writing, unwritten}
use Rattle.graph.specs.Records.{put, put_all}
use Rattle.versions.specs.Words.{counted, all_put, some_put}

one_each : (xs : List ℕ) → concat (map (λ (x : ℕ). x ∷ []) xs) ≡ xs
unfolding concat
one_each [] = refl
one_each (x ∷ xs) = ap (λ (l : List ℕ). x ∷ l) (one_each xs)

module _ (ws lent : List ℕ) where
  -- All words fit, or not
  pub all_fit : (n : ℕ) (l : List ℕ) → n ≡ length ws → l ≡ ws → n ≤ length lent → (counted (Ok n), l ++ drop n lent) ≡ all_put (Ok ws) lent
  unfolding counted all_put over
  all_fit n l e f h = rw (e, f, le-ltb (length lent) (length ws) (omega (arith, e))) refl

  pub none_fit : (n : ℕ) → n ≡ length ws → length lent < n → (counted (Err ListTooShort), lent) ≡ all_put (Ok ws) lent
  unfolding counted all_put unwritten
  none_fit n e h = rw (lt-ltb (length lent) (length ws) (omega (arith, e))) refl

  -- so the test whether they do is a call's last
  pub fits_last : elim (first_of ((ltb (length lent) (length ws), 11) ∷ [])) as (λ _. Written × List ℕ) [
    | Ok _ ↦ (record { count = length ws; outcome = Ok (tt {0}) }, over ws lent)
    | Err r ↦ unwritten r lent
  ] ≡ all_put (Ok ws) lent
  unfolding all_put first_of
  fits_last = go (ltb (length lent) (length ws))
    where
      go : (t : Bool) → elim (cond {A = Outcome} t (Err ListTooShort) (Ok (tt {0}))) as (λ _. Written × List ℕ) [
        | Ok _ ↦ (record { count = length ws; outcome = Ok (tt {0}) }, over ws lent)
        | Err r ↦ unwritten r lent
      ] ≡ cond t (unwritten ListTooShort lent) (record { count = length ws; outcome = Ok (tt {0}) }, over ws lent)
      go true = refl
      go false = refl

  -- Of the words that fit some are left, or none
  pub some_left : (n : ℕ) (l : List ℕ) → n ≡ min (length ws) (length lent) → l ≡ take n ws → n < length ws →
      (record { count = n; outcome = Err ListTooShort }, l ++ drop n lent) ≡ some_put ws lent
  unfolding some_put over
  some_left n l e f h =
      let same : n ≡ length lent = omega (arith, e) in
      let long : length (take (length lent) ws) ≡ length lent = omega (arith, length-take (length lent) ws) in
      rw (f, same, lt-ltb (length lent) (length ws) (omega (arith, e)), long) refl

  pub none_left : (n : ℕ) (l : List ℕ) → n ≡ min (length ws) (length lent) → l ≡ take n ws → length ws ≤ n →
      (record { count = n; outcome = Ok tt }, l ++ drop n lent) ≡ some_put ws lent
  unfolding some_put over
  none_left n l e f h =
      let same : n ≡ length ws = omega (arith, e) in
      let fits : length ws ≤ length lent = omega (arith, e) in
      rw (f, same, le-ltb (length lent) (length ws) fits, take_all (length lent) ws fits, take_all (length ws) ws (omega arith)) refl

  -- Words as records of one word each
  pub records_put : writing 1 (map (λ e. e ∷ []) ws) lent ≡ some_put ws lent
  unfolding writing some_put
  records_put =
      let room : length lent / 1 ≡ length lent = omega arith in
      rw (room, take-map (λ (e : ℕ). e ∷ []) (length lent) ws, length-map ws (λ (e : ℕ). e ∷ []), length-map (take (length lent) ws) (λ (e : ℕ). e ∷ []), one_each (take (length lent) ws)) refl

-- Records of some numbers written one by one: after the one at i those from the next on are left
pub record_next : (f : ℕ → List ℕ) (items : List ℕ) (i : ℕ) (w : Written × List ℕ) → i < length items →
    put_all 1 (put 1 w (f (get_or items i 0))) (map f (drop (i + 1) items)) ≡ put_all 1 w (map f (drop i items))
unfolding put_all
record_next f items i w h = rw (drop-cons items i 0 h, add-one) refl

-- What the code that writes as many words as fit goes by
pub ruleset fitting = (some_left, none_left)
