-- Words that begin with no start or no call, the parts of a call, and sizes, starts and calls of a list of words case by case. Assumes nothing.
use Rattle.std.proofs.Common.{◌≡◌, refl, sym, ◌∙◌, ap, List, [], ◌∷◌, ℕ, ◌+◌, ◌-◌, ◌≤◌, ◌<◌, length, get_or, arith, Bool, true, false, cond, leb, eqb, leb-true, le-leb, eq-eqb, ne_eqb}
use borrow.Author.Tests.{lt-leb}
use Rattle.model.specs.Log.{new, after, push, start_run_at, take_changed_from}
use Rattle.calls.specs.Words.{operation, list_in, whole, listed, start_size, start_of, call_operation, call_size, call_of}

-- The size of a call that is there, and of one that is cut off
pub whole-all : (n : ℕ) (ws : List ℕ) → n ≤ length ws → n ≡ whole n ws
unfolding whole
whole-all n ws h = rw (le-leb n (length ws) h)

pub whole_cut : (n : ℕ) (ws : List ℕ) → length ws < n → 0 ≡ whole n ws
unfolding whole
whole_cut n ws h = rw (lt-leb n (length ws) h)

whole_in_lem : (n : ℕ) (ws : List ℕ) → whole n ws ≤ length ws
unfolding whole
whole_in_lem n ws = go (leb n (length ws)) refl
  where
    go : (b : Bool) → leb n (length ws) ≡ b → cond b n 0 ≤ length ws
    go true e = leb-true n (length ws) e
    go false e = omega arith

-- A size above 0 is that of a call that is there
whole_there : (n : ℕ) (ws : List ℕ) → 0 < whole n ws → n ≤ length ws
unfolding whole
whole_there n ws = go (leb n (length ws)) refl
  where
    go : (b : Bool) → leb n (length ws) ≡ b → 0 < cond b n 0 → n ≤ length ws
    go true e h = leb-true n (length ws) e
    go false e h = absurd (omega arith)

pub listed_there : (ws : List ℕ) → 0 < listed ws → 3 + get_or ws 2 0 ≤ length ws
unfolding listed
listed_there ws h = whole_there (3 + get_or ws 2 0) ws h

-- A call that ends in a list, whose count or list is cut off
listed_cut : (op first : ℕ) (ws : List ℕ) → length ws < 1 + get_or ws 0 0 → listed (op ∷ first ∷ ws) ≡ 0
unfolding listed
listed_cut op first ws h = sym (whole_cut (3 + get_or ws 0 0) (op ∷ first ∷ ws) (omega arith))

-- No start
pub start_none : (ws : List ℕ) → length ws ≡ 0 → start_size ws ≡ 0
unfolding start_size operation whole
start_none [] h = refl
start_none (w ∷ ws) h = absurd (omega arith)

pub start_first_cut : (ws rest : List ℕ) → ws ≡ 1 ∷ rest → length rest ≡ 0 → start_size ws ≡ 0
unfolding start_size operation listed whole
start_first_cut ws [] e h = ap start_size e
start_first_cut ws (r ∷ rest) e h = absurd (omega arith)

pub start_list_cut : (ws rest : List ℕ) (first : ℕ) → ws ≡ 1 ∷ first ∷ rest → length rest < 1 + get_or rest 0 0 → start_size ws ≡ 0
unfolding start_size operation
start_list_cut ws rest first e h = ap start_size e ∙ listed_cut 1 first rest h

pub start_unknown : (ws rest : List ℕ) (op : ℕ) → ws ≡ op ∷ rest → (op ≡ 0 → ⊥) → (op ≡ 1 → ⊥) → start_size ws ≡ 0
unfolding start_size operation
start_unknown ws rest op e m n = ap start_size e ∙ rw (ne_eqb op 0 m, ne_eqb op 1 n)

pub ruleset no_start = (start_none, start_first_cut, start_list_cut, start_unknown)

-- No call
pub call_none : (ws : List ℕ) → length ws ≡ 0 → call_size ws ≡ 0
unfolding call_size call_operation operation
call_none [] h = refl
call_none (w ∷ ws) h = absurd (omega arith)

-- one that ends in a list: before its list, in it
pub push_first_cut : (lent : Bool) (ws rest : List ℕ) → ws ≡ cond lent 16 2 ∷ rest → length rest ≡ 0 → call_size ws ≡ 0
unfolding call_size call_operation operation listed whole
push_first_cut true ws [] e h = ap call_size e
push_first_cut false ws [] e h = ap call_size e
push_first_cut lent ws (r ∷ rest) e h = absurd (omega arith)

pub push_list_cut : (lent : Bool) (ws rest : List ℕ) (len : ℕ) → ws ≡ cond lent 16 2 ∷ len ∷ rest → length rest < 1 + get_or rest 0 0 → call_size ws ≡ 0
unfolding call_size call_operation operation
push_list_cut true ws rest len e h = ap call_size e ∙ listed_cut 16 len rest h
push_list_cut false ws rest len e h = ap call_size e ∙ listed_cut 2 len rest h

pub start_run_cut : (lent : Bool) (ws rest : List ℕ) → ws ≡ cond lent 17 3 ∷ rest → length rest ≡ 0 → call_size ws ≡ 0
unfolding call_size call_operation operation whole
start_run_cut true ws [] e h = ap call_size e
start_run_cut false ws [] e h = ap call_size e
start_run_cut lent ws (r ∷ rest) e h = absurd (omega arith)

pub ruleset no_call = (call_none, push_first_cut, push_list_cut, start_run_cut)

-- by its operation
by_operation : ℕ → List ℕ → ℕ
by_operation op ws = cond (eqb op 2) (listed ws) (cond (eqb op 3) (whole 2 ws) (cond (eqb op 4) (whole 1 ws) 0))

none_of : (op : ℕ) (ws : List ℕ) → (op ≡ 2 → ⊥) → (op ≡ 3 → ⊥) → (op ≡ 4 → ⊥) → by_operation op ws ≡ 0
unfolding by_operation
none_of op ws a b c = rw (ne_eqb op 2 a, ne_eqb op 3 b, ne_eqb op 4 c)

pub call_unknown : (op : ℕ) → (op ≡ 2 → ⊥) → (op ≡ 3 → ⊥) → (op ≡ 4 → ⊥) → (op ≡ 16 → ⊥) → (op ≡ 17 → ⊥) → (op ≡ 18 → ⊥) →
    (ws : List ℕ) → call_size (op ∷ ws) ≡ 0
unfolding call_size call_operation operation by_operation
call_unknown op a b c d e f ws = go (leb 16 op) refl
  where
    go : (t : Bool) → leb 16 op ≡ t → by_operation (cond t (op - 14) op) (op ∷ ws) ≡ 0
    go true h =
        let lent = leb-true 16 op h in
        none_of (op - 14) (op ∷ ws) (λ k. d (omega arith)) (λ k. e (omega arith)) (λ k. f (omega arith))
    go false h = none_of op (op ∷ ws) a b c

-- The start, by its operation
module _ (op : ℕ) (ws : List ℕ) (e : op ≡ get_or ws 0 0) where
  pub size-new : op ≡ 0 → whole 1 ws ≡ start_size ws
  unfolding start_size operation
  size-new h = rw (← e, eq-eqb op 0 h)

  pub size-after : (op ≡ 0 → ⊥) → op ≡ 1 → listed ws ≡ start_size ws
  unfolding start_size operation
  size-after m h = rw (← e, ne_eqb op 0 m, eq-eqb op 1 h)

  pub size-unknown : (op ≡ 0 → ⊥) → (op ≡ 1 → ⊥) → 0 ≡ start_size ws
  unfolding start_size operation
  size-unknown m n = rw (← e, ne_eqb op 0 m, ne_eqb op 1 n)

  pub start-new : op ≡ 0 → start_of ws ≡ new
  unfolding start_of operation
  start-new h = rw (← e, eq-eqb op 0 h)

  pub start-after : (op ≡ 0 → ⊥) → start_of ws ≡ after (get_or ws 1 0) (list_in ws)
  unfolding start_of operation
  start-after m = rw (← e, ne_eqb op 0 m)

  -- a start that is there and is not `new` has its whole list
  pub after_there : (op ≡ 0 → ⊥) → 0 < start_size ws → 3 + get_or ws 2 0 ≤ length ws
  unfolding start_size operation
  after_there m = rw (← e, ne_eqb op 0 m) (go (eqb op 1))
    where
      go : (b : Bool) → 0 < cond b (listed ws) 0 → 3 + get_or ws 2 0 ≤ length ws
      go true h = listed_there ws h
      go false h = absurd (omega arith)

-- A call's operation, by value or lent
module _ (op : ℕ) (ws : List ℕ) (e : op ≡ get_or ws 0 0) where
  pub lent_operation : 16 ≤ op → op - 14 ≡ call_operation ws
  unfolding call_operation operation
  lent_operation h = rw (← e, le-leb 16 op h)

  pub value_operation : op < 16 → op ≡ call_operation ws
  unfolding call_operation operation
  value_operation h = rw (← e, lt-leb 16 op h)

-- A call, by its operation
module _ (op : ℕ) (ws : List ℕ) (e : op ≡ call_operation ws) where
  pub size-push : op ≡ 2 → listed ws ≡ call_size ws
  unfolding call_size
  size-push h = rw (← e, eq-eqb op 2 h)

  pub size-start : (op ≡ 2 → ⊥) → op ≡ 3 → whole 2 ws ≡ call_size ws
  unfolding call_size
  size-start m h = rw (← e, ne_eqb op 2 m, eq-eqb op 3 h)

  pub size-take : (op ≡ 2 → ⊥) → (op ≡ 3 → ⊥) → op ≡ 4 → whole 1 ws ≡ call_size ws
  unfolding call_size
  size-take m n h = rw (← e, ne_eqb op 2 m, ne_eqb op 3 n, eq-eqb op 4 h)

  pub size_none : (op ≡ 2 → ⊥) → (op ≡ 3 → ⊥) → (op ≡ 4 → ⊥) → 0 ≡ call_size ws
  unfolding call_size
  size_none m n o = rw (← e, ne_eqb op 2 m, ne_eqb op 3 n, ne_eqb op 4 o)

  pub call_push : op ≡ 2 → call_of ws ≡ push (list_in ws) (get_or ws 1 0)
  unfolding call_of
  call_push h = rw (← e, eq-eqb op 2 h)

  pub call_start : (op ≡ 2 → ⊥) → op ≡ 3 → call_of ws ≡ start_run_at (get_or ws 1 0)
  unfolding call_of
  call_start m h = rw (← e, ne_eqb op 2 m, eq-eqb op 3 h)

  pub call_take : (op ≡ 2 → ⊥) → (op ≡ 3 → ⊥) → call_of ws ≡ take_changed_from
  unfolding call_of
  call_take m n = rw (← e, ne_eqb op 2 m, ne_eqb op 3 n)

  -- a push that is there has its whole list
  pub push_there : op ≡ 2 → 0 < call_size ws → 3 + get_or ws 2 0 ≤ length ws
  push_there h s = listed_there ws (omega (arith, size-push h))

-- No size passes the end of the words
pub start_in : (ws : List ℕ) → start_size ws ≤ length ws
unfolding start_size listed
start_in ws = go (eqb (operation ws) 0) (eqb (operation ws) 1)
  where
    go : (a b : Bool) → cond a (whole 1 ws) (cond b (whole (3 + get_or ws 2 0) ws) 0) ≤ length ws
    go true b = whole_in_lem 1 ws
    go false true = whole_in_lem (3 + get_or ws 2 0) ws
    go false false = omega arith

pub call_in : (ws : List ℕ) → call_size ws ≤ length ws
unfolding call_size listed
call_in ws = go (eqb (call_operation ws) 2) (eqb (call_operation ws) 3) (eqb (call_operation ws) 4)
  where
    go : (a b c : Bool) → cond a (whole (3 + get_or ws 2 0) ws) (cond b (whole 2 ws) (cond c (whole 1 ws) 0)) ≤ length ws
    go true b c = whole_in_lem (3 + get_or ws 2 0) ws
    go false true c = whole_in_lem 2 ws
    go false false true = whole_in_lem 1 ws
    go false false false = omega arith
