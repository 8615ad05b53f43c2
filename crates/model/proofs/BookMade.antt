-- The graph that a book gives is the one that its calls make. Assumes nothing.
use Rattle.std.proofs.Common.{◌≡◌, refl, ap, ◌∙◌, Bool, true, false, List, [], ◌∷◌, ℕ, zero, suc, ◌<◌, ◌≤◌, arith, length, get_or, ltb, eqb, lt-ltb, le-ltb}
use mathlib.Core.Option.{none, some}
use Rattle.model.specs.declared.record.CausalGraph.{CausalGraph}
use Rattle.model.specs.declared.answers.BookRead.{BookRead}
use Rattle.model.specs.declared.answers.Refusal.TheVariants.{BookTooLong}
use Rattle.model.specs.Refusals.{refusal, OrRefusal, Outcome}
use Rattle.model.specs.Fresh.{new_of, after_of}
use Rattle.model.specs.Push.{push_of}
use Rattle.model.specs.Book.{take_words, take_counted, book_read, ends_early, read_pushes, read_header, book_of}
use Rattle.model.specs.Log.{Fresh, new, after, Call, push, Log, begin, answer, begin_log, note, after_calls, made_by}
use Rattle.model.specs.BookCalls.{pushes_in, is_refused, tried, header, book_header, book_start, book_calls}
use Rattle.model.proofs.BookWords.{Parted, Headed, header_early}
use Rattle.std.specs.Prelude.{Ok, Err}
use Rattle.model.specs.declared.record.EventIndex.{EventIndex}
use Rattle.model.specs.declared.answers.BookRefusal.TheVariants.{Refused, PushRefused}

-- One push, if what follows it is so
module _ (n k : ℕ) (later : (g : CausalGraph) (l : Log) (bs : List ℕ) → (read_pushes n (suc k) g bs).graph ≡ (after_calls g l (tried g (pushes_in n bs))).0)
    (g : CausalGraph) (l : Log) where
  -- read by its answer, read by its parents, read by its length
  abbrev tries : OrRefusal (EventIndex × EventIndex) → CausalGraph → List ℕ → BookRead
  tries a h rest = elim a as (λ _. BookRead) [
    | Ok (first, end) ↦ read_pushes n (suc k) h rest
    | Err r ↦ book_read h (Err (PushRefused r k))
  ]

  abbrev reads : ℕ → Parted → BookRead
  reads len o = elim o as (λ _. BookRead) [ none ↦ ends_early g | some ps ↦ tries (push_of g ps.0 len).answer (push_of g ps.0 len).graph ps.1 ]

  abbrev calls : ℕ → Parted → List Call
  calls len o = elim o as (λ _. List Call) [ none ↦ [] | some ps ↦ push ps.0 len ∷ pushes_in n ps.1 ]

  by_answer : (ps : List ℕ) (len : ℕ) (a : (OrRefusal (EventIndex × EventIndex))) (h : CausalGraph) (rest : List ℕ) →
      (tries a h rest).graph ≡
      (after_calls h (note l (push ps len) a) (elim (is_refused (push ps len) a) as (λ _. List Call) [ true ↦ [] | false ↦ tried h (pushes_in n rest) ])).0
  unfolding is_refused book_read after_calls
  by_answer ps len (Ok (a, b)) h rest = later h (note l (push ps len) (Ok (a, b))) rest
  by_answer ps len (Err r) h rest = refl

  by_parents : (len : ℕ) (o : Parted) → (reads len o).graph ≡ (after_calls g l (tried g (calls len o))).0
  unfolding ends_early book_read tried after_calls answer
  by_parents len none = refl
  by_parents len (some ps) = by_answer ps.0 len (push_of g ps.0 len).answer (push_of g ps.0 len).graph ps.1

  by_length : (o : Parted) → (elim o as (λ _. BookRead) [ none ↦ ends_early g | some w ↦ reads (get_or w.0 0 0) (take_counted w.1) ]).graph ≡
      (after_calls g l (tried g (elim o as (λ _. List Call) [ none ↦ [] | some w ↦ calls (get_or w.0 0 0) (take_counted w.1) ]))).0
  unfolding ends_early book_read tried after_calls
  by_length none = refl
  by_length (some w) = by_parents (get_or w.0 0 0) (take_counted w.1)

-- Pushes: the graph is the one that the calls up to a refused one make
pushes-made : (n k : ℕ) (g : CausalGraph) (l : Log) (bs : List ℕ) → (read_pushes n k g bs).graph ≡ (after_calls g l (tried g (pushes_in n bs))).0
unfolding read_pushes pushes_in tried after_calls book_read
pushes-made zero k g l bs = go (eqb (length bs) 0)
  where
    go : (t : Bool) → (elim t as (λ _. BookRead) [ true ↦ book_read g (Ok tt) | false ↦ book_read g (Err (Refused BookTooLong)) ]).graph ≡ g
    go true = refl
    go false = refl
pushes-made (suc n) k g l bs = by_length n k (pushes-made n (suc k)) g l (take_words 1 bs)

-- The header

-- what a header that was read makes, and what the start and the calls are then
abbrev pub made : Outcome → CausalGraph → ℕ → List ℕ → BookRead
made o g n bs = elim o as (λ _. BookRead) [ Ok _ ↦ read_pushes n 0 g bs | Err r ↦ book_read g (Err (Refused r)) ]

abbrev pub start_by : Headed → Fresh
start_by o = elim o as (λ _. Fresh) [ none ↦ new | some h ↦ after h.0 h.1 ]

abbrev pub calls_by : Headed → List Call
calls_by o = elim o as (λ _. List Call) [
  | none ↦ []
  | some h ↦ elim (after_of h.0 h.1).answer as (λ _. List Call) [ Ok _ ↦ tried (after_of h.0 h.1).graph (pushes_in h.2 h.3) | Err x ↦ [] ]
]

-- what is made of a header that is there or not
abbrev pub headed : Headed → BookRead
headed o = elim o as (λ _. BookRead) [ none ↦ ends_early new_of | some h ↦ made (after_of h.0 h.1).answer (after_of h.0 h.1).graph h.2 h.3 ]

module _ (f : ℕ) (es : List ℕ) where
  abbrev count : Parted → Headed
  count o = elim o as (λ _. Headed) [ none ↦ none | some n ↦ some (f, es, get_or n.0 0 0, n.1) ]

  by_count : (o : Parted) → elim o as (λ _. BookRead) [
    | none ↦ ends_early new_of
    | some n ↦ made (after_of f es).answer (after_of f es).graph (get_or n.0 0 0) n.1
  ] ≡ headed (count o)
  by_count none = refl
  by_count (some n) = refl

module _ (f : ℕ) where
  abbrev frontier : Parted → Headed
  frontier o = elim o as (λ _. Headed) [ none ↦ none | some es ↦ count f es.0 (take_words 1 es.1) ]

  by_frontier : (o : Parted) → elim o as (λ _. BookRead) [
    | none ↦ ends_early new_of
    | some es ↦ elim (take_words 1 es.1) as (λ _. BookRead) [
      | none ↦ ends_early new_of
      | some n ↦ made (after_of f es.0).answer (after_of f es.0).graph (get_or n.0 0 0) n.1
    ]
  ] ≡ headed (frontier o)
  by_frontier none = refl
  by_frontier (some es) = by_count f es.0 (take_words 1 es.1)

-- A book without the test of its length is read by its header
pub header_read : (bs : List ℕ) → read_header bs ≡ headed (header bs)
unfolding read_header header
header_read bs = go (take_words 1 bs)
  where
    go : (o : Parted) → elim o as (λ _. BookRead) [
      | none ↦ ends_early new_of
      | some f ↦ elim (take_counted f.1) as (λ _. BookRead) [
        | none ↦ ends_early new_of
        | some es ↦ elim (take_words 1 es.1) as (λ _. BookRead) [
          | none ↦ ends_early new_of
          | some n ↦ made (after_of (get_or f.0 0 0) es.0).answer (after_of (get_or f.0 0 0) es.0).graph (get_or n.0 0 0) n.1
        ]
      ]
    ] ≡ headed (elim o as (λ _. Headed) [ none ↦ none | some f ↦ frontier (get_or f.0 0 0) (take_counted f.1) ])
    go none = refl
    go (some f) = by_frontier (get_or f.0 0 0) (take_counted f.1)

-- A header that was read makes the graph of its start and its calls
outcome_made : (o : Outcome) (g : CausalGraph) (l : Log) (n : ℕ) (bs : List ℕ) →
    (made o g n bs).graph ≡ (after_calls g l (elim o as (λ _. List Call) [ Ok _ ↦ tried g (pushes_in n bs) | Err x ↦ [] ])).0
unfolding book_read after_calls
outcome_made (Ok tt) g l n bs = pushes-made n 0 g l bs
outcome_made (Err r) g l n bs = refl

header_made : (o : Headed) → (headed o).graph ≡ (made_by (start_by o) (calls_by o)).0
unfolding ends_early book_read made_by begin after_calls
header_made none = refl
header_made (some h) =
    outcome_made (after_of h.0 h.1).answer (after_of h.0 h.1).graph (begin_log (after h.0 h.1) (after_of h.0 h.1).answer) h.2 h.3

-- A book by its length
tested : List ℕ → Bool → BookRead
tested bs t = elim t [ true ↦ book_read new_of (Err (Refused BookTooLong)) | false ↦ read_header bs ]

pub book-empty : (bs : List ℕ) → length bs ≡ 0 → book_of bs ≡ book_read new_of (Ok tt)
unfolding book_of
book-empty [] h = refl
book-empty (b ∷ bs) h = absurd (omega (arith, h))

pub book-long : (bs : List ℕ) → 65536 < length bs → book_of bs ≡ book_read new_of (Err (Refused BookTooLong))
unfolding book_of tested
book-long [] h = absurd (omega (arith, h))
book-long (b ∷ bs) h = ap (tested (b ∷ bs)) (lt-ltb 65536 (length (b ∷ bs)) h)

pub book_in : (bs : List ℕ) → 0 < length bs → length bs ≤ 65536 → book_of bs ≡ read_header bs
unfolding book_of tested
book_in [] m h = absurd (omega (arith, m))
book_in (b ∷ bs) m h = ap (tested (b ∷ bs)) (le-ltb 65536 (length (b ∷ bs)) h)

-- one of one to eleven bytes has no header
pub book-short : (bs : List ℕ) → 0 < length bs → length bs < 12 → book_of bs ≡ book_read new_of (Err (Refused (refusal 14)))
unfolding ends_early
book-short bs m h = book_in bs m (omega arith) ∙ header_read bs ∙ ap headed (header_early bs (omega arith))

-- A book's graph is the one that its calls make
length-made : (bs : List ℕ) (t : Bool) → (tested bs t).graph ≡
    (made_by (start_by (elim t as (λ _. Headed) [ true ↦ none | false ↦ header bs ])) (calls_by (elim t as (λ _. Headed) [ true ↦ none | false ↦ header bs ]))).0
unfolding tested book_read ends_early
length-made bs true = header_made none
length-made bs false = ap (λ (b : BookRead). b.graph) (header_read bs) ∙ header_made (header bs)

pub book-made : (bs : List ℕ) → (book_of bs).graph ≡ (made_by (book_start bs) (book_calls bs)).0
unfolding book_of book_read ends_early book_start book_calls book_header header take_words tested
book-made [] = header_made none
book-made (b ∷ bs) = length-made (b ∷ bs) (ltb 65536 (length (b ∷ bs)))

-- The book of no bytes is a start and no calls
pub empty-start : book_start [] ≡ new
unfolding book_start book_header header take_words
empty-start = refl

pub empty_calls : book_calls [] ≡ []
unfolding book_calls book_header header take_words
empty_calls = refl
