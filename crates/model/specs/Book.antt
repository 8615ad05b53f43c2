-- 01, "The book and its program", with 02, F-1: a book's bytes to a graph, on every input. Assumes nothing.
use Rattle.std.specs.Prelude.{true, false, List, [], ◌∷◌, ℕ, zero, suc, ◌+◌, ◌*◌, length, get_or, drop, ltb, eqb, Ok, Err, Result}
use Rattle.std.proofs.Math.Option.{Option, none, some}
use Rattle.model.specs.declared.record.CausalGraph.{CausalGraph}
use Rattle.model.specs.declared.answers.BookRead.{BookRead}
use Rattle.model.specs.Limits.{max_book}
use Rattle.model.specs.Refusals.{refusal}
use Rattle.model.specs.Fresh.{new_of, after_of}
use Rattle.model.specs.Push.{push_of}
use Rattle.model.specs.declared.answers.BookRefusal.{BookRefusal}
use Rattle.model.specs.declared.answers.BookRefusal.TheVariants.{Refused, PushRefused}

-- "Little-endian words": the word of the first four bytes
unfoldable pub word : List ℕ → ℕ
word bs = get_or bs 0 0 + get_or bs 1 0 * 256 + get_or bs 2 0 * 65536 + get_or bs 3 0 * 16777216

-- the first n words
unfoldable pub words_of : ℕ → List ℕ → List ℕ
words_of zero bs = []
words_of (suc n) bs = word bs ∷ words_of n (drop 4 bs)

-- n words and the bytes after them; none where the book ends first
unfoldable pub take_words : ℕ → List ℕ → Option (List ℕ × List ℕ)
take_words n bs = elim (ltb (length bs) (4 * n)) [ true ↦ none | false ↦ some (words_of n bs, drop (4 * n) bs) ]

-- a count, and as many words as it says
unfoldable pub take_counted : List ℕ → Option (List ℕ × List ℕ)
take_counted bs = elim (take_words 1 bs) [ none ↦ none | some t ↦ take_words (get_or t.0 0 0) t.1 ]

unfoldable pub book_read : CausalGraph → Result (Unit {0}) BookRefusal → BookRead
book_read g a = record { graph = g; answer = a }

-- 14: "book ends early". 02, F-1, takes the book of no bytes out of it; "Books of one to eleven bytes keep refusal 14"
unfoldable pub ends_early : CausalGraph → BookRead
ends_early g = book_read g (Err (Refused (refusal 14)))

-- "push count; each push: length, parent count, parents", "each push read whole and then tried": n pushes, the first of them push k.
-- 15 where bytes are left over
unfoldable pub read_pushes : ℕ → ℕ → CausalGraph → List ℕ → BookRead
read_pushes zero k g bs = elim (eqb (length bs) 0) [ true ↦ book_read g (Ok tt) | false ↦ book_read g (Err (Refused (refusal 15))) ]
read_pushes (suc n) k g bs = elim (take_words 1 bs) [
  | none ↦ ends_early g
  | some l ↦ elim (take_counted l.1) [
    | none ↦ ends_early g
    | some ps ↦
        let r = push_of g ps.0 (get_or l.0 0 0) in
        elim r.answer [
          | Ok (first, end) ↦ read_pushes n (suc k) r.graph ps.1
          | Err x ↦ book_read r.graph (Err (PushRefused x k))
        ]
  ]
]

-- "first held; frontier count, events; push count": the header, "(to the push count)", "read whole and then tried"; "`new` before the
-- header is in"
unfoldable pub read_header : List ℕ → BookRead
read_header bs = elim (take_words 1 bs) [
  | none ↦ ends_early new_of
  | some f ↦ elim (take_counted f.1) [
    | none ↦ ends_early new_of
    | some es ↦ elim (take_words 1 es.1) [
      | none ↦ ends_early new_of
      | some n ↦
          let r = after_of (get_or f.0 0 0) es.0 in
          elim r.answer [
            | Ok _ ↦ read_pushes (get_or n.0 0 0) 0 r.graph n.1
            | Err x ↦ book_read r.graph (Err (Refused x))
          ]
    ]
  ]
]

-- A book. 02, F-1: "Let a book of length 0 mean a fresh graph from `new`". 15: "book over 65,536 bytes (tested first)"
unfoldable pub book_of : List ℕ → BookRead
book_of [] = book_read new_of (Ok tt)
book_of (b ∷ bs) = elim (ltb max_book (length (b ∷ bs))) [ true ↦ book_read new_of (Err (Refused (refusal 15))) | false ↦ read_header (b ∷ bs) ]
