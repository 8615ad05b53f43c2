-- A replay's lines from the words that it wrote, and how long a buffer is enough. Assumes nothing.
use Rattle.std.proofs.Common.{◌≡◌, refl, sym, ◌∙◌, ap, Bool, true, false, List, [], ◌∷◌, ◌++◌, map, ℕ, ◌-◌, ◌*◌, ◌/◌, ◌≤◌, arith, length, take, replicate, length-append, length-take, ltb, eqb}
use Rattle.std.proofs.Common.{ltb-false}
use mathlib.Core.Option.{Option, none, some}
use lib.ListN.{length-replicate}
use Rattle.lists.specs.Lists.{concat}
use Rattle.model.specs.declared.record.CausalGraph.{CausalGraph}
use Rattle.model.specs.declared.answers.Walked.{Walked}
use Rattle.model.specs.declared.answers.Refusal.TheVariants.{ListTooShort}
use Rattle.model.specs.declared.answers.BookRead.{BookRead}
use Rattle.model.specs.Graph.{Graph}
use Rattle.model.specs.Record.{view}
use Rattle.model.specs.Broken.{Held}
use Rattle.model.specs.Cut.{HistoryRange, cut_from}
use Rattle.model.specs.Steps.{Step, retreat, advance, opened, apply, step_words, words}
use Rattle.model.specs.Walk.{WalkResult, wrote}
use Rattle.model.specs.Replay.{Replayed, replay_range, replay_ranges, replay_of}
use Rattle.model.specs.Reader.{decoded, said}
use Rattle.model.specs.Print.{Line as PrintLine, step_line, refusal_line, said_steps, last_line, replay_lines, printed}
use Rattle.model.specs.Book.{book_of}
use Rattle.model.specs.Refusals.{Outcome}
use Rattle.model.proofs.Stored.{not-broken}
use Rattle.model.proofs.Results.{replay_is}
use Rattle.model.proofs.Reading.{said-words, words-length}
use Rattle.lists.proofs.Pads.{take-over}
use Rattle.book.specs.declared.printing.Printed.{Printed}
use Rattle.book.specs.Output.{ended, step_bytes, word_lines, put_line, put_lines, printing, lines_of}
use Rattle.book.proofs.Numbers.{Smalls, replay_numbers}
use Rattle.book.specs.Writing.{unused}
use Rattle.book.proofs.Fits.{lines_printing, put-append}
use Rattle.std.specs.Prelude.{Ok, Err, Result}
use Rattle.model.specs.declared.answers.BookRefusal.{BookRefusal}

-- No more steps are written than there is room for
turn_room : (room : ℕ) (this later : Replayed) (rows : List ℕ) (b t : Bool) → ltb room (length this.1) ≡ t → (o : Outcome) →
    length later.1 ≤ room - length this.1 →
    length (elim b as (λ _. Replayed) [
      | true ↦ (Err ListTooShort, [], rows)
      | false ↦ elim t as (λ _. Replayed) [
        | true ↦ (Err ListTooShort, take room this.1, this.2)
        | false ↦ elim o as (λ _. Replayed) [ Ok _ ↦ (later.0, this.1 ++ later.1, later.2) | Err r ↦ this ]
      ]
    ]).1 ≤ room
turn_room room this later rows true t e o h = omega arith
turn_room room this later rows false true e o h = omega (arith, length-take room this.1)
turn_room room this later rows false false e (Ok _) h = omega (arith, ltb-false room (length this.1) e, length-append this.1 later.1)
turn_room room this later rows false false e (Err r) h = ltb-false room (length this.1) e

ranges-room : (g : Graph) (cs : List HistoryRange) (room : ℕ) (rows : List ℕ) → length (replay_ranges g cs room rows).1 ≤ room
unfolding replay_ranges
ranges-room g [] room rows = omega arith
ranges-room g (c ∷ cs) room rows =
    let this : Replayed = replay_range g c rows in
    turn_room room this (replay_ranges g cs (room - length this.1) this.2) rows (eqb room 0) (ltb room (length this.1)) refl this.0
    (ranges-room g cs (room - length this.1) this.2)

-- The lines of a list of words are those of its steps
words_lines : (ss : List Step) → word_lines (words ss) ≡ map ended (map step_line ss)
unfolding words concat step_words word_lines decoded step_bytes
words_lines [] = refl
words_lines (retreat a b ∷ ss) = ap (λ (ls : List (List ℕ)). ended (step_line (retreat a b)) ∷ ls) (words_lines ss)
words_lines (advance a b ∷ ss) = ap (λ (ls : List (List ℕ)). ended (step_line (advance a b)) ∷ ls) (words_lines ss)
words_lines (apply r ∷ ss) = ap (λ (ls : List (List ℕ)). ended (step_line (apply r)) ∷ ls) (words_lines ss)
words_lines (opened a b ∷ ss) = ap (λ (ls : List (List ℕ)). ended (step_line (opened a b)) ∷ ls) (words_lines ss)

map-append : (xs ys : List PrintLine) → map ended (xs ++ ys) ≡ map ended xs ++ map ended ys
map-append [] ys = refl
map-append (x ∷ xs) ys = ap (λ (ls : List (List ℕ)). ended x ∷ ls) (map-append xs ys)

-- the lines of what a replay answered and wrote
lines_of_lem : WalkResult → List PrintLine
lines_of_lem r = map step_line (said_steps (take (3 * r.0.count) r.2)) ++ last_line r.0.outcome r.0.moved ∷ []

some-steps : Option (List Step) → List Step
some-steps o = elim o [ none ↦ [] | some ss ↦ ss ]

said-steps : (ws : List ℕ) (ss : List Step) → said ws ≡ some ss → said_steps ws ≡ ss
unfolding said_steps some-steps
said-steps ws ss e = ap some-steps e

-- the lists that the program lends
abbrev rows₀ : List ℕ
rows₀ = replicate 8192 0

abbrev steps₀ : List ℕ
steps₀ = replicate 12288 0

module _ (g : CausalGraph) (H : Held g) where
  -- what is written
  all : Replayed
  all = replay_ranges (view g) (cut_from (view g) 0) (length steps₀ / 3) rows₀

  few : length all.1 ≤ 4096
  unfolding all
  few = omega (arith, ranges-room (view g) (cut_from (view g) 0) (length steps₀ / 3) rows₀, length-replicate {A = ℕ} 12288 0)

  module _ (w : Walked) (rows steps : List ℕ) (e : (w, rows, steps) ≡ replay_of g rows₀ steps₀) where
    wrote-all : (w, rows, steps) ≡ wrote (view g) all.0 all.1 all.2 steps₀
    unfolding all
    wrote-all = e ∙ replay_is g rows₀ steps₀ (not-broken g H)

    count-is : w.count ≡ length all.1
    unfolding wrote
    count-is = ap (λ (r : WalkResult). r.0.count) wrote-all

    pub count_fits : 3 * w.count ≤ 12288
    count_fits = omega (arith, count-is, few)

    words_are : take (3 * w.count) steps ≡ words all.1
    unfolding wrote
    words_are =
        ap (λ n. take (3 * n) steps) count-is ∙ ap (λ (r : WalkResult). take (3 * length all.1) r.2) wrote-all ∙
        take-over (words all.1) steps₀ (3 * length all.1) (words-length all.1)

    lines_are : replay_lines g ≡ map step_line all.1 ++ last_line w.outcome w.moved ∷ []
    unfolding replay_lines lines_of_lem
    lines_are =
        ap lines_of_lem (sym e) ∙
        ap (λ (ss : List Step). map step_line ss ++ last_line w.outcome w.moved ∷ [])
        (said-steps (take (3 * w.count) steps) all.1 (ap said words_are ∙ said-words all.1))

    pub replay_put : (w₀ w₁ w₂ : Printed × List ℕ) (l : List ℕ) → w₁ ≡ put_lines w₀ (word_lines (take (3 * w.count) steps)) →
        l ≡ ended (last_line w.outcome w.moved) → w₂ ≡ put_line w₁ l → w₂ ≡ put_lines w₀ (map ended (replay_lines g))
    unfolding put_lines
    replay_put w₀ w₁ w₂ l ep el er =
        let last = last_line w.outcome w.moved in
        let stepped : w₁ ≡ put_lines w₀ (map ended (map step_line all.1)) =
        ep ∙ ap (λ (ws : List ℕ). put_lines w₀ (word_lines ws)) words_are ∙ ap (put_lines w₀) (words_lines all.1) in
        er ∙ ap (put_line w₁) el ∙ ap (λ (x : Printed × List ℕ). put_line x (ended last)) stepped ∙
        sym (put-append w₀ (map ended (map step_line all.1)) (ended last ∷ [])) ∙
        ap (put_lines w₀) (sym (map-append (map step_line all.1) (last ∷ []))) ∙
        ap (λ (ls : List PrintLine). put_lines w₀ (map ended ls)) (sym lines_are)

-- A replay's lines: at most 4,096 steps of small numbers, and a last line
pub replay_text_lem : (g : CausalGraph) → Held g →
    (ss : List Step) × (l : PrintLine) × ((replay_lines g ≡ map step_line ss ++ l ∷ []) × (length ss ≤ 4096) × Smalls 512 ss)
unfolding all
replay_text_lem g H =
    let r : WalkResult = replay_of g rows₀ steps₀ in (
      (all g H).1,
      last_line r.0.outcome r.0.moved,
      (lines_are g H r.0 r.1 r.2 refl, few g H, replay_numbers (view g) 512 (length steps₀ / 3) rows₀ H.limits.runs),
    )

-- The lines of a book by its answer
unfoldable pub by_answer : CausalGraph → Result (Unit {0}) BookRefusal → List PrintLine
by_answer g a = elim a [
  | Ok _ ↦ replay_lines g
  | Err r ↦ refusal_line r ∷ []
]

-- put one after the other
module _ (b : BookRead) (w₀ w₁ : Printed × List ℕ) where
  pub put_whole : b.answer ≡ Ok tt → w₁ ≡ put_lines w₀ (map ended (replay_lines b.graph)) → w₁ ≡ put_lines w₀ (map ended (lines_of b))
  unfolding lines_of by_answer
  put_whole e q = q ∙ ap (λ (a : Result (Unit {0}) BookRefusal). put_lines w₀ (map ended (by_answer b.graph a))) (sym e)

  pub put_refused : (r : BookRefusal) (l : List ℕ) → b.answer ≡ Err r → l ≡ ended (refusal_line r) → w₁ ≡ put_line w₀ l →
      w₁ ≡ put_lines w₀ (map ended (lines_of b))
  unfolding lines_of by_answer put_lines
  put_refused r l e el q =
      q ∙ ap (put_line w₀) el ∙ ap (λ (a : Result (Unit {0}) BookRefusal). put_lines w₀ (map ended (by_answer b.graph a))) (sym e)

-- those of the book that was read are what is to be printed
pub printed-is : (bytes : List ℕ) → lines_of (book_of bytes) ≡ printed bytes
unfolding lines_of printed
printed-is bytes = refl

-- and what they leave from the start of a buffer
pub printed_is : (bytes out : List ℕ) (b : BookRead) (w : Printed × List ℕ) → b ≡ book_of bytes → w ≡ put_lines (unused, out) (map ended (lines_of b)) →
    w ≡ printing (printed bytes) out
unfolding lines_of printed
printed_is bytes out b w e q =
    q ∙ lines_printing (lines_of b) out ∙ ap (λ (x : BookRead). printing (lines_of x) out) e
