-- Where the chains' members begin: a 0 and the lengths among zeros, summed. Assumes nothing.
use borrow.Rule.Slice.PartMut.{put_mid}
use Rattle.std.proofs.Common.{◌≡◌, sym, ap, ◌∙◌, ◌⊎◌, inl, inr, List, ◌++◌, ℕ, ◌+◌, ◌-◌, min, ◌≤◌, ◌<◌, ◌^◌, arith, length, get_or, take, drop, replicate, length-take, length-append, get_or-take}
use Rattle.std.proofs.Math.Seq.{paste, length-paste, get_or-append_right}
use Rattle.std.proofs.lemmas.List.{get_or-drop}
use Rattle.std.proofs.lemmas.Slice.{put_mid-paste}
use lib.ListN.{get_or-append, get_or-eq_default, length-replicate}
use Rattle.lists.proofs.Pads.{zeros_get}
use Rattle.lists.proofs.Truth.{lt_or_le}
use Rattle.tables.specs.Indexed.{Summed, Bounded}
use Rattle.tables.proofs.Counting.{sum_less}
use Rattle.tables.proofs.Summing.{sum_same}

-- A list of L zeros, the lengths of n chains stored in it from place 1 on, as far as there are any: m of them
module _ (L n m k : ℕ) (lens b ys : List ℕ) (zeros : b ≡ replicate L 0) (fits : n < L) (m-is : m ≡ min (length lens) n) (k-is : m ≡ k) (stored : ys ≡ take m lens) where
  abbrev some : List ℕ
  some = take m lens

  abbrev z : List ℕ
  z = replicate L 0

  abbrev front : List ℕ
  front = take 1 z ++ take m some

  laid-is : put_mid 1 k b ys ≡ paste z 1 some m
  laid-is = put_mid-paste 1 k b ys some m stored k-is (omega (arith, length-take m lens)) ∙ ap (λ (l : List ℕ). paste l 1 some m) zeros

  long : length z ≡ L
  long = length-replicate {A = ℕ} L 0

  first-long : length (take 1 z) ≡ 1
  first-long = omega (arith, length-take 1 z, long)

  some-long : length some ≡ m
  some-long = omega (arith, length-take m lens)

  front-long : length front ≡ m + 1
  front-long = omega (arith, length-append (take 1 z) (take m some), first-long, some-long, length-take m some)

  pub headed-length : length (put_mid 1 k b ys) ≡ L
  headed-length = ap length laid-is ∙ (length-paste z 1 some m (omega (arith, long)) (omega (arith, some-long)) ∙ long)

  -- it begins with a 0
  pub headed_first : get_or (put_mid 1 k b ys) 0 0 ≡ 0
  headed_first =
      ap (λ (l : List ℕ). get_or l 0 0) laid-is
      ∙ (get_or-append front (drop (1 + m) z) 0 0 (omega (arith, front-long)) ∙ (get_or-append (take 1 z) (take m some) 0 0 (omega (arith, first-long)) ∙ (get_or-take 1 z 0 0 (omega arith) ∙ zeros_get L 0)))

  -- then come the lengths, and zeros
  pub headed : (i : ℕ) → get_or (put_mid 1 k b ys) (i + 1) 0 ≡ get_or (take n lens) i 0
  headed i = ap (λ (l : List ℕ). get_or l (i + 1) 0) laid-is ∙ go (lt_or_le i m)
    where
      at-i : i + 1 - length (take 1 z) ≡ i
      at-i = omega (arith, first-long)

      go : (i < m) ⊎ (m ≤ i) → get_or (paste z 1 some m) (i + 1) 0 ≡ get_or (take n lens) i 0
      go (inl lt) =
          get_or-append front (drop (1 + m) z) 0 (i + 1) (omega (arith, front-long))
          ∙ (get_or-append_right (take 1 z) (take m some) (i + 1) 0 (omega (arith, first-long))
          ∙ (ap (λ (j : ℕ). get_or (take m some) j 0) at-i ∙ (get_or-take m some i 0 lt ∙ (get_or-take m lens i 0 lt ∙ sym (get_or-take n lens i 0 (omega arith))))))
      go (inr ge) =
          get_or-append_right front (drop (1 + m) z) (i + 1) 0 (omega (arith, front-long))
          ∙ (get_or-drop (1 + m) z (i + 1 - length front) 0 ∙ (zeros_get L (1 + m + (i + 1 - length front)) ∙ sym (get_or-eq_default (take n lens) 0 {n = i} (omega (arith, length-take n lens)))))

  module _ (short : Bounded 512 lens) where
    inside-small : (i : ℕ) → get_or (take n lens) i 0 ≤ 512
    inside-small i = go (lt_or_le i n)
      where
        go : (i < n) ⊎ (n ≤ i) → get_or (take n lens) i 0 ≤ 512
        go (inl lt) = rw (get_or-take n lens i 0 lt) (short i)
        go (inr ge) = rw (get_or-eq_default (take n lens) 0 {n = i} (omega (arith, length-take n lens))) (omega arith)

    abbrev laid : List ℕ
    laid = put_mid 1 k b ys

    -- each of its words is small
    pub headed_small : (i : ℕ) → get_or (take (n + 1) laid) i 0 ≤ 512
    headed_small i = go (lt_or_le i (n + 1)) (lt_or_le 0 i)
      where
        go : (i < n + 1) ⊎ (n + 1 ≤ i) → (0 < i) ⊎ (i ≤ 0) → get_or (take (n + 1) laid) i 0 ≤ 512
        go (inl lt) (inl up) =
            let e : i ≡ i - 1 + 1 = omega arith in
            rw (get_or-take (n + 1) laid i 0 lt) (omega (arith, ap (λ (j : ℕ). get_or laid j 0) e, headed (i - 1), inside-small (i - 1)))
        go (inl lt) (inr low) =
            let e : i ≡ 0 = omega arith in
            rw (get_or-take (n + 1) laid i 0 lt) (omega (arith, ap (λ (j : ℕ). get_or laid j 0) e, headed_first))
        go (inr ge) w = rw (get_or-eq_default (take (n + 1) laid) 0 {n = i} (omega (arith, length-take (n + 1) laid))) (omega arith)

    -- Its first words summed, they are small, and the others are 0
    module _ (new : List ℕ) (S : Summed (λ i. get_or (take (n + 1) laid) (i + 1) 0) (length (take (n + 1) laid) - 1) new) (size : length new ≡ length (take (n + 1) laid)) (few : n ≤ 512) where
      cut-long : length (take (n + 1) laid) ≡ n + 1
      cut-long = omega (arith, length-take (n + 1) laid, headed-length)

      shift : (i : ℕ) → i < n → get_or (take (n + 1) laid) (i + 1) 0 ≡ get_or lens i 0
      shift i lt = get_or-take (n + 1) laid (i + 1) 0 (omega arith) ∙ (headed i ∙ get_or-take n lens i 0 lt)

      pub begins_made : Summed (λ i. get_or lens i 0) n (new ++ drop (n + 1) laid)
      begins_made j le =
          get_or-append new (drop (n + 1) laid) 0 j (omega (arith, size, cut-long))
          ∙ (S j (omega (arith, cut-long)) ∙ sum_same (λ i. get_or (take (n + 1) laid) (i + 1) 0) (λ i. get_or lens i 0) j (λ i lt. shift i (omega arith)))

      pub begins_low : Bounded (2 ^ 18) (new ++ drop (n + 1) laid)
      begins_low j = go (lt_or_le j (n + 1))
        where
          go : (j < n + 1) ⊎ (n + 1 ≤ j) → get_or (new ++ drop (n + 1) laid) j 0 ≤ 2 ^ 18
          go (inl lt) = omega (arith, begins_made j (omega arith), sum_less (λ i. get_or lens i 0) 512 j short)
          go (inr ge) =
              let e : n + 1 + (j - length new) ≡ j - 1 + 1 = omega (arith, size, cut-long) in
              omega (
                arith,
                get_or-append_right new (drop (n + 1) laid) j 0 (omega (arith, size, cut-long)),
                get_or-drop (n + 1) laid (j - length new) 0,
                ap (λ (i : ℕ). get_or laid i 0) e,
                headed (j - 1),
                get_or-eq_default (take n lens) 0 {n = j - 1} (omega (arith, length-take n lens)),
              )
