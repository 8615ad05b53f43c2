-- The distance of two versions, by prefix sums. Assumes nothing.
use Rattle.std.proofs.Common.{◌≡◌, refl, sym, ap, ap₂, ◌∙◌, List, [], ◌∷◌, ℕ, zero, suc, ◌+◌, ◌<◌, arith, add-one, length, get_or, take}
use Rattle.lists.specs.Lists.{mem, sum}
use Rattle.lists.proofs.Counts.{count_le}
use Rattle.model.specs.History.{at, histories}
use Rattle.model.specs.Range.{sizes_of}
use Rattle.model.specs.Choice.{Range, apart}
use Rattle.tables.specs.Laid.{chs}
use Rattle.tables.specs.Tables.{Sums, size_in, Reaches}
use Rattle.tables.specs.Gaps.{gap_at, gaps_from}
use Rattle.tables.proofs.Chaining.{cnt, chain_under}
use Rattle.tables.proofs.ClosedSets.{Closed}
use Rattle.tables.proofs.Differing.{up_to, gap, apart-chains}

-- Gaps along chains, summed
gaps_sum : (b s cur row : List ℕ) (f : List ℕ → ℕ) (c : ℕ) (cs : List (List ℕ)) → ((i : ℕ) → i < length cs → gap_at b s cur row (c + i) ≡ f (at cs i)) → gaps_from b s cur row c (length cs) ≡ sum f cs
unfolding gaps_from sum at
gaps_sum b s cur row f c [] h = refl
gaps_sum b s cur row f c (x ∷ xs) h = ap₂ ◌+◌ first (gaps_sum b s cur row f (c + 1) xs (λ i l. ap (gap_at b s cur row) (shift i) ∙ h (suc i) (omega arith)))
  where
    first : gap_at b s cur row c ≡ f x
    first = ap (gap_at b s cur row) (zero_on c) ∙ h 0 (omega arith)
      where
        zero_on : (c : ℕ) → c ≡ c + 0
        zero_on c = omega arith

    shift : (i : ℕ) → c + 1 + i ≡ c + suc i
    shift i = omega arith

-- Sizes that agree on a chain's members sum the same along it
take_same : (f g : ℕ → ℕ) (k : ℕ) (c : List ℕ) → ((i : ℕ) → i < length c → f (get_or c i 0) ≡ g (get_or c i 0)) → sum f (take k c) ≡ sum g (take k c)
unfolding sum
take_same f g zero c h = refl
take_same f g (suc k) [] h = refl
take_same f g (suc k) (x ∷ xs) h = ap₂ ◌+◌ (h 0 (omega arith)) (take_same f g k xs (λ i l. h (suc i) (omega arith)))

-- The sizes of the definitions are those of the starts
pub sizes-at : (ss : List ℕ) (m : ℕ) → suc m < length ss → get_or (sizes_of ss) m 0 ≡ size_in ss m
unfolding sizes_of size_in
sizes-at [] m lt = absurd (omega arith)
sizes-at (x ∷ []) m lt = absurd (omega arith)
sizes-at (x ∷ y ∷ ys) zero lt = refl
sizes-at (x ∷ y ∷ ys) (suc m) lt = sizes-at (y ∷ ys) m (omega arith) ∙ (unfold size_in in (rw (add-one m, add-one (suc m))))

-- The distance by prefix sums is the number of events in just one of the sets
pub distance_is : (pss : List (List ℕ)) (size : ℕ → ℕ) (begins before : List ℕ) → Sums (chs (histories pss) (length pss)) size begins before →
    (w : Range) (s t cur row : List ℕ) → ((m : ℕ) → m < length pss → get_or w.sizes m 0 ≡ size m) → Closed pss s → Closed pss t →
    Reaches (chs (histories pss) (length pss)) s cur → Reaches (chs (histories pss) (length pss)) t row →
    gaps_from before begins cur row 0 (length (chs (histories pss) (length pss))) ≡ apart w s t
unfolding Reaches
distance_is pss size begins before S w s t cur row e cs ct f g =
    gaps_sum before begins cur row (gap (λ m. get_or w.sizes m 0) s t) 0 C one ∙ sym (apart-chains pss w s t cs ct)
  where
    C : List (List ℕ)
    C = chs (histories pss) (length pss)

    same : (i k : ℕ) → sum size (take k (at C i)) ≡ sum (λ m. get_or w.sizes m 0) (take k (at C i))
    same i k = take_same size (λ m. get_or w.sizes m 0) k (at C i) (λ j l. sym (e (get_or (at C i) j 0) (chain_under (histories pss) (length pss) i j l)))

    along : (u : List ℕ) (i : ℕ) → i < length C → get_or before (get_or begins i 0 + cnt u (at C i)) 0 ≡ get_or before (get_or begins i 0) 0 + up_to (λ m. get_or w.sizes m 0) u (at C i)
    along u i l = S.along i (cnt u (at C i)) l (count_le (λ m. mem m u) (at C i)) ∙ ap (λ (k : ℕ). get_or before (get_or begins i 0) 0 + k) (same i (cnt u (at C i)))

    one : (i : ℕ) → i < length C → gap_at before begins cur row (0 + i) ≡ gap (λ m. get_or w.sizes m 0) s t (at C i)
    one i l =
        let z : 0 + i ≡ i = omega arith in
        rw (z, f i l, g i l) (omega (arith, along s i l, along t i l))
