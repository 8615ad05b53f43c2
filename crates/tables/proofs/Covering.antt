-- The covers of the definition: a run's is its own bits joined with its children's. Assumes nothing.
use Rattle.std.proofs.Common.{◌≡◌, refl, sym, ap, ◌∙◌, Bool, true, false, cond, List, [], ◌∷◌, ℕ, zero, suc, ◌+◌, ◌-◌, ◌<◌, arith, length, get_or, drop, length-drop, get_or-drop}
use Rattle.lists.specs.Lists.{mem, filter, from, upto}
use Rattle.lists.proofs.Truth.{not_so}
use Rattle.model.specs.History.{at}
use Rattle.model.specs.Cover.{either, own_bits, join_children, covers_from}
use Rattle.tables.specs.Tables.{children_of}
use Rattle.tables.specs.Covers.{join_of}

length-covers : (per a : ℕ) (ss : List ℕ) (pss : List (List ℕ)) → length (covers_from per a ss pss) ≡ length pss
unfolding covers_from
length-covers per a ss [] = refl
length-covers per a ss (ps ∷ pss) = ap suc (length-covers per (suc a) ss pss)

-- The cover of run b, the r-th from a on
cover_at_lem : (per a r b : ℕ) (ss : List ℕ) (pss : List (List ℕ)) → r < length pss → b ≡ a + r →
    get_or (covers_from per a ss pss) r [] ≡ join_children b (own_bits per (get_or ss b 0) (get_or ss (suc b) 0)) (drop (suc r) pss) (drop (suc r) (covers_from per a ss pss))
unfolding covers_from
cover_at_lem per a r b ss [] h e = absurd (omega arith)
cover_at_lem per a zero b ss (ps ∷ pss) h e =
    let f : a ≡ b = omega arith in
    ap (λ (k : ℕ). join_children k (own_bits per (get_or ss k 0) (get_or ss (suc k) 0)) pss (covers_from per (suc a) ss pss)) f
cover_at_lem per a (suc r) b ss (ps ∷ pss) h e = cover_at_lem per (suc a) r b ss pss (omega arith) (omega arith)

pick : (t : Bool) (a : ℕ) (xs : List ℕ) (bits c rest : List Bool) (cover : ℕ → List Bool) → cover a ≡ c → rest ≡ join_of bits cover xs →
    elim t as (λ _. List Bool) [ true ↦ either c rest | false ↦ rest ] ≡ join_of bits cover (cond t (a ∷ xs) xs)
unfolding join_of
pick true a xs bits c rest cover p q = ap (λ (l : List Bool). either l rest) (sym p) ∙ ap (either (cover a)) q
pick false a xs bits c rest cover p q = q

-- The later runs that have r for a parent, joined
join-filter : (r a : ℕ) (bits : List Bool) (pss : List (List ℕ)) (cs : List (List Bool)) (parents : ℕ → List ℕ) (cover : ℕ → List Bool) → length pss ≡ length cs →
    ((x i : ℕ) → x ≡ a + i → i < length pss → parents x ≡ get_or pss i []) → ((x i : ℕ) → x ≡ a + i → i < length pss → cover x ≡ get_or cs i []) →
    join_children r bits pss cs ≡ join_of bits cover (filter (λ x. mem r (parents x)) (from a (length pss)))
unfolding join_children filter from join_of
join-filter r a bits [] cs parents cover l p q = refl
join-filter r a bits (ps ∷ pss) [] parents cover l p q = absurd (omega (arith, l))
join-filter r a bits (ps ∷ pss) (d ∷ cs) parents cover l p q =
    pick (mem r ps) a (filter (λ x. mem r (parents x)) (from (suc a) (length pss))) bits d (join_children r bits pss cs) cover (q a 0 (omega arith) (omega arith))
    (join-filter r (suc a) bits pss cs parents cover (omega (arith, l)) (λ x i e h. p x (suc i) (omega (arith, e)) (omega arith)) (λ x i e h. q x (suc i) (omega (arith, e)) (omega arith)))
    ∙ ap (λ (qs : List ℕ). join_of bits cover (cond (mem r qs) (a ∷ filter (λ x. mem r (parents x)) (from (suc a) (length pss))) (filter (λ x. mem r (parents x)) (from (suc a) (length pss)))))
    (sym (p a 0 (omega arith) (omega arith)))

-- The numbers below b pass no test
filter_skip : (p : ℕ → Bool) (m a n b k : ℕ) → n ≡ m + k → b ≡ a + m → ((x : ℕ) → x < b → p x ≡ false) → filter p (from a n) ≡ filter p (from b k)
unfolding filter from
filter_skip p zero a n b k e f s = let g : n ≡ k = omega arith in let h : a ≡ b = omega arith in
    ap (λ (i : ℕ). filter p (from a i)) g ∙ ap (λ (i : ℕ). filter p (from i k)) h
filter_skip p (suc m) a zero b k e f s = absurd (omega arith)
filter_skip p (suc m) a (suc n) b k e f s =
    ap (λ (t : Bool). cond t (a ∷ filter p (from (suc a) n)) (filter p (from (suc a) n))) (s a (omega arith))
    ∙ filter_skip p m (suc a) n b k (omega arith) (omega arith) s

later-children : (pss : List (List ℕ)) (r : ℕ) → r < length pss → ((x p : ℕ) → mem p (at pss x) ≡ true → p < x) →
    children_of pss r ≡ filter (λ x. mem r (at pss x)) (from (suc r) (length pss - suc r))
unfolding children_of upto
later-children pss r h below =
    filter_skip (λ x. mem r (at pss x)) (suc r) 0 (length pss) (suc r) (length pss - suc r) (omega arith) (omega arith)
    (λ x g. not_so (mem r (at pss x)) (λ t. let w : r < x = below x r t in omega arith))

-- A run's cover is its own bits joined with its children's
pub cover_is : (per r : ℕ) (ss : List ℕ) (pss : List (List ℕ)) → r < length pss → ((x p : ℕ) → mem p (at pss x) ≡ true → p < x) →
    get_or (covers_from per 0 ss pss) r [] ≡ join_of (own_bits per (get_or ss r 0) (get_or ss (suc r) 0)) (λ x. get_or (covers_from per 0 ss pss) x []) (children_of pss r)
unfolding at
cover_is per r ss pss h below =
    let D : List (List Bool) = covers_from per 0 ss pss in
    let own : List Bool = own_bits per (get_or ss r 0) (get_or ss (suc r) 0) in
    let len : length (drop (suc r) pss) ≡ length (drop (suc r) D) = length-drop (suc r) pss ∙ ap (λ (n : ℕ). n - suc r) (sym (length-covers per 0 ss pss)) ∙ sym (length-drop (suc r) D) in
    cover_at_lem per 0 r r ss pss h (omega arith)
    ∙ join-filter r (suc r) own (drop (suc r) pss) (drop (suc r) D) (at pss) (λ x. get_or D x []) len
    (λ x i e g. ap (λ (k : ℕ). get_or pss k []) e ∙ sym (get_or-drop (suc r) pss i [])) (λ x i e g. ap (λ (k : ℕ). get_or D k []) e ∙ sym (get_or-drop (suc r) D i []))
    ∙ ap (λ (n : ℕ). join_of own (λ x. get_or D x []) (filter (λ x. mem r (at pss x)) (from (suc r) n))) (length-drop (suc r) pss)
    ∙ ap (join_of own (λ x. get_or D x [])) (sym (later-children pss r h below))
