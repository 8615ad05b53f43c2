-- The tables prepared for a range whose rows are laid are the range's, and what its walk comes to is what the definitions say. Assumes nothing.
use Rattle.std.proofs.Common.{◌≡◌, sym, ap, ap₂, ◌∙◌, subst, true, List, ℕ, ◌+◌, ◌≤◌, ◌<◌, arith, length, get_or, take, get_or-take}
use Rattle.lists.specs.Lists.{rising}
use Rattle.lists.specs.Areas.{part}
use Rattle.model.specs.History.{at, histories}
use Rattle.model.specs.Range.{sizes_of}
use Rattle.model.specs.Cover.{weights}
use Rattle.std.specs.Prelude.{Some}
use Rattle.tables.specs.declared.groups.Groups.{Groups}
use Rattle.tables.specs.declared.rows.Area.{Area}
use Rattle.tables.specs.declared.rows.ChainTables.{ChainTables}
use Rattle.tables.specs.Laid.{shares, grouped, chs, row_at, chains_of, Laid, RangeLaid}
use Rattle.tables.specs.Tables.{Listed, Sums, size_in}
use Rattle.tables.specs.Indexed.{Indexable, IndexOf}
use Rattle.tables.specs.Sizes.{row_in}
use Rattle.tables.proofs.Chaining.{chs-few}
use Rattle.tables.proofs.RowsIn.{row_lies, row_found}
use Rattle.tables.proofs.Indexing.{laid_indexable, laid_listed, laid_summed_first}
use Rattle.tables.proofs.ParentGroups.{groups-size}
use Rattle.tables.proofs.Weighted.{weight-at}
use Rattle.walk.specs.declared.areas.Areas.{Areas}
use Rattle.walk.specs.Ranges.{range_by, range_in, offsets, Arrays}
use Rattle.walk.specs.Prepare.{Measurable, Measured, Relatable, Related}
use Rattle.walk.specs.Given.{Given, row_starts, chains_in, places_in, begins_in, members_in, child_starts, weights_in, sums_in, row_for, parents_for, range_for, chains_for, Prepared}
use Rattle.walk.proofs.Preparing.{own, own-order, own-offsets, own-sizes, shares-rise, sums_same}

-- Rows are laid, all of them
module _ (starts heads parents : List ℕ) (a n : ℕ) (A : Arrays starts heads parents (a + n)) (area₀ area : List ℕ) (groups : Groups) (tables : ChainTables) (r : Area)
    (R : RangeLaid (shares heads parents a n) n area₀ (Some r) area groups tables) where
  abbrev P : List (List ℕ)
  P = grouped groups.starts groups.items n

  abbrev S : List ℕ
  S = own starts heads parents a n A

  size : length P ≡ n
  size = groups-size groups.starts groups.items n R.sound.long

  few : length P ≤ 512
  few = omega (arith, size, R.sound.few)

  laid : Laid P n (chains_of r (n + 1) tables) area area₀
  unfolding chains_of
  laid = subst (λ (l : List (List ℕ)). Laid l n (chains_of r (n + 1) tables) area area₀) (sym R.groups_are) R.out.told.1

  laid_all : Laid P (length P) (chains_of r (length P + 1) tables) area area₀
  laid_all = subst (λ (k : ℕ). Laid P k (chains_of r (k + 1) tables) area area₀) (sym size) laid

  rise : (x : ℕ) → rising (at P x) ≡ true
  rise x = ap (λ (l : List (List ℕ)). rising (at l x)) R.groups_are ∙ shares-rise starts heads parents a n A x

  -- The first words are the tables'
  here : (l : List ℕ) (k : ℕ) → k ≤ n → get_or (take (n + 1) l) k 0 ≡ get_or l k 0
  here l k le = get_or-take (n + 1) l k 0 (omega arith)

  lie : (k : ℕ) → k < n → (get_or tables.row_starts k 0 ≤ get_or tables.row_starts (k + 1) 0) × (get_or tables.row_starts (k + 1) 0 ≤ length area)
  unfolding chains_of
  lie k lt =
      let t = row_lies P n (chains_of r (n + 1) tables) area area₀ laid k lt in
      (omega (arith, t.0, here tables.row_starts k (omega arith), here tables.row_starts (k + 1) (omega arith)), omega (arith, t.1, here tables.row_starts (k + 1) (omega arith)))

  row_here : (k : ℕ) → k < n → row_in tables.row_starts area k ≡ row_at (histories P) k
  unfolding chains_of
  row_here k lt =
      ap₂ (λ (i j : ℕ). part i j area) (sym (here tables.row_starts k (omega arith))) (sym (here tables.row_starts (k + 1) (omega arith))) ∙
      row_found P n (chains_of r (n + 1) tables) area area₀ laid k lt

  -- What the tables need
  pub measurable : (r.chains ≤ 512) × Measurable n area tables
  unfolding chains_of
  measurable = (
    omega (arith, laid.number, chs-few (histories P) n, R.sound.few),
    record {
      index = subst (λ (k : ℕ). Indexable k (take (k + 1) tables.lens) (take (k + 1) tables.chains) (take (k + 1) tables.places)) size (laid_indexable P r tables area area₀ laid_all few);
      rows = record { few = R.sound.few; rise = λ k lt. (lie k lt).0; inside = λ k lt. (lie k lt).1 };
    },
  )

  pub relatable : Relatable S n groups
  relatable = record { sound = R.sound; rise = rise; order = own-order starts heads parents a n A }

-- The tables are there
module _ (starts heads parents : List ℕ) (a n : ℕ) (A : Arrays starts heads parents (a + n)) (area₀ area : List ℕ) (q : Areas) (r : Area)
    (R : RangeLaid (shares heads parents a n) n area₀ (Some r) area q.parents q.chains) (known first : ℕ)
    (M : Measured (own starts heads parents a n A) n r.chains area q.chains q.members q.sizes) (F : Related (own starts heads parents a n A) n q.parents q.children q.weights)
    (low : known ≤ first) (high : first ≤ n) where
  abbrev given : Given
  given = record { starts = starts; rows = area; areas = q; base = a; runs = n; chains = r.chains; known = known; first = first }

  abbrev w : ℕ
  w = n + 1

  abbrev Q : List (List ℕ)
  Q = grouped q.parents.starts q.parents.items n

  abbrev T : List ℕ
  T = own starts heads parents a n A

  number : length Q ≡ n
  number = size starts heads parents a n A area₀ area q.parents q.chains r R

  all-laid : Laid Q (length Q) (chains_of r (length Q + 1) q.chains) area area₀
  all-laid = laid_all starts heads parents a n A area₀ area q.parents q.chains r R

  this_laid : Laid Q n (chains_of r (n + 1) q.chains) area area₀
  this_laid = laid starts heads parents a n A area₀ area q.parents q.chains r R

  small : length Q ≤ 512
  small = few starts heads parents a n A area₀ area q.parents q.chains r R

  first-words : (l : List ℕ) (k : ℕ) → k ≤ n → get_or (take (n + 1) l) k 0 ≡ get_or l k 0
  first-words = here starts heads parents a n A area₀ area q.parents q.chains r R

  index : IndexOf T (length Q) (take (length Q + 1) q.chains.lens) (take (length Q + 1) q.chains.chains) (take (length Q + 1) q.chains.places) (take w q.members.starts) (take w q.members.runs) q.members.before
  index = subst (λ (k : ℕ). IndexOf T k (take (k + 1) q.chains.lens) (take (k + 1) q.chains.chains) (take (k + 1) q.chains.places) (take w q.members.starts) (take w q.members.runs) q.members.before) (sym number) M.index

  listed : Listed (chs (histories Q) (length Q)) (take w q.members.starts) (take w q.members.runs)
  listed = laid_listed Q r q.chains area area₀ all-laid small T (take w q.members.starts) (take w q.members.runs) q.members.before index

  summed : Sums (chs (histories Q) (length Q)) (λ m. get_or (sizes_of (offsets starts a n)) m 0) (take w q.members.starts) (take w q.members.before)
  summed = sums_same (histories Q) (length Q) (size_in T) (λ m. get_or (sizes_of (offsets starts a n)) m 0) (take w q.members.starts) (take w q.members.before)
      (λ m lt. own-sizes starts heads parents a n A m (omega (arith, number)))
      (subst (λ (k : ℕ). Sums (chs (histories Q) (length Q)) (size_in T) (take w q.members.starts) (take (k + 1) q.members.before)) number
      (laid_summed_first Q r q.chains area area₀ all-laid small T (take w q.members.starts) (take w q.members.runs) q.members.before index))

  weighed : (k : ℕ) → k < n → get_or q.weights k 0 ≡ get_or (weights (offsets starts a n) Q) k 0
  weighed k lt =
      weight-at T q.children.starts q.children.items n q.weights Q F.weights F.children number R.sound.below k lt ∙
      ap (λ (l : List ℕ). get_or (weights l Q) k 0) (sym (own-offsets starts heads parents a n A))

  chain-count : r.chains ≡ length (chs (histories Q) (length Q))
  unfolding chains_of
  chain-count = this_laid.number ∙ ap (λ (k : ℕ). length (chs (histories Q) k)) (sym number)

  pub prepared : Prepared given
  unfolding row_starts chains_in places_in begins_in members_in child_starts weights_in sums_in row_for parents_for range_for chains_for range_by chains_of
  prepared = record {
    few = A.sound.few;
    known = low;
    first = high;
    sound = R.sound;
    rise = rise starts heads parents a n A area₀ area q.parents q.chains r R;
    number = chain-count;
    lies = lie starts heads parents a n A area₀ area q.parents q.chains r R;
    rows = row_here starts heads parents a n A area₀ area q.parents q.chains r R;
    chain = λ k lt. sym (first-words q.chains.chains k (omega arith)) ∙ this_laid.chain k lt;
    place = λ k lt. sym (first-words q.chains.places k (omega arith)) ∙ this_laid.place k lt;
    listed = listed;
    sums = summed;
    children = F.children;
    weights = weighed;
    sizes = M.sizes;
  }

  pub range_same : range_for given ≡ range_in starts heads parents a n
  unfolding range_for range_in parents_for
  range_same = ap (range_by (offsets starts a n)) R.groups_are
