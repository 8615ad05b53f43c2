-- `tables::tabling::lay` meets its contract: a range's parents, chains and rows. Assumes nothing.
use Rattle.std.proofs.Common.{◌≡◌, ◌+◌, ◌-◌, List, ℕ, length, length-take-le, take, sym, ap, subst, ◌∙◌, arith}
use Rattle.tables.specs.declared.rows.ChainTables.{ChainTables}
use Rattle.tables.specs.Jagged.{rows_in}
use Rattle.tables.specs.Laid.{shares_of, LaidOut}
use Rattle.tables.proofs.JaggedRows.{rows_size, rows-below, rows_are}
use Rattle.tables.proofs.tabling.lay.Goals as goal

pub lay-requires-clause-below : goal.lay-requires-clause-below
lay-requires-clause-below c =
    let g = c.gather.new in
    let made = c.new-own.ensures ∙ ap (λ (k : ℕ). rows_in g.starts g.items (k - c.args.a)) c.len.ensures.value in
    rows-below g.starts g.items (length c.args.all.now - c.args.a) c.gather.ensures.sound c.new-own.result made

pub lay-requires-clause-row : goal.lay-requires-clause-row
lay-requires-clause-row c =
    let g = c.gather.new in
    let made = c.new-own.ensures ∙ ap (λ (k : ℕ). rows_in g.starts g.items (k - c.args.a)) c.len.ensures.value in
    let row : length (take (c.len.result - c.args.a + 1) c.args.scratch.now) ≡ c.len.result - c.args.a + 1 =
    length-take-le (c.len.result - c.args.a + 1) c.args.scratch.now (omega (arith, c.len.ensures.value, c.requires.scratch)) in
    omega (arith, row, c.len.ensures.value, rows_size g.starts g.items (length c.args.all.now - c.args.a) c.gather.ensures.sound c.new-own.result made)

pub returns : goal.returns
returns c =
    let a = c.args in
    let g = c.gather.new in
    let n : ℕ = length a.all.now - a.a in
    let s = c.gather.ensures.sound in
    let same = c.gather.ensures.grouped in
    let made = c.new-own.ensures ∙ ap (λ (k : ℕ). rows_in g.starts g.items (k - a.a)) c.len.ensures.value in
    let own : c.new-own.result ≡ shares_of a.all.now a.a n = rows_are g.starts g.items n s c.new-own.result made ∙ same in
    let t : ChainTables = record { row_starts = c.lay.new.row_starts; chains = c.lay.new.chains; places = c.lay.new.places; lens = c.lay.new.lens } in
    let out = subst (λ (l : List (List ℕ)). LaidOut l (length l) a.area.now c.lay.result c.lay.new.rows t) own c.lay.ensures in
    record {
      out = subst (λ (k : ℕ). LaidOut (shares_of a.all.now a.a n) k a.area.now c.lay.result c.lay.new.rows t)
          (sym (ap length own) ∙ rows_size g.starts g.items n s c.new-own.result made) out;
      groups_are = same;
      sound = s;
    }
