-- `tables::jagged::Jagged::len` meets its contract: it is the number of rows. Assumes nothing.
use Rattle.std.proofs.Common.{List, ℕ, length, sym, ap, ◌∙◌, arith}
use Rattle.lists.specs.Lists.{concat}
use Rattle.tables.proofs.JaggedRows.{rows-number, rows-end}
use Rattle.tables.proofs.jagged.Jagged.len.Goals as goal

pub returns-clause-value : goal.returns-clause-value
returns-clause-value c = let j = c.self.inside in sym (rows-number j.starts.now j.items.now j.rows) ∙ ap length c.self.view_is

pub returns-clause-words : goal.returns-clause-words
returns-clause-words c =
    let j = c.self.inside in
    omega (arith, ap (λ (l : List (List ℕ)). length (concat l)) c.self.view_is, rows-end j.starts.now j.items.now j.rows c.self.invariant, c.starts_fit.ensures j.rows)
