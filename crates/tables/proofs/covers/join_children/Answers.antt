-- `tables::covers::join_children` meets its contract: the covers of runs are joined. Assumes nothing.
use Rattle.std.proofs.Common.{get_or, sym, ◌∙◌, arith}
use Rattle.lists.proofs.Members.{get_d_mem}
use Rattle.tables.specs.Covers.{word_bits, bits_in, cover_at, Inside}
use Rattle.tables.proofs.Joins.{join_turn, join-none}
use Rattle.tables.proofs.covers.join_children.Goals as goal

pub join_run-requires-clause-inside : goal.join_run-requires-clause-inside
unfolding Inside
join_run-requires-clause-inside c =
    let xs = c.args.children.now in
    let i = c.loop-x.x-index in c.requires.inside (get_or xs i 0) (get_d_mem xs i 0 (omega arith))

pub loop-x-preserved : goal.loop-x-preserved
loop-x-preserved c =
    let a = c.args in
    let l = c.loop-x in
    join_turn (bits_in word_bits l.z) (bits_in word_bits c.join_run.new.z) (cover_at a.covers.now) a.children.now l.x-index (omega arith) c.join_run.ensures ∙ l.invariant

pub returns : goal.returns
returns c =
    let a = c.args in
    let l = c.loop-x in
    sym (join-none (bits_in word_bits l.z) (cover_at a.covers.now) a.children.now l.x-index (omega arith)) ∙ l.invariant
