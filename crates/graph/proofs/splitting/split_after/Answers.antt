-- `graph::splitting::split_after` meets its contract: the arrays stay, or the run that holds the parent is split. Assumes nothing.
use Rattle.std.proofs.Common.{arith, ap, refl, ◌≡◌, ◌∙◌, ◌+◌, ◌-◌, ◌<◌, Bool, ℕ, length, take, get_or, get_or-take, eqb, rules, Fits, w32}
use Rattle.model.specs.declared.record.CausalGraph.{CausalGraph}
use Rattle.model.specs.declared.answers.Containing.{Containing}
use Rattle.model.specs.Answers.{containing_at}
use Rattle.graph.specs.Loops.{parts_of, side_in, with_arrays, AfterFits}
use Rattle.graph.proofs.Placing.{Found, by_used, found, told-out}
use Rattle.graph.proofs.SplitParts.{needs_not, needs_ended, needs_inside, after_no, after_yes, own_arrays}
use Rattle.graph.proofs.splitting.split_after.Goals as goal

-- what the starts in use tell is what their array tells
used : (g : CausalGraph) (p : ℕ) {a : Containing} → AfterFits (parts_of g) p →
    a ≡ containing_at (side_in (take (g.run_count + 1) g.starts) (length (take (g.run_count + 1) g.starts) - 1) p) → a ≡ containing_at (side_in g.starts g.run_count p)
used g p f e = by_used g.starts g.run_count p (omega (arith, f.long.runs, f.long.starts)) e

-- and a run's end that is read from them is its end
ended : (g : CausalGraph) (p r : ℕ) {b : Bool} → Found g.starts g.run_count p r → b ≡ eqb (p + 1) (get_or (take (g.run_count + 1) g.starts) (r + 1) 0) →
    b ≡ eqb (p + 1) (get_or g.starts (r + 1) 0)
ended g p r f e =
    let h : r + 1 < g.run_count + 1 = omega (arith, f.low) in
    rw (get_or-take (g.run_count + 1) g.starts (r + 1) 0 h) at e

pub returns-in_default : goal.returns-in_default
returns-in_default c =
    let g = c.args.g.now in
    let p = c.args.p.0 in
    own_arrays g ∙
    ap (with_arrays g) (after_no (parts_of g) p
    (needs_not g.starts g.run_count p (told-out (side_in g.starts g.run_count p) (used c.args.g.now c.args.p.0 c.requires c.containing_in.ensures) c.in_default.not-Run)))

pub bounds-starts-next : goal.bounds-starts-next
bounds-starts-next c =
    let g = c.args.g.now in
    omega (arith, (found g.starts g.run_count c.args.p.0 c.in-Run.run' (used c.args.g.now c.args.p.0 c.requires c.containing_in.ensures) c.in-Run.is).low, c.requires.long.runs)

pub overflow_add-after : goal.overflow_add-after
overflow_add-after c =
    let g = c.args.g.now in
    let f = found g.starts g.run_count c.args.p.0 c.in-Run.run' (used c.args.g.now c.args.p.0 c.requires c.containing_in.ensures) c.in-Run.is in
    let h : g.run_count < g.run_count + 1 = omega arith in
    let word : Fits w32 (get_or (take (g.run_count + 1) g.starts) g.run_count 0) = search rules in
    omega (arith, f.under, get_or-take (g.run_count + 1) g.starts g.run_count 0 h, word)

pub split_in-requires : goal.split_in-requires
split_in-requires c =
    let g = c.args.g.now in
    let p = c.args.p.0 in
    let f = found g.starts g.run_count p c.in-Run.run' (used c.args.g.now c.args.p.0 c.requires c.containing_in.ensures) c.in-Run.is in
    rw f.is (c.requires.fits (needs_inside g.starts g.run_count p c.in-Run.run'.0 f (ended g p _ f c.is_next.ensures) c.if-not-is_next.true))

pub returns-then-not-is_next : goal.returns-then-not-is_next
returns-then-not-is_next c =
    let g = c.args.g.now in
    let p = c.args.p.0 in
    let f = found g.starts g.run_count p c.in-Run.run' (used c.args.g.now c.args.p.0 c.requires c.containing_in.ensures) c.in-Run.is in
    c.split_in.ensures ∙
    ap (with_arrays g) (after_yes (parts_of g) _ p _ f.is (needs_inside g.starts g.run_count p c.in-Run.run'.0 f (ended g p _ f c.is_next.ensures) c.if-not-is_next.true) refl)

pub returns-else-not-is_next : goal.returns-else-not-is_next
returns-else-not-is_next c =
    let g = c.args.g.now in
    let p = c.args.p.0 in
    let f = found g.starts g.run_count p c.in-Run.run' (used c.args.g.now c.args.p.0 c.requires c.containing_in.ensures) c.in-Run.is in
    own_arrays g ∙ ap (with_arrays g) (after_no (parts_of g) p (needs_ended g.starts g.run_count p c.in-Run.run'.0 f (ended g p _ f c.is_next.ensures) c.if-not-is_next.false))
