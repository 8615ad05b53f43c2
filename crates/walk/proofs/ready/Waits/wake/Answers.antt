-- `walk::ready::Waits::wake`: one less to wait for, and at none the run is ready.
use Rattle.std.proofs.Common.{sym, ap, ◌∙◌, arith}
use Rattle.walk.specs.Readiness.{Wakes, wake_of}
use Rattle.walk.proofs.Keeping.{kept_past, kept_zero, kept_more, kept_full, kept_push}
use Rattle.walk.proofs.ready.Waits.wake.Goals as goal

pub returns-then-self-c : goal.returns-then-self-c
returns-then-self-c c = let i = c.self.inside in
    sym c.self.view_is ∙ (kept_past i.count i.runs i.waiting i.ready (omega (arith, c.self.invariant)) c.args.child c.if-self-c.true ∙ ap
    (λ (s : Wakes). wake_of s c.args.child) c.self.view_is)

pub returns-then-w-eq0 : goal.returns-then-w-eq0
returns-then-w-eq0 c = let i = c.self.inside in
    sym c.self.view_is ∙ (kept_zero i.count i.runs i.waiting i.ready (omega (arith, c.self.invariant)) c.args.child c.if-self-c.false c.if-w-eq0.true ∙ ap
    (λ (s : Wakes). wake_of s c.args.child) c.self.view_is)

pub returns-then-w-gt1 : goal.returns-then-w-gt1
returns-then-w-gt1 c = let i = c.self.inside in
    kept_more i.count i.runs i.waiting i.ready (omega (arith, c.self.invariant)) c.args.child c.if-self-c.false c.if-w-eq0.false c.if-w-gt1.true ∙ ap
    (λ (s : Wakes). wake_of s c.args.child) c.self.view_is

pub returns-then-self-ge-MAX_RUNS : goal.returns-then-self-ge-MAX_RUNS
returns-then-self-ge-MAX_RUNS c = let i = c.self.inside in
    kept_full i.count i.runs i.waiting i.ready (omega (arith, c.self.invariant)) c.args.child c.if-self-c.false c.if-w-eq0.false
    (omega (arith, c.if-self-ge-MAX_RUNS.true)) ∙ ap (λ (s : Wakes). wake_of s c.args.child) c.self.view_is

pub returns : goal.returns
returns c = let i = c.self.inside in
    kept_push i.count i.runs i.waiting i.ready (omega (arith, c.self.invariant)) c.args.child c.if-self-c.false c.if-w-eq0.false c.if-w-gt1.false
    (omega (arith, c.if-self-ge-MAX_RUNS.false)) ∙ ap (λ (s : Wakes). wake_of s c.args.child) c.self.view_is
