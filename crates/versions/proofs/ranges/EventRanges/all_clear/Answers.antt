-- `versions::ranges::EventRanges::all_clear` meets its contract. The loop's invariant: the runs so far are clear, and the place is not past the next start's. Assumes nothing.
use Rattle.std.proofs.Common.{◌≡◌, [], ◌∷◌, ◌++◌, ◌<◌, ◌-◌, ◌+◌, ℕ, length, take, drop, length-take, rules, ◌∙◌, arith}
use Rattle.std.proofs.lemmas.List.{length_push}
use Rattle.std.proofs.lemmas.Slice.Zip.{zip_turn}
use Rattle.versions.specs.Ranges.{clear_in}
use Rattle.versions.proofs.RangeWords.{ranges_even}
use Rattle.versions.proofs.RangeTurns.{next_start, place-next, clear_turn, all_start, all-next, all_stop}
use Rattle.versions.proofs.ranges.EventRanges.all_clear.Goals as goal

pub loop-start-init : goal.loop-start-init
loop-start-init c = (search rules, search rules, omega arith, all_start (clear_in c.args.starts.now c.args.self.words.now))

pub returns-then-not-is_clear : goal.returns-then-not-is_clear
returns-then-not-is_clear c =
    let starts = c.args.starts.now in
    let n = length c.loop-start.yielded in
    let t = zip_turn starts (take (length starts - 1) (drop 1 starts)) c.loop-start.yielded c.into_iter-start-iterator.result c.loop-start.start-iterator c.next.new.self c.next.result
    (search rules) (cc (c.zip-start-items.ensures.second.0)) c.loop-start.yielded_by (c.in-Some.start, c.in-Some.next) c.in-Some.is c.next.ensures.steps in
    let lt : n < length starts - 1 = omega (arith, t.1, length-take {A = ℕ}) in
    let place = rw (t.2 0) at c.place-k.ensures in
    let clear = rw (t.3 0 ∙ next_start starts n lt) at c.is_clear.ensures in
    all_stop (clear_in starts c.args.self.words.now) n (length starts - 1) lt (clear_turn starts c.args.self.words.now n _ _ place clear ∙ c.if-not-is_clear.true)

pub loop-start-preserved : goal.loop-start-preserved
loop-start-preserved c =
    let starts = c.args.starts.now in
    let n = length c.loop-start.yielded in
    let t = zip_turn starts (take (length starts - 1) (drop 1 starts)) c.loop-start.yielded c.into_iter-start-iterator.result c.loop-start.start-iterator c.next.new.self c.next.result
    (search rules) (cc (c.zip-start-items.ensures.second.0)) c.loop-start.yielded_by (c.in-Some.start, c.in-Some.next) c.in-Some.is c.next.ensures.steps in
    let lt : n < length starts - 1 = omega (arith, t.1, length-take {A = ℕ}) in
    let place = rw (t.2 0) at c.place-k.ensures in
    let clear = rw (t.3 0 ∙ next_start starts n lt) at c.is_clear.ensures in
    let on : length (c.loop-start.yielded ++ (c.in-Some.start, c.in-Some.next) ∷ []) ≡ n + 1 = length_push c.loop-start.yielded (c.in-Some.start, c.in-Some.next) in (
      search rules,
      search rules,
      rw on (place-next c.args.self.words.now (ranges_even c.args.self.words.now c.args.self.paired).0 starts _ n _ c.requires lt place),
      rw on (all-next (clear_in starts c.args.self.words.now) n c.loop-start.invariant.3 (clear_turn starts c.args.self.words.now n _ _ place clear ∙ c.if-not-is_clear.false)),
    )
