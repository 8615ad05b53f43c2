-- `Kept::push` meets its contract: the area is again known by its list. Assumes nothing.
use Rattle.std.proofs.Common.{◌<◌, length, take, arith}
use Rattle.lists.specs.Padded.{length-area}
use Rattle.lists.proofs.Pads.{set-area}
use Rattle.lists.proofs.kept.Kept.push.Goals as goal

pub invariant_of-self : goal.invariant_of-self
invariant_of-self c =
    let k = c.self.inside in
    let h = c.self.invariant in
    let size = length-area 512 k.count k.items h.0 h.1 in
    let short : length (take k.count k.items) < 512 = rw (← c.self.view_is) at c.requires in
    let room : k.count < 512 = omega (arith, size, short) in
    (omega (arith, room), set-area 512 k.count c.args.v k.items room h.1)
