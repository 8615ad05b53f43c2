-- Of `stdio::fill`: what came lies within the buffer, and is the input's. The measure is how much more may come.
use Rattle.std.proofs.Common.{◌≡◌, ◌≤◌, length, take}
use Rattle.std.specs.Io.KnownBytes.{Consumes, IsAtEnd}
use Rattle.stdio.specs.declared.reading.State.TheVariants.{Ended}
use Rattle.stdio.specs.Reads.{left_of}
use Rattle.stdio.proofs.fill.Given as goal

abbrev pub invariant-loop-input : goal.invariant-loop-input
invariant-loop-input g l = record {
  within : l.r.count ≤ length l.buf;
  bytes : Consumes (g.R.Read.remaining l.initial.input) (g.R.Read.remaining l.input) (take l.r.count l.buf);
  end : l.r.state ≡ Ended → IsAtEnd (g.R.Read.remaining l.input);
}

abbrev pub decreases-loop-input : goal.decreases-loop-input
decreases-loop-input g l = left_of l.r (length l.buf)
