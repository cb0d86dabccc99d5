-- `input::read_some` leaves the reader as it was until a read succeeds, and `room` keeps its length.
use Rattle.std.proofs.Common.{◌≡◌, length}
use Rattle.std.specs.Io.KnownBytes.{Keeps}
use Rattle.input.proofs.read_some.Given as goal

abbrev pub invariant-loop : goal.invariant-loop
invariant-loop g l = (length l.room ≡ length l.initial.room) × Keeps (g.R.Read.remaining l.initial.from) (g.R.Read.remaining l.from)
