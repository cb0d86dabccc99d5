-- `case_sheet::print::Sums::of`: both sums are remainders, so that neither addition wraps.
use Prim.Native.Nat.{◌<◌}
use Rattle.case_sheet.proofs.print.Sums.of.Given as goal

abbrev pub invariant-loop-byte : goal.invariant-loop-byte
invariant-loop-byte l = (l.plain < 65521) × (l.weighted < 65521)
