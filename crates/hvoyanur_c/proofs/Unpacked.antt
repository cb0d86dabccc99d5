-- The three numbers come out of the joined one again, as `include/hvoyanur.h` takes them out.
use mathlib.Core.Path.{◌≡◌}
use Prim.Native.Nat.{ℕ, ◌<◌, ◌/◌, ◌%◌}
use native.Mathlib.Omega.{arith}
use Rattle.hvoyanur_c.specs.Pack.{joined}

module _ (word named splits : ℕ) (a : named < 65536) (b : splits < 65536) where
  pub word-part : joined word named splits / 4294967296 ≡ word
  word-part = omega arith

  pub named-part : joined word named splits / 65536 % 65536 ≡ named
  named-part = omega arith

  pub splits-part : joined word named splits % 65536 ≡ splits
  splits-part = omega arith
