-- Choices by tests, as code without loops meets them: each branch of an `if` is one side of a `cond`.
use mathlib.Core.Path.{◌≡◌, refl}
use mathlib.Core.Bool.{Bool, true, false, not, ◌&&◌, cond}
use borrow.Author.Rules.{rules}
use borrow.Author.Tests.{eq-eqb, ne_eqb, le-leb, lt-leb, lt-ltb, le-ltb, not-true, not-false}

module _ {A : Type 0} where
  -- the test of a choice passed
  pub choose_yes : (t : Bool) (v a b : A) → t ≡ true → v ≡ a → v ≡ cond t a b
  choose_yes t v a b e q = rw e q

  -- the test of a choice failed
  pub choose_no : (t : Bool) (v a b : A) → t ≡ false → v ≡ b → v ≡ cond t a b
  choose_no t v a b e q = rw e q

-- the first of two tests failed, or passed and left the second
pub and_stop : (a b : Bool) → a ≡ false → false ≡ (a && b)
and_stop a b e = rw e

pub and_pass : (a b v : Bool) → a ≡ true → v ≡ b → v ≡ (a && b)
and_pass a b v e q = rw e q

-- both of two tests passed, or one of them failed
pub both : (a b : Bool) → a ≡ true → b ≡ true → (a && b) ≡ true
both a b p q = rw (p, q)

pub first-not : (a b : Bool) → a ≡ false → (a && b) ≡ false
first-not a b p = rw p

pub second_not : (a b : Bool) → b ≡ false → (a && b) ≡ false
second_not true b p = p
second_not false b p = refl

-- a number that is not 0 passed the test for that
pub not-ne : (t : Bool) → t ≡ false → not t ≡ true
not-ne t e = rw e

pub not-eq : (t : Bool) → t ≡ true → not t ≡ false
not-eq t e = rw e

-- the laws by which `search` closes a branch
pub ruleset choices = (choose_yes, choose_no, and_stop, and_pass, both, first-not, second_not, not-ne, not-eq, not-true, not-false, eq-eqb, ne_eqb, le-leb, lt-leb, lt-ltb, le-ltb, rules)
