-- The three changes of the exchange, value by value.
use mathlib.Core.Path.{◌≡◌, refl, sym}
use mathlib.Core.Bool.{Bool, true, false, not, cond, true≢false}
use Prim.Native.Nat.{ℕ, ◌/◌, ◌%◌, ◌≤◌}
use native.Mathlib.Omega.{arith}
use lib.Dec.{eqb}
use Rattle.game.specs.Game.{within, marked}
use Rattle.file.proofs.Sound.{within_high}
use Rattle.encoding.proofs.Places.{◌and◌, done, below}
use Rattle.exchange.specs.Exchange.{other_objective, other_marks}

-- ## The other of 1 and 2, for turns and objectives alike

pub other-known : (b : ℕ) → within 1 2 (cond (eqb b 1) 2 1) ≡ true
other-known b = go (eqb b 1)
  where
    go : (t : Bool) → within 1 2 (cond t 2 1) ≡ true
    go true = refl
    go false = refl

-- a rule that holds of 1 and 2 holds of each known value
one_or_two : (P : ℕ → Type 0) → P 1 → P 2 → (b : ℕ) → within 1 2 b ≡ true → P b
one_or_two P p q b e =
    below (λ b. within 1 2 b ≡ true → P b) 4 ((λ z. absurd (true≢false (sym z)), λ z. p) and (λ z. q, λ z. absurd (true≢false (sym z))) and done) b
    (omega (arith, within_high 1 2 b e)) e

pub other-twice : (b : ℕ) → within 1 2 b ≡ true → cond (eqb (cond (eqb b 1) 2 1) 1) 2 1 ≡ b
other-twice = one_or_two (λ b. cond (eqb (cond (eqb b 1) 2 1) 1) 2 1 ≡ b) refl refl

-- an objective is small, so that its low byte tells all
pub objective-bytes : (o : ℕ) → within 1 2 o ≡ true → (other_objective (o % 256) ≡ other_objective o % 256) × (o / 256 ≡ other_objective o / 256)
objective-bytes = one_or_two (λ o. (other_objective (o % 256) ≡ other_objective o % 256) × (o / 256 ≡ other_objective o / 256)) (refl, refl) (refl, refl)

-- ## Marks

-- a rule that holds of 0 to 3 holds of all marks
each_mark : (P : ℕ → Type 0) → P 0 × P 1 → P 2 × P 3 → (m : ℕ) → m ≤ 3 → P m
each_mark P p q m l = below P 4 (p and q and done) m (omega arith)

pub marks-known : (m : ℕ) → m ≤ 3 → other_marks m ≤ 3
marks-known = each_mark (λ m. other_marks m ≤ 3) (omega arith) (omega arith)

pub marks-twice : (m : ℕ) → m ≤ 3 → other_marks (other_marks m) ≡ m
marks-twice = each_mark (λ m. other_marks (other_marks m) ≡ m) (refl, refl) (refl, refl)

-- 01, 'What is handed back': initial marks are equal
pub marks-initial : (m : ℕ) → m ≤ 3 → marked 1 (other_marks m) ≡ marked 1 m
marks-initial = each_mark (λ m. marked 1 (other_marks m) ≡ marked 1 m) (refl, refl) (refl, refl)

-- demand 3: the other states are the target
pub marks-target : (m : ℕ) → m ≤ 3 → marked 2 (other_marks m) ≡ not (marked 2 m)
marks-target = each_mark (λ m. marked 2 (other_marks m) ≡ not (marked 2 m)) (refl, refl) (refl, refl)
