-- Refusals and their numbers tell each other, and an answer tells its fault.
use mathlib.Core.Path.{◌≡◌, refl, sym, ap, ◌∙◌}
use mathlib.Core.Bool.{Bool, true, false}
use mathlib.Core.List.{List}
use mathlib.Core.Logic.{◌⊎◌, inl, inr}
use Prim.Native.Nat.{ℕ, zero, suc, ◌≤◌}
use native.Mathlib.Omega.{arith}
use lib.Dec.{lit≤}
use Rattle.std.specs.Prelude.{◌-◌, get_or, Result, Ok, Err}
use Rattle.file.specs.declared.refusal.Refusal.{Refusal}
use Rattle.file.specs.declared.refusal.Refusal.TheVariants.{ShortRow, CutShort, OtherRecord, BadHead, BadState, BadMove, BytesAtEnd, NoStart, NoMove, MixedStarts, MixedTarget}
use Rattle.file.specs.Number.{number, refusals, refused, fault_of}
use Rattle.file.specs.Fault.{unless, ◌then◌, lowest, answered}
use Rattle.file.specs.Refusals.{frame, head_fields, head_fault, state_fields, state_fault, move_fields, move_fault, block_fault, whole_fault, refusal}

-- ## Each refusal has a number from 1 to 11, and each of these is a refusal's

pub refused_number : (r : Refusal) → refused (number r) ≡ r
refused_number ShortRow = refl
refused_number CutShort = refl
refused_number OtherRecord = refl
refused_number BadHead = refl
refused_number BadState = refl
refused_number BadMove = refl
refused_number BytesAtEnd = refl
refused_number NoStart = refl
refused_number NoMove = refl
refused_number MixedStarts = refl
refused_number MixedTarget = refl

pub number_range : (r : Refusal) → (1 ≤ number r) × (number r ≤ 11)
number_range ShortRow = (omega arith, omega arith)
number_range CutShort = (omega arith, omega arith)
number_range OtherRecord = (omega arith, omega arith)
number_range BadHead = (omega arith, omega arith)
number_range BadState = (omega arith, omega arith)
number_range BadMove = (omega arith, omega arith)
number_range BytesAtEnd = (omega arith, omega arith)
number_range NoStart = (omega arith, omega arith)
number_range NoMove = (omega arith, omega arith)
number_range MixedStarts = (omega arith, omega arith)
number_range MixedTarget = (omega arith, omega arith)

-- no two refusals have one number
pub number_same : (r s : Refusal) → number r ≡ number s → r ≡ s
number_same r s e = sym (refused_number r) ∙ ap refused e ∙ refused_number s

pub number_refused : (e : ℕ) → 1 ≤ e → e ≤ 11 → number (refused e) ≡ e
number_refused e low high = go (e - 1) (omega arith) ∙ (omega arith)
  where
    go : (i : ℕ) → i ≤ 10 → number (get_or refusals i MixedTarget) ≡ suc i
    go zero h = refl
    go (suc zero) h = refl
    go (suc (suc zero)) h = refl
    go (suc (suc (suc zero))) h = refl
    go (suc (suc (suc (suc zero)))) h = refl
    go (suc (suc (suc (suc (suc zero))))) h = refl
    go (suc (suc (suc (suc (suc (suc zero)))))) h = refl
    go (suc (suc (suc (suc (suc (suc (suc zero))))))) h = refl
    go (suc (suc (suc (suc (suc (suc (suc (suc zero)))))))) h = refl
    go (suc (suc (suc (suc (suc (suc (suc (suc (suc zero))))))))) h = refl
    go (suc (suc (suc (suc (suc (suc (suc (suc (suc (suc zero)))))))))) h = refl
    go (suc (suc (suc (suc (suc (suc (suc (suc (suc (suc (suc i))))))))))) h = absurd (omega arith)

-- ## An answer, or the refusal of a fault

module _ {A : Type 0} (a : A) where
  pub answered_err : (e : ℕ) → 1 ≤ e → answered e a ≡ Err (refused e)
  answered_err zero low = absurd (omega arith)
  answered_err (suc e) low = refl

  pub refused_given : (r : Refusal) (e : ℕ) → number r ≡ e → Err r ≡ answered e a
  refused_given r e p = ap Err (sym (refused_number r) ∙ ap refused p) ∙ sym (answered_err e (rw p at (number_range r).0))

  pub answer_given : (e : ℕ) → 0 ≡ e → Ok a ≡ answered e a
  answer_given e p = rw (← p) refl

  -- what is given is the answer, or a refusal
  pub answered_cases : (e : ℕ) (v : Result A Refusal) → v ≡ answered e a → ((e ≡ 0) × (v ≡ Ok a)) ⊎ ((1 ≤ e) × (v ≡ Err (refused e)))
  answered_cases zero v p = inl (refl, p)
  answered_cases (suc e) v p = inr (omega arith, p)

  -- the answer tells its fault
  pub fault_of_answered : (e : ℕ) → e ≤ 11 → fault_of (answered e a) ≡ e
  fault_of_answered zero high = refl
  fault_of_answered (suc e) high = number_refused (suc e) (omega arith) high

-- ## The refusal of a file is one of the eleven

-- each link of the chain gives a number of at most 11
pub then_most : (a b : ℕ) → a ≤ 11 → b ≤ 11 → (a then b) ≤ 11
unfolding ◌then◌
then_most zero b p q = q
then_most (suc a) b p q = p

pub unless_most : (t : Bool) (v : ℕ) → v ≤ 11 → unless t v ≤ 11
unfolding unless
unless_most true v h = omega arith
unless_most false v h = h

pub lowest_most : (n : ℕ) (fault : ℕ → ℕ) → ((k : ℕ) → fault k ≤ 11) → lowest n fault ≤ 11
unfolding lowest
lowest_most zero fault h = omega arith
lowest_most (suc n) fault h = then_most (lowest n fault) (fault n) (lowest_most n fault h) (h n)

pub ruleset mosts = (then_most, unless_most, lowest_most, lit≤, tt)

pub refusal_most : (f : List ℕ) → refusal f ≤ 11
unfolding refusal head_fault head_fields state_fault state_fields move_fault move_fields whole_fault block_fault frame
refusal_most f = search mosts depth 12
