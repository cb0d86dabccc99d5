-- A fault is the number of a refusal, or 0 where there is none.
use Rattle.std.specs.Prelude.{ℕ, zero, suc, Bool, true, false, Result, Ok, Err}
use Rattle.file.specs.declared.refusal.Refusal.{Refusal}
use Rattle.file.specs.Number.{refused}

-- 01, 'Refusals in their order': given unless the test holds
unfoldable pub unless : Bool → ℕ → ℕ
unless true v = 0
unless false v = v

-- 01, 'Refusals in their order': the first of two faults
infixr 20 ◌then◌
unfoldable pub ◌then◌ : ℕ → ℕ → ℕ
◌then◌ zero b = b
◌then◌ (suc a) b = suc a

-- 01, 'Refusals in their order': the first faulty one of n records decides
unfoldable pub lowest : ℕ → (ℕ → ℕ) → ℕ
lowest zero fault = 0
lowest (suc n) fault = lowest n fault then fault n

-- 01, 'Refusals in their order': a refusal returns its number alone; 0 stands for none, and then the answer is given
abbrev pub refused_or : {A : Type 0} → (ℕ → A) → ℕ → A → A
refused_or refused zero answer = answer
refused_or refused (suc e) answer = refused (suc e)

-- the answer, or else the refusal
abbrev pub answered : {A : Type 0} → ℕ → A → Result A Refusal
answered e answer = refused_or (λ e. Err (refused e)) e (Ok answer)

-- 01, 'Refusals in their order': on a refusal lent memory keeps its old content; 0 stands for none, and then it has the new one
abbrev pub kept_or : {A : Type 0} → A → ℕ → A → A
kept_or old = refused_or (λ e. old)
