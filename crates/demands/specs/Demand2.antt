-- Demand 2, of the outcome of a call with the bytes f of an accepted file, the allowance a and rows that are long enough.
use Rattle.std.specs.Prelude.{ℕ, ◌+◌, ◌≤◌, ◌≡◌, ◌↔◌, List, Result, Ok}
use Rattle.game.specs.declared.StateNo.{StateNo}
use Rattle.file.specs.declared.refusal.Refusal.{Refusal}
use Rattle.decoding.specs.Decode.{game_of}
use Rattle.solver.specs.Solve.{Outcome}
use Rattle.solver.specs.declared.Verdict.{Verdict}
use Rattle.solver.specs.declared.Verdict.TheVariants.{Yes, No, Open}
use Rattle.demands.specs.Winners.{SomeStartWins, PlanOfYes, PlanOfNo}
use Rattle.demands.specs.Meaning.{place, blocks_of}

-- the answer says YES, NO or OPEN
abbrev pub IsYes : Result Verdict Refusal → Type 0
IsYes v = (s : StateNo) × (n : ℕ) × (v ≡ Ok (Yes s n))

abbrev pub IsNo : Result Verdict Refusal → Type 0
IsNo v = (n : ℕ) × (v ≡ Ok (No n))

abbrev pub IsOpen : Result Verdict Refusal → Type 0
IsOpen v = (n : ℕ) × (v ≡ Ok (Open n))

pub record Demand2 (f : List ℕ) (a : ℕ) (out : Outcome) : Type 0 where
  -- 'Where it doesn't say OPEN: YES exactly if some marked start lets side 1 force its objective (reach the target, or stay in it for
  -- ever) against all play, by the published game definition, which knows no blocks; otherwise NO.'
  pub decides : (IsOpen out.answer → ⊥)
      → (IsYes out.answer ↔ SomeStartWins (game_of f)) × (IsNo out.answer ↔ (SomeStartWins (game_of f) → ⊥))
  -- 'The winner's plan is shown, and it wins.'
  pub plan_of_yes : (s : StateNo) (n : ℕ) → out.answer ≡ Ok (Yes s n) → PlanOfYes (game_of f) s.0 (place out.rows.moves)
  pub plan_of_no : (n : ℕ) → out.answer ≡ Ok (No n) → PlanOfNo (game_of f) (place out.rows.moves)
  -- 'OPEN comes only when the allowed splits are used up,
  pub open_used_up : (n : ℕ) → out.answer ≡ Ok (Open n) → n ≡ a
  -- and never if they are at least the states minus the starting blocks.'
  pub never_open : (game_of f).states ≤ blocks_of (game_of f) + a → IsOpen out.answer → ⊥
