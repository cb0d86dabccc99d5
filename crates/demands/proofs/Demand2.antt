-- Every answer means what it is to mean, and demand 2 holds, for every byte string, allowance and rows.
use Prim.Native.Nat.{ℕ, suc}
use mathlib.Core.Path.{◌≡◌, refl, sym, ap, ◌∙◌, subst}
use mathlib.Core.Logic.{◌↔◌}
use mathlib.Core.List.{List}
use native.Mathlib.Omega.{arith}
use Rattle.game.specs.declared.Game.{Game}
use Rattle.std.specs.Prelude.{Result, Ok, Err}
use Rattle.file.specs.declared.refusal.Refusal.{Refusal}
use Rattle.file.specs.Number.{refused}
use Rattle.file.specs.Fault.{refused_or}
use Rattle.file.specs.Refusals.{refusal}
use Rattle.file.proofs.Laws.{then_zero}
use Rattle.file.proofs.Numbers.{number_refused}
use Rattle.decoding.specs.Decode.{game_of}
use Rattle.decoding.proofs.Accepted.{accepted-game}
use Rattle.solver.specs.Solve.{run_of, verdict_of, Rows, written_rows, solve_fault, Outcome, solved}
use Rattle.solver.specs.declared.Verdict.{Verdict}
use Rattle.solver.specs.declared.Verdict.TheVariants.{Yes, No, Open}
use Rattle.solver.proofs.HandingBack.{solved_is}
use Rattle.demands.specs.Winners.{SomeStartWins}
use Rattle.demands.specs.Meaning.{Says, Answered, Means}
use Rattle.demands.specs.Demand2.{IsYes, IsNo, IsOpen, Demand2}
use Rattle.demands.proofs.Demand1.{fault_most}
use Rattle.demands.proofs.Answering.{answered}

module _ (f : List ℕ) (a : ℕ) (lent : Rows) where
  -- a call that meets no fault has met a file that is not refused
  pub not-refused : solve_fault f lent ≡ 0 → refusal f ≡ 0
  unfolding solve_fault
  not-refused none = (then_zero _ _ none).1

  -- the outcome by the number of the first fault
  pub outcome_is : (e : ℕ) → solve_fault f lent ≡ e
      → solved f a lent ≡ refused_or (λ e. record { answer = Err (refused e); rows = lent }) e (record { answer = Ok (verdict_of (run_of f a)); rows = written_rows (run_of f a).last lent })
  outcome_is e p =
      solved_is f a lent
      ∙ ap (λ e. refused_or (λ e. record { answer = Err (refused e); rows = lent }) e (record { answer = Ok (verdict_of (run_of f a)); rows = written_rows (run_of f a).last lent })) p

  -- what an answer means, whole
  pub means : Means f a lent (solved f a lent)
  means = record {
    refused = λ e p. (refused (suc e), number_refused (suc e) (omega arith) (omega (arith, p, fault_most f a lent)), outcome_is (suc e) p);
    answered = λ p. subst (Answered (game_of f) a lent) (sym (outcome_is 0 p)) (answered (game_of f) (accepted-game f (not-refused p)) a lent);
  }

-- an answer decides as demanded
decides : (g : Game) (a : ℕ) (rows : Rows) (v : Result Verdict Refusal) → Says g a rows v → (IsOpen v → ⊥)
    → (IsYes v ↔ SomeStartWins g) × (IsNo v ↔ (SomeStartWins g → ⊥))
decides g a rows (Ok (Yes s n)) h o =
    let w : SomeStartWins g = (s.0, h.start.0, h.start.1, h.won) in
    (((λ q. w), λ q. (s, n, refl)), ((λ q. let e = q.1 in let z : ◌≡◌ {A = ℕ} 0 1 = cc in absurd (omega arith)), λ none. absurd (none w)))
decides g a rows (Ok (No n)) h o =
    (((λ q. let e = q.2 in let z : ◌≡◌ {A = ℕ} 0 1 = cc in absurd (omega arith)), λ w. absurd (h.none w)), ((λ q. h.none), λ q. (n, refl)))
decides g a rows (Ok (Open n)) h o = absurd (o (n, refl))
decides g a rows (Err r) h o = absurd h

pub demand2 : (f : List ℕ) (a : ℕ) (lent : Rows) → solve_fault f lent ≡ 0 → Demand2 f a (solved f a lent)
demand2 f a lent none = record {
  decides = decides g a out.rows out.answer told;
  plan_of_yes = λ s n e. (says (Ok (Yes s n)) e).plan;
  plan_of_no = λ n e. (says (Ok (No n)) e).plan;
  open_used_up = λ n e. (says (Ok (Open n)) e).used_up;
  never_open = λ enough o. omega (arith, enough, (says (Ok (Open o.0)) o.1).too_few);
}
  where
    g : Game
    g = game_of f

    out : Outcome
    out = solved f a lent

    told : Says g a out.rows out.answer
    told = ((means f a lent).answered none).verdict

    says : (v : Result Verdict Refusal) → out.answer ≡ v → Says g a out.rows v
    says v e = subst (Says g a out.rows) e told
