-- Demand 1 holds of every byte string, allowance and lent memory.
use Prim.Native.Nat.{ℕ, zero, suc, ◌≤◌}
use mathlib.Core.Path.{◌≡◌, refl, sym, ap, ◌∙◌}
use mathlib.Core.Bool.{true≢false}
use mathlib.Core.List.{List}
use native.Mathlib.Omega.{arith}
use lib.ListN.{length}
use Rattle.std.specs.Prelude.{Ok, Err}
use Rattle.file.specs.declared.refusal.Refusal.{Refusal}
use Rattle.file.specs.Number.{number, refused}
use Rattle.file.specs.Fault.{refused_or, answered, kept_or}
use Rattle.file.specs.Refusals.{refusal}
use Rattle.file.proofs.Numbers.{refused_number, number_range, number_refused, then_most, unless_most, refusal_most}
use Rattle.decoding.specs.Decode.{game_of, decoded}
use Rattle.exchange.specs.Exchange.{exchanged_file, exchange_fault, written_over, exchanged}
use Rattle.solver.specs.Solve.{run_of, verdict_of, Rows, written_rows, short_row, solve_fault, Outcome, solved}
use Rattle.solver.specs.declared.Verdict.{Verdict}
use Rattle.solver.proofs.HandingBack.{solved_is}
use Rattle.demands.specs.Demand1.{GivenExactly, Demand1, Demand1OfDecoding, Demand1OfExchange}

-- ## 'given exactly when its condition is the first met'

-- an answer is no refusal
ok_is_none : {A : Type 0} {a : A} {r : Refusal} → Ok a ≡ Err r → ⊥
ok_is_none h = let z : ◌≡◌ {A = ℕ} 0 1 = cc in omega arith

given_exactly : {A : Type 0} (a : A) (first : ℕ) → first ≤ 11 → GivenExactly first (answered first a)
given_exactly a zero low = record {
  one_to_eleven = low;
  exactly_when = λ r. ((λ h. absurd (ok_is_none h)), λ h. absurd (omega (arith, h, (number_range r).0)));
  else_none = ((λ h. refl), λ h. refl);
}
given_exactly a (suc n) low =
    let is : number (refused (suc n)) ≡ suc n = number_refused (suc n) (omega arith) low in
    record {
      one_to_eleven = low;
      exactly_when = λ r. ((λ h. let same : refused (suc n) ≡ r = cc in sym is ∙ ap number same), λ h. ap Err (ap refused h ∙ refused_number r));
      else_none = ((λ h. absurd (true≢false (sym h))), λ h. absurd (omega (arith, h)));
    }

-- ## Solving

module _ (f : List ℕ) (a : ℕ) (lent : Rows) where
  -- whatever the first fault is, the outcome is as demanded
  outcome_of : (first : ℕ) → first ≤ 11 → (verdict : Verdict) (rows : Rows)
      → let out : Outcome = refused_or (λ e. record { answer = Err (refused e); rows = lent }) first (record { answer = Ok verdict; rows = rows }) in
      GivenExactly first out.answer × ((r : Refusal) → out.answer ≡ Err r → out.rows ≡ lent)
  outcome_of zero low verdict rows = (given_exactly verdict zero low, λ r q. absurd (ok_is_none q))
  outcome_of (suc n) low verdict rows = (given_exactly verdict (suc n) low, λ r q. refl)

  pub fault_most : solve_fault f lent ≤ 11
  unfolding solve_fault short_row
  fault_most = then_most _ _ (unless_most _ 1 (omega arith)) (refusal_most f)

  pub demand1 : Demand1 f a lent (solved f a lent)
  demand1 =
      let h = outcome_of (solve_fault f lent) fault_most (verdict_of (run_of f a)) (written_rows (run_of f a).last lent) in
      record {
        takes_all = refl;
        refusals = rw (solved_is f a lent) h.0;
        untouched = rw (solved_is f a lent) h.1;
      }

-- ## Decoding, and the exchange

pub demand1_of_decoding : (f : List ℕ) → Demand1OfDecoding f (decoded f)
unfolding decoded
demand1_of_decoding f = record { takes_all = refl; refusals = given_exactly (game_of f) (refusal f) (refusal_most f) }

pub demand1_of_exchange : (f out : List ℕ) → Demand1OfExchange f out (exchanged f out)
unfolding exchanged exchange_fault
demand1_of_exchange f out = record {
  takes_all = refl;
  refusals = given_exactly (length (exchanged_file f)) (exchange_fault f (length out)) fault_most;
  untouched = go (exchange_fault f (length out));
}
  where
    fault_most : exchange_fault f (length out) ≤ 11
    fault_most = then_most _ _ (refusal_most f) (unless_most _ 1 (omega arith))

    go : (first : ℕ) (r : Refusal) → answered first (length (exchanged_file f)) ≡ Err r → kept_or out first (written_over (exchanged_file f) out) ≡ out
    go zero r q = absurd (ok_is_none q)
    go (suc n) r q = refl
