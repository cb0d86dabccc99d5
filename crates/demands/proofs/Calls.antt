-- From the contracts of the public calls to what is promised of them.
use Prim.Native.Nat.{ℕ, zero, suc, ◌≤◌}
use mathlib.Core.Path.{◌≡◌, refl, sym, ap, ◌∙◌, subst}
use mathlib.Core.List.{List}
use native.Mathlib.Omega.{arith}
use borrow.Author.Tests.{leb-true}
use lib.ListN.{length, take}
use Rattle.std.specs.Prelude.{Result, Ok, Err}
use Rattle.game.specs.declared.Game.{Game}
use Rattle.file.specs.declared.refusal.Refusal.{Refusal}
use Rattle.file.specs.Fault.{answered}
use Rattle.file.specs.Layout.{Bytes}
use Rattle.file.specs.Refusals.{refusal}
use Rattle.file.proofs.Laws.{then_zero, unless-zero}
use Rattle.decoding.specs.Decode.{decoded}
use Rattle.decoding.proofs.Accepted.{decoded-accepted}
use Rattle.exchange.specs.Exchange.{Outcome as Exchange, exchange_fault, exchanged, exchanged_file}
use Rattle.exchange.proofs.Ends.{written}
use Rattle.solver.specs.Solve.{Rows, Outcome, solved}
use Rattle.demands.specs.Files.{FileOfGame}
use Rattle.demands.specs.Calls.{SolvePromise, DecodePromise, ExchangePromise, ExchangedSolvePromise}
use Rattle.demands.proofs.Demand1.{demand1, demand1_of_decoding, demand1_of_exchange}
use Rattle.demands.proofs.Demand2.{means, demand2}
use Rattle.demands.proofs.Demand3.{demand3}
use Rattle.demands.proofs.Files.{accepted-file, exchanged-file}

pub solve_promise : (f : List ℕ) (a : ℕ) (lent : Rows) (out : Outcome) → out ≡ solved f a lent → SolvePromise f a lent out
solve_promise f a lent out e = rw e (record { demand1 = demand1 f a lent; demand2 = demand2 f a lent; means = means f a lent })

pub decode_promise : (f : List ℕ) → Bytes f → (out : Result Game Refusal) → out ≡ decoded f → DecodePromise f out
decode_promise f small out e = record {
  demand1 = rw e (demand1_of_decoding f);
  game = λ g q. let taken = decoded-accepted f g (sym q ∙ e) in subst (FileOfGame f) (sym taken.1) (accepted-file f small taken.0);
}

-- a written file was accepted, and there was room for it
module _ (f out : List ℕ) (n : ℕ) (q : (exchanged f out).answer ≡ Ok n) where
  no_fault : exchange_fault f (length out) ≡ 0
  unfolding exchanged
  no_fault = go (exchange_fault f (length out)) q
    where
      go : (e : ℕ) → answered e (length (exchanged_file f)) ≡ Ok n → e ≡ 0
      go zero h = refl
      go (suc e) h = let z : ◌≡◌ {A = ℕ} 0 1 = cc in absurd (omega arith)

  taken : refusal f ≡ 0
  unfolding exchange_fault
  taken = (then_zero _ _ no_fault).0

  room : length f ≤ length out
  unfolding exchange_fault
  room = leb-true (length f) (length out) (unless-zero _ 1 tt (then_zero _ _ no_fault).1)

  pub written-length : n ≡ length f
  written-length = let e = sym q ∙ (written f out taken room).0 in cc

  pub written_fits : n ≤ length out
  written_fits = omega (arith, written-length, room)

-- an accepted file is written where there is room
pub no_refusal : (f out : List ℕ) (r : Refusal) → (exchanged f out).answer ≡ Err r → refusal f ≡ 0 → length f ≤ length out → ⊥
no_refusal f out r q taken room = let e = sym q ∙ (written f out taken room).0 in let z : ◌≡◌ {A = ℕ} 0 1 = cc in omega arith

pub exchange_promise : (f : List ℕ) → Bytes f → (lent : List ℕ) (out : Exchange) → out ≡ exchanged f lent → ExchangePromise f lent out
exchange_promise f small lent out e = rw e (record {
  demand1 = demand1_of_exchange f lent;
  written = λ n q. let same = written-length f lent n q in let w = written f lent (taken f lent n q) (room f lent n q) in (same, rw same w.1, rw same w.2);
  exchanged = λ n q. exchanged-file f small (taken f lent n q);
})

-- an exchange, and two calls of the solver, the second with the bytes that were written
pub exchanged_solve_promise : (f : List ℕ) (a : ℕ) (lent lent' : Rows) (out out' : Outcome) (room output : List ℕ) (count : ℕ) → count ≡ length f
    → output ≡ (exchanged f room).output → out ≡ solved f a lent → out' ≡ solved (take count output) a lent' → ExchangedSolvePromise f a lent out room output lent' out'
exchanged_solve_promise f a lent lent' out out' room output count whole w e e' taken long rows rows' =
    let bytes : take (length f) output ≡ exchanged_file f = ap (take (length f)) w ∙ (written f room taken long).1 in
    let same : out' ≡ solved (exchanged_file f) a lent' = e' ∙ ap (λ (b : List ℕ). solved b a lent') (ap (λ (k : ℕ). take k output) whole ∙ bytes) in
    rw (bytes, e, same) (demand3 f taken a lent lent' rows rows')
