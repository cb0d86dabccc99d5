-- What the exchange writes is short: 2^32 and its length fit 64 bits.
use mathlib.Core.Path.{◌≡◌}
use mathlib.Core.List.{List}
use mathlib.Core.Logic.{⊎_elim}
use Prim.Native.Nat.{ℕ, ◌≤◌}
use native.Mathlib.Omega.{arith}
use lib.ListN.{length}
use Rattle.std.specs.Prelude.{Result, Ok, Err}
use Rattle.file.specs.declared.refusal.Refusal.{Refusal}
use Rattle.file.specs.Number.{refused}
use Rattle.file.specs.Refusals.{refusal}
use Rattle.file.proofs.Laws.{then_zero}
use Rattle.file.proofs.Numbers.{answered_cases}
use Rattle.file.proofs.Sound.{exact_length}
use Rattle.exchange.specs.Exchange.{exchanged_file, exchange_fault, exchanged}
use Rattle.exchange.proofs.ExchangedFiles.{same_length}

-- no refusal of the exchange: none of the file
accepted_by : (f : List ℕ) (room : ℕ) → exchange_fault f room ≡ 0 → refusal f ≡ 0
unfolding exchange_fault
accepted_by f room e = (then_zero (refusal f) _ e).0

-- 01, 'Game file': an accepted file has at most 36,874 bytes
pub written_short : (f out : List ℕ) (n : ℕ) → Ok n ≡ (exchanged f out).answer → n ≤ 36874
unfolding exchanged
written_short f out n e =
    ⊎_elim
    (λ (w : (exchange_fault f (length out) ≡ 0) × (◌≡◌ {A = Result ℕ Refusal} (Ok n) (Ok (length (exchanged_file f))))).
    let taken : refusal f ≡ 0 = accepted_by f (length out) w.0 in
    let whole : n ≡ length (exchanged_file f) = cc w.1 in
    omega (arith, same_length f taken, (exact_length f taken).1))
    (λ (w : (1 ≤ exchange_fault f (length out)) × (◌≡◌ {A = Result ℕ Refusal} (Ok n) (Err (refused (exchange_fault f (length out)))))). let z : ◌≡◌ {A = ℕ} 0 1 = cc w.1 in absurd (omega arith))
    (answered_cases (length (exchanged_file f)) (exchange_fault f (length out)) (Ok n) e)
