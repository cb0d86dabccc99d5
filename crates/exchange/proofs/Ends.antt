-- What a call of the exchange comes to.
use mathlib.Core.Path.{◌≡◌, refl, sym, ap, ap₂, ◌∙◌}
use mathlib.Core.List.{List}
use Prim.Native.Nat.{ℕ, ◌≤◌, ◌<◌}
use native.Mathlib.Omega.{arith}
use lib.ListN.{length, take, drop}
use lib.Seq.{take_at, drop_at}
use borrow.Author.Tests.{le-leb, lt-leb}
use Rattle.std.specs.Prelude.{Result, Ok, Err}
use Rattle.game.specs.Rows.{fill}
use Rattle.file.specs.Layout.{Bytes}
use Rattle.file.specs.Refusals.{refusal}
use Rattle.file.proofs.Numbers.{number_range, refused_given, answer_given}
use Rattle.file.proofs.Laws.{then_fault, then_none, unless-last, unless-end, kept_old, kept_new}
use Rattle.file.specs.declared.refusal.Refusal.{Refusal}
use Rattle.file.specs.declared.refusal.Refusal.TheVariants.{ShortRow}
use Rattle.file.specs.Number.{number}
use Rattle.exchange.specs.Exchange.{exchanged_file, exchange_fault, Outcome, exchanged}
use Rattle.exchange.specs.Bytes.{exchanged_bytes}
use Rattle.exchange.proofs.ExchangedFiles.{same_length}
use Rattle.exchange.proofs.Written.{bytes-written}

-- ## The ends of the code

abbrev outcome : Result ℕ Refusal → List ℕ → Outcome
outcome answer output = record { answer = answer; output = output }

module _ (f out : List ℕ) where
  refused : (r : Refusal) → number r ≡ exchange_fault f (length out) → outcome (Err r) out ≡ exchanged f out
  unfolding exchanged
  refused r q = ap₂ outcome (refused_given _ r _ q) (kept_old out _ _ (rw q at (number_range r).0))

  -- the file is refused
  pub file-refused : (r : Refusal) → number r ≡ refusal f → outcome (Err r) out ≡ exchanged f out
  unfolding exchange_fault
  file-refused r p = refused r (then_fault _ _ (number r) p (λ z. omega (arith, number_range r)))

  module _ (taken : 0 ≡ refusal f) where
    -- the output is too short
    pub room-refused : length out < length f → outcome (Err ShortRow) out ≡ exchanged f out
    unfolding exchange_fault
    room-refused short = refused ShortRow (then_none _ _ 0 1 taken refl (unless-last _ 1 (lt-leb _ _ short)))

    fault_none : length f ≤ length out → 0 ≡ exchange_fault f (length out)
    unfolding exchange_fault
    fault_none room = then_none _ _ 0 0 taken refl (unless-end _ 1 (le-leb _ _ room))

    -- the exchanged file is written
    pub all-written : Bytes f → length f ≤ length out → (row : List ℕ) → row ≡ fill (length f) (exchanged_bytes f) out → outcome (Ok (length f)) row ≡ exchanged f out
    unfolding exchanged
    all-written small room row w =
        ap₂ outcome (ap Ok (sym (same_length f (sym taken))) ∙ answer_given _ _ (fault_none room))
        (w ∙ bytes-written f out small (sym taken) ∙ kept_new out _ _ (fault_none room))

-- ## What callers may count on

-- an accepted file and an output that is long enough: the length is answered, the first bytes are the exchanged file, and
-- the output after that keeps its content
pub written : (f out : List ℕ) → refusal f ≡ 0 → length f ≤ length out
    → ((exchanged f out).answer ≡ Ok (length f))
    × (take (length f) (exchanged f out).output ≡ exchanged_file f)
    × (drop (length f) (exchanged f out).output ≡ drop (length f) out)
unfolding exchanged
written f out taken room =
    let same = same_length f taken in
    rw (← fault_none f out (sym taken) room) (
      ap Ok same,
      take_at (exchanged_file f) _ (length f) same,
      drop_at (exchanged_file f) _ (length f) same ∙ ap (λ (n : ℕ). drop n out) same,
    )
