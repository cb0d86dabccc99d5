-- `exchange_part` meets its contract: what stood before stands, and the places passed are exchanged.
use Rattle.std.proofs.Common.{◌≡◌, ℕ, ◌≤◌, List, length}
use Rattle.game.specs.Rows.{fill}
use Rattle.exchange.specs.Bytes.{exchanged_bytes}
use Rattle.exchange.proofs.exchange_part.Given as goal

abbrev pub invariant-loop-i : goal.invariant-loop-i
invariant-loop-i l =
    (l.i ≤ l.end)
    × (length l.out ≡ length l.initial.out)
    × ((row : List ℕ) → length row ≡ length l.initial.out → l.initial.out ≡ fill l.first (exchanged_bytes l.file) row → l.out ≡ fill l.i (exchanged_bytes l.file) row)
