-- `wrapped` meets its contract: the places passed are wrapped, and the others hold what stood there.
use Rattle.std.proofs.Common.{◌≡◌, ℕ, ◌≤◌, ◌<◌, length, get_or}
use Rattle.decoding.proofs.wrapped.Given as goal

abbrev pub invariant-loop-k : goal.invariant-loop-k
invariant-loop-k g l =
    (l.k ≤ l.n)
    × (length l.row ≡ length l.initial.row)
    × ((k : ℕ) → k < l.k → goal.F-post g l.wrap (get_or l.numbers k 0) (get_or l.row k l.fn.rest))
    × ((k : ℕ) → l.k ≤ k → get_or l.row k l.fn.rest ≡ l.fn.rest)
