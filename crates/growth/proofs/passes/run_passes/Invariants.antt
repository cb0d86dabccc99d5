-- `run_passes` meets its contract: before each pass the row holds the passes so far.
use Prim.Native.Nat.{ℕ, ◌-◌}
use Rattle.growth.specs.Grouped.{net_of, SameGrowth}
use Rattle.growth.specs.Steps.{PassingBy}
use Rattle.growth.proofs.passes.run_passes.Given as goal

abbrev pub invariant-loop-q : goal.invariant-loop-q
invariant-loop-q l =
    ((f : ℕ → ℕ) × PassingBy (net_of l.moves l.whole l.block l.members) f l.pass l.end l.q l.growth l.row)
    × ((f : ℕ → ℕ) → PassingBy (net_of l.moves l.whole l.block l.members) f 0 l.entered l.first l.fn.growth l.fn.row → PassingBy (net_of l.moves l.whole l.block l.members) f l.pass l.end l.q l.growth l.row)
    × SameGrowth l.fn.growth l.growth

abbrev pub invariant-loop-end : goal.invariant-loop-end
invariant-loop-end l =
    ((f : ℕ → ℕ) × PassingBy (net_of l.moves l.whole l.block l.members) f l.pass l.end l.start l.growth l.row)
    × ((f : ℕ → ℕ) → PassingBy (net_of l.moves l.whole l.block l.members) f 0 l.entered l.first l.fn.growth l.fn.row → PassingBy (net_of l.moves l.whole l.block l.members) f l.pass l.end l.start l.growth l.row)
    × SameGrowth l.fn.growth l.growth

abbrev pub decreases-loop-end : goal.decreases-loop-end
decreases-loop-end l = l.moves.states - l.end
