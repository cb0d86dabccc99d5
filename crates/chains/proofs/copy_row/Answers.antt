-- `copy_row` meets its contract.
use Prim.Native.Nat.{ℕ, ◌≤◌}
use mathlib.Core.Path.{◌≡◌, sym, ap, ◌∙◌}
use mathlib.Core.List.{List, ◌++◌}
use native.Mathlib.Omega.{arith}
use lib.ListN.{length, get_or, take, drop}
use Rattle.std.proofs.lemmas.List.{get_or-take, length-take-le}
use Rattle.game.specs.Rows.{fill}
use Rattle.game.proofs.Rows.{fill-row}
use Rattle.chains.proofs.Filling.{filled}
use Rattle.chains.proofs.copy_row.Goals as goal

-- the first places of a row before the rest of another one
copied : (n : ℕ) (row d : List ℕ) → n ≤ length row → take n row ++ drop n d ≡ fill n (λ s. get_or row s 0) d
copied n row d l =
    let e : length (take n row) ≡ n = length-take-le n row l in
    sym (rw e at (fill-row (take n row) (λ s. get_or row s 0) 0 d (λ k m. sym (get_or-take n row k 0 (omega (arith, e, m))))))

pub returns : goal.returns
returns c =
    let e = ap (λ (t : List ℕ). t ++ drop c.args.n c.args.out.now) c.copy_from_slice.ensures.after ∙ copied _ _ _ c.requires.0 in
    record { filled = e; held = filled _ _ _ e c.requires.1 }
