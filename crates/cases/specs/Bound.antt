-- 01, 'What is handed back': a plan needs as many as states minus 1 moves.
use Rattle.std.specs.Prelude.{ℕ, zero, suc, ◌-◌, ◌<◌, ◌≡◌, List, get_or, T, Ok}
use Rattle.arena.specs.Arena.{one}
use Rattle.arena.specs.Play.{Play}
use Rattle.arena.specs.Plan.{Obeys}
use Rattle.game.specs.Game.{state_no, targets}
use Rattle.game.specs.Published.{arena_of}
use Rattle.decoding.specs.Decode.{game_of}
use Rattle.solver.specs.Solve.{Rows, solved}
use Rattle.solver.specs.declared.Verdict.TheVariants.{Yes}

-- a play that follows the plan shown for the file f from the start that YES names, and comes to the target in no fewer than states minus 1 moves
pub record NeedsAll (f : List ℕ) (a : ℕ) (lent : Rows) (start splits : ℕ) (p : ℕ → ℕ) : Type 0 where
  pub says_yes : (solved f a lent).answer ≡ Ok (Yes (state_no start) splits)
  pub starts : p 0 ≡ start
  pub play : Play (arena_of (game_of f)) p
  pub follows : Obeys (arena_of (game_of f)) one (λ s. get_or (solved f a lent).rows.moves s 0) p
  pub no_sooner : (m : ℕ) → m < (game_of f).states - 1 → T (targets (game_of f) (p m)) → ⊥

-- from state 0 to 1, to 2, and there for ever
unfoldable pub along : ℕ → ℕ
along zero = 0
along (suc zero) = 1
along (suc (suc k)) = 2
