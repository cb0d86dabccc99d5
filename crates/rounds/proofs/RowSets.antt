-- What the lower row of a round says of the border, for the caller of the search.
use mathlib.Core.Path.{◌≡◌, ap}
use mathlib.Core.Bool.{Bool, not, ◌&&◌}
use mathlib.Core.List.{List}
use Prim.Native.Nat.{ℕ, ◌<◌}
use lib.Dec.{eqb}
use Rattle.arena.specs.Sets.{Set}
use Rattle.arena.specs.Arena.{forced}
use Rattle.arena.proofs.Loops.{some_cong}
use Rattle.arena.proofs.Passes.{mono_ext}
use Rattle.arena.proofs.Forced.{forced_mono}
use Rattle.game.specs.Game.{block_at}
use Rattle.game.specs.Published.{side_of, arena_of}
use Rattle.game.specs.declared.Game.{Game}
use Rattle.blocks.specs.Blocks.{meets, is_block}
use Rattle.growth.specs.Stamp.{is_in}
use Rattle.rounds.specs.Border.{bordering}

-- a block is a border block of the row if it is one of the set that the row says
pub bordering-set : (g : Game) (side : ℕ) (lower : List ℕ) (L : Set) → ((s : ℕ) → s < g.states → is_in lower s ≡ L s) → (b : ℕ) → b < g.states
    → bordering g side lower b ≡ (is_block (block_at g) b && (not (L b) && meets g.states (block_at g) (forced (arena_of g) (side_of side) L) b))
unfolding bordering meets arena_of
bordering-set g side lower L e b l =
    rw (e b l)
    (ap (λ (x : Bool). is_block (block_at g) b && (not (L b) && x))
    (some_cong g.states _ _ (λ t m. ap (λ (x : Bool). eqb (block_at g t) (block_at g b) && x) (mono_ext g.states (forced (arena_of g) (side_of side)) (forced_mono (arena_of g) (side_of side)) (is_in lower) L e t m))))
