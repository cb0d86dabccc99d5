-- The parts of a run, put together.
use Prim.Native.Nat.{ℕ, ◌≤◌}
use mathlib.Core.Path.{◌≡◌, sym, subst}
use mathlib.Core.Bool.{Bool, true}
use mathlib.Core.List.{List}
use native.Mathlib.Omega.{arith}
use Rattle.game.specs.Game.{block_at}
use Rattle.game.specs.declared.Game.{Game}
use Rattle.chains.specs.Lent.{Holds}
use Rattle.runs.specs.Run.{lowest_first, run, round}
use Rattle.rows.specs.RoundRows.{Present, Lowered, Retracing, Played, Stopped, Ending, PlayedOut}
use Rattle.play.proofs.Playing.{few-splits}

-- the game of a round that is lost, for the search for the first such one
abbrev pub retracing : {n m objective allowance clear made : ℕ} {lost : Bool} {starts from to last before need prey parents names block : List ℕ}
    → Ending n m objective allowance clear made lost starts from to last before need prey parents names block → lost ≡ true → Retracing n m objective clear made starts from to last before need prey parents names block
retracing e is = record {
  game = e.game;
  side = e.side;
  turn = e.turn;
  first = e.first;
  base = e.base;
  present = e.present;
  log = e.log;
  bisecting = e.settled is;
  blocks_are = e.blocks_are;
}

module _ {g : Game} {side n m objective : ℕ} {turn starts from to last before need first prey block : List ℕ}
    (p : Present g side n m objective turn starts from to last before need first prey block) where
  -- a run has stopped
  module _ {allowance made clear tail : ℕ} {lost : Bool} {blocks last' before' size have hit lower queue parents names lower₀ : List ℕ}
      (y : Played g side n m objective turn starts from to last before need first prey blocks last' before' size have hit lower queue parents names made clear tail)
      (z : Stopped g allowance lower₀ lower lost made clear) where
    abbrev pub ending : Ending n m objective allowance clear made lost starts from to last before need prey parents names blocks
    ending = record {
      game = g;
      side = side;
      turn = turn;
      first = first;
      base = block;
      present = p;
      log = y.log;
      within = z.within;
      ended = z.ended;
      settled = z.settled;
      blocks_are = y.present.block_is;
    }

    -- it is played out
    pub played_out : {r : ℕ} {finer : List ℕ} → run lowest_first allowance g ≡ record { splits = r; last = round lowest_first r g } → Holds n finer (block_at (round lowest_first r g)) → r ≤ made → (made ≡ 0 → finer ≡ blocks)
        → PlayedOut g n m allowance from to need finer last' before' size have hit lower₀ lower queue r made tail
    played_out {r} {finer} is there low same = record {
      is_run = is;
      few = omega (arith, few-splits p.accepted y);
      blocks_are = there;
      none_made = λ none. omega arith;
      kept = z.kept;
      lowered = λ none.
          let e : made ≡ r = omega arith in
          subst (λ (k : ℕ). Lowered (round lowest_first k g) n m from to need finer last' before' size have hit lower queue tail) e
          (subst (λ (row : List ℕ). Lowered (round lowest_first made g) n m from to need row last' before' size have hit lower queue tail) (sym (same none)) y.lowered);
    }
