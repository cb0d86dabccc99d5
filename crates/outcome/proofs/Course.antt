-- The course of a run, from its first round to the rows of its last.
use Prim.Native.Nat.{ℕ, ◌≤◌}
use mathlib.Core.Path.{◌≡◌, sym, ap, subst}
use mathlib.Core.Bool.{Bool, true}
use mathlib.Core.List.{List}
use native.Mathlib.Omega.{arith}
use mir.Syntax.{w16}
use mir.Val.{Fits}
use lib.ListN.{get_or}
use Rattle.game.specs.Game.{block_at}
use Rattle.game.specs.declared.Game.{Game}
use Rattle.growth.specs.Stamp.{pass_at, stamp_from, joining}
use Rattle.chains.specs.Lent.{Holds, Gathered}
use Rattle.growth.specs.Net.{net}
use Rattle.growth.specs.Queue.{Grown}
use Rattle.runs.specs.Run.{lowest_first, Run, run, round}
use Rattle.runs.specs.Hunting.{upper_states}
use Rattle.rows.specs.RoundRows.{Present, Saying, Lowered, Underway, Begun, Played, Stopped, Ending, Numbered, Finishing, PlayedOut, Final}
use Rattle.rows.proofs.Present.{few-states, grown_anew, pass_numbers}
use Rattle.rows.proofs.Splitting.{present-round}
use Rattle.play.proofs.Ending.{ending, played_out}

module _ {g : Game} {side n m objective : ℕ} {turn starts from to last before need first prey block : List ℕ}
    (p : Present g side n m objective turn starts from to last before need first prey block) where
  module _ {copy last' before' size have hit lower queue : List ℕ} {tail : ℕ} (copied : Holds n copy (λ s. get_or prey s 0)) (held : Holds n lower (stamp_from (joining g side true) (pass_at copy) n)) where
    -- what grew from a copy of the prey by whole blocks
    pub lowered_anew : Gathered n block last' before' size → Grown (net n m true from to need block size) have hit lower queue tail → Lowered g n m from to need block last' before' size have hit lower queue tail
    lowered_anew gathered grown = record { gathered = gathered; grown = grown; lower_in = grown_anew p true copied held }

  pub numbered_anew : {copy lower : List ℕ} → Holds n copy (λ s. get_or prey s 0) → Holds n lower (stamp_from (joining g side true) (pass_at copy) n) → Numbered g n lower
  numbered_anew copied held = record { long = held.long; pass_is = pass_numbers p copied held }

  module _ {last' before' size have hit lower queue : List ℕ} {tail : ℕ} where
    -- a run begins
    abbrev pub begun : Lowered g n m from to need block last' before' size have hit lower queue tail → Begun side n m objective turn starts from to last before need first prey block last' before' size have hit lower queue tail
    begun lowered = record { game = g; present = p; lowered = lowered }

    -- the last round, for the rows that are worked out in the end
    abbrev pub underway-last : Lowered g n m from to need block last' before' size have hit lower queue tail → Underway n m from to last before need block last' before' size have hit lower queue tail
    underway-last lowered = record {
      game = g;
      side = side;
      objective = objective;
      turn = turn;
      starts = starts;
      first = first;
      prey = prey;
      present = p;
      lowered = lowered;
    }

  module _ {allowance splits made tail : ℕ} {blocks last' before' size have hit lower₀ lower queue : List ℕ}
      (d : PlayedOut g n m allowance from to need blocks last' before' size have hit lower₀ lower queue splits made tail) (numbered : Numbered g n lower₀) where
    -- the passes of the first round are those of the last where no split was made
    pub same_numbers : made ≡ 0 → Numbered (round lowest_first splits g) n lower
    unfolding round
    same_numbers none = subst (λ (k : ℕ). Numbered (round lowest_first k g) n lower) (sym (d.none_made none)) (subst (λ (row : List ℕ). Numbered g n row) (sym (d.kept none)) numbered)

    abbrev pub finishing : Finishing n m made tail from to last before need prey blocks last' before' size have hit lower queue
    finishing = record {
      game = round lowest_first splits g;
      side = side;
      objective = objective;
      turn = turn;
      starts = starts;
      first = first;
      present = present-round splits p d.blocks_are;
      kept = λ none. (d.lowered none, same_numbers none);
    }

    -- how the run came out
    pub final : {low up : List ℕ} → Numbered (round lowest_first splits g) n low → Saying n up (upper_states (round lowest_first splits g))
        → Final g side n m objective allowance turn starts from to last before need first prey blocks splits low up
    final {low} {up} passes may = record {
      splits_is = sym (ap (λ (x : Run). x.splits) d.is_run);
      present = subst (λ (h : Game). Present h side n m objective turn starts from to last before need first prey blocks) there (present-round splits p d.blocks_are);
      numbered = subst (λ (h : Game). Numbered h n low) there passes;
      upper_in = subst (λ (h : Game). Saying n up (upper_states h)) there may;
    }
      where
        there : round lowest_first splits g ≡ (run lowest_first allowance g).last
        there = sym (ap (λ (x : Run). x.last) d.is_run)

-- ## A run over rows in which its first round has grown from a copy of the prey

module _ {g : Game} {side n m objective : ℕ} {turn starts from to last before need first prey block : List ℕ}
    (p : Present g side n m objective turn starts from to last before need first prey block)
    {copy last' before' size have hit lower queue : List ℕ} {tail : ℕ} (copied : Holds n copy (λ s. get_or prey s 0))
    (held : Holds n lower (stamp_from (joining g side true) (pass_at copy) n))
    (gathered : Gathered n block last' before' size) (grown : Grown (net n m true from to need block size) have hit lower queue tail) where
  -- it begins
  abbrev pub begins : Begun side n m objective turn starts from to last before need first prey block last' before' size have hit lower queue tail
  begins = begun p (lowered_anew p copied held gathered grown)

  module _ {allowance made clear tail₁ : ℕ} {lost : Bool} {blocks last₁ before₁ size₁ have₁ hit₁ lower₁ queue₁ parents names : List ℕ}
      (played : (v : Begun side n m objective turn starts from to last before need first prey block last' before' size have hit lower queue tail)
      → Played v.game side n m objective turn starts from to last before need first prey blocks last₁ before₁ size₁ have₁ hit₁ lower₁ queue₁ parents names made clear tail₁
      × Stopped v.game allowance lower lower₁ lost made clear) where
    -- it stops
    abbrev pub stops : Ending n m objective allowance clear made lost starts from to last before need prey parents names blocks
    stops = ending p (played begins).0 (played begins).1

    module _ {splits : ℕ} {finer : List ℕ}
        (back : ((e : Ending n m objective allowance clear made lost starts from to last before need prey parents names blocks)
        → (run lowest_first allowance e.game ≡ record { splits = splits; last = round lowest_first splits e.game }) × Holds n finer (block_at (round lowest_first splits e.game)))
        × (splits ≤ made) × (made ≡ 0 → finer ≡ blocks)) where
      -- it is played out
      out : PlayedOut g n m allowance from to need finer last₁ before₁ size₁ have₁ hit₁ lower lower₁ queue₁ splits made tail₁
      out = let y = played begins in played_out p y.0 y.1 (back.0 stops).0 (back.0 stops).1 back.1 back.2

      pub fits : Fits w16 splits
      fits = omega (arith, out.few, few-states p)

      -- and comes to its last round
      pub finishes : Finishing n m made tail₁ from to last before need prey finer last₁ before₁ size₁ have₁ hit₁ lower₁ queue₁
      finishes = finishing p out (numbered_anew p copied held)

      pub ends : {low up : List ℕ}
          → ((f : Finishing n m made tail₁ from to last before need prey finer last₁ before₁ size₁ have₁ hit₁ lower₁ queue₁) → Numbered f.game n low × Saying n up (upper_states f.game))
          → Final g side n m objective allowance turn starts from to last before need first prey finer splits low up
      ends rows = let done = rows (finishing p out (numbered_anew p copied held)) in final p out (numbered_anew p copied held) done.0 done.1
