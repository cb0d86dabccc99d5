-- From one round to the next: the rows after the split of the border block.
use Prim.Native.Nat.{ℕ, zero, suc, ◌<◌}
use native.Mathlib.Nat.{le_refl}
use mathlib.Core.Path.{◌≡◌, refl, sym, subst}
use mathlib.Core.Bool.{Bool, true, false, cond}
use mathlib.Core.List.{List}
use lib.ListN.{get_or}
use lib.Dec.{eqb}
use Rattle.arena.specs.Sets.{least}
use Rattle.game.specs.Game.{block_at}
use Rattle.game.specs.declared.Game.{Game}
use Rattle.blocks.specs.Parts.{apart}
use Rattle.growth.specs.Stamp.{pass_at, stamp_from, joining}
use Rattle.chains.specs.Lent.{Holds, Gathered}
use Rattle.growth.specs.Net.{net, hits_of}
use Rattle.growth.specs.Queue.{Grown, Regrowing}
use Rattle.chains.proofs.Counts.{count_cong, holds_cong}
use Rattle.chains.proofs.Filling.{row_holds}
use Rattle.growth.proofs.Members.{regrowing}
use Rattle.rounds.specs.Renamed.{enough, row_apart, after_split}
use Rattle.runs.specs.Run.{into_known_states, lowest_first, split_game, round}
use Rattle.rows.specs.RoundRows.{Present, Lowered, Next}
use Rattle.runs.proofs.Rounds.{border-parts, lowest_found}
use Rattle.runs.proofs.Settled.{lower-split}
use Rattle.rows.proofs.Present.{names, present-split, grown-set, lower_between}
use Rattle.rows.proofs.Bordering.{new_name, split-blocks}

module _ {g : Game} {side n m objective : ℕ} {turn starts from to last before need first prey block last' before' size have hit lower queue : List ℕ} {tail : ℕ}
    (p : Present g side n m objective turn starts from to last before need first prey block)
    (q : Lowered g n m from to need block last' before' size have hit lower queue tail) where
  -- the hits, by the row of what each state has
  pub hits_have : Holds n hit (hits_of n block need (λ s. get_or have s 0))
  unfolding hits_of
  hits_have = holds_cong q.grown.hit_is (λ b _. count_cong n _ _ (λ s l. rw (q.grown.counted.counts.cell s l) refl))

  module _ {b : ℕ} (next : Next g n block b) where
    -- the border block has members of both kinds
    pub both_parts : least n (row_apart block b (enough need have)) < n
    both_parts =
        rw (new_name p q next.state refl, ← p.states_is)
        (subst (λ (x : ℕ). least g.states (apart (block_at g) x (into_known_states g)) < g.states) (sym next.here)
        (border-parts g (lowest_found g (subst (λ (x : ℕ). x < g.states) next.here (rw p.states_is next.state)))))

    module _ {c : ℕ} (new : c ≡ least n (row_apart block b (enough need have))) {finer : List ℕ} (renamed : Holds n finer (after_split c block b (enough need have)))
        {last₁ before₁ size₁ hit₁ : List ℕ} (gathered : Gathered n finer last₁ before₁ size₁) (struck : Holds n hit₁ (hits_of n finer need (λ s. get_or have s 0))) where
      pub part_small : c < n
      part_small = rw new both_parts

      -- the row of blocks is that of the next round
      pub next-blocks : Holds n finer (block_at (split_game lowest_first g))
      next-blocks = split-blocks p q next.state next.here new renamed

      pub next-present : Present (split_game lowest_first g) side n m objective turn starts from to last before need first prey finer
      next-present = present-split p next-blocks

      -- the inner part is due
      pub inner-due : {inner : ℕ} → inner ≡ cond (enough need have b) b c → Regrowing (net n m true from to need finer size₁) (λ s. eqb inner (get_or finer s 0)) have hit₁ lower queue tail
      inner-due e = rw e (regrowing q.grown (names p) q.gathered next.state next.name new part_small renamed gathered struck)

      pub inner_small : {inner : ℕ} → inner ≡ cond (enough need have b) b c → inner < n
      inner_small e = rw e (go (enough need have b))
        where
          go : (x : Bool) → cond x b c < n
          go true = next.state
          go false = part_small

      -- what is surely brought about has grown on
      pub next-lowered : {have₁ hit₂ lower₁ queue₁ : List ℕ} {tail₁ : ℕ} → Grown (net n m true from to need finer size₁) have₁ hit₂ lower₁ queue₁ tail₁
          → Holds n lower₁ (stamp_from (joining (split_game lowest_first g) side true) (pass_at lower) n) → Lowered (split_game lowest_first g) n m from to need finer last₁ before₁ size₁ have₁ hit₂ lower₁ queue₁ tail₁
      unfolding split_game
      next-lowered grown held = record {
        gathered = gathered;
        grown = grown;
        lower_in = grown-set next-present true lower held (lower_between p q.lower_in).0
            (λ s l x. lower-split lowest_first g p.accepted s (rw p.states_is l) (rw (q.lower_in.in_row s l) at x));
      }

-- ## The rounds of a run

-- the same game with its blocks in another row
pub present_again : {g : Game} {side n m objective : ℕ} {turn starts from to last before need first prey block row : List ℕ}
    → Present g side n m objective turn starts from to last before need first prey block → Holds n row (block_at g) → Present g side n m objective turn starts from to last before need first prey row
present_again p held = record {
  accepted = p.accepted;
  known = p.known;
  hunts = p.hunts;
  states_is = p.states_is;
  moves_is = p.moves_is;
  objective_is = p.objective_is;
  turn_is = p.turn_is;
  starts_is = p.starts_is;
  from_is = p.from_is;
  to_is = p.to_is;
  chains = p.chains;
  need_is = p.need_is;
  first_is = p.first_is;
  prey_is = p.prey_is;
  block_is = held;
}

-- the game of each round, with its blocks
pub present-round : (k : ℕ) {g : Game} {side n m objective : ℕ} {turn starts from to last before need first prey block row : List ℕ}
    → Present g side n m objective turn starts from to last before need first prey block → Holds n row (block_at (round lowest_first k g)) → Present (round lowest_first k g) side n m objective turn starts from to last before need first prey row
unfolding round
present-round zero p held = present_again p held
present-round (suc k) {g} {side} {n} {m} {objective} {turn} {starts} {from} {to} {last} {before} {need} {first} {prey} {block} {row} p held =
    present-round k (present-split p (row_holds n n (le_refl n) (block_at (split_game lowest_first g)) refl)) held
