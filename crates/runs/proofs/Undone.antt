-- Laws of the log of splits: it begins empty, each split adds a line, and its last line undoes the last split.
use Prim.Native.Nat.{ℕ, zero, suc, ◌+◌, ◌≤◌, ◌<◌, zero-le}
use mathlib.Core.Path.{◌≡◌, refl, sym, ap, ◌∙◌}
use mathlib.Core.Bool.{cond}
use mathlib.Core.List.{List, ◌++◌}
use mathlib.Core.Logic.{inl, inr}
use native.Mathlib.Nat.{not-suc-le-zero}
use native.Mathlib.Omega.{arith}
use lib.ListN.{length, get_or, set, take, drop, length-set, length-append, get_or-append}
use lib.Seq.{get_or-set_same, get_or-set_other}
use lib.Dec.{eqb}
use Rattle.std.proofs.lemmas.List.{get_or-take, length-take-le}
use Rattle.arena.specs.Sets.{least}
use Rattle.arena.proofs.Sets.{lt_suc_cases}
use Rattle.game.specs.Rows.{fill}
use Rattle.game.specs.Game.{block_at}
use Rattle.game.specs.Accepted.{AcceptedGame}
use Rattle.game.specs.declared.Game.{Game}
use Rattle.game.proofs.Rows.{fill_at}
use Rattle.blocks.specs.Parts.{apart}
use Rattle.chains.specs.Lent.{Holds}
use Rattle.runs.specs.Run.{into_known_states, Choice, lowest_first, split_game, round}
use Rattle.runs.specs.Log.{Log}
use Rattle.runs.proofs.Runs.{round-accepted}
use Rattle.runs.proofs.Settled.{round-more, block_before}

-- each round has the states of the first
pub round-states : (choose : Choice) (k : ℕ) (g : Game) → (round choose k g).states ≡ g.states
unfolding round split_game
round-states choose zero g = refl
round-states choose (suc k) g = round-states choose k (split_game choose g)

-- ## Splits are written down

-- no split as yet
pub log-none : (g : Game) (n : ℕ) (parents names : List ℕ) → Log g n 0 parents names
log-none g n parents names = record { parents_long = zero-le; names_long = zero-le; undo = λ i l. absurd (not-suc-le-zero l) }

module _ {g : Game} {n made : ℕ} {parents names : List ℕ} (log : Log g n made parents names)
    (parents-room : made < length parents) (names-room : made < length names) (b c : ℕ) where
  -- one split more: of block b, and the part without state b got the name c
  pub log-more : ((s : ℕ) → s < n → block_at (round lowest_first made g) s ≡ cond (eqb (block_at (round lowest_first (suc made) g) s) c) b (block_at (round lowest_first (suc made) g) s))
      → Log g n (made + 1) (set parents made b) (set names made c)
  log-more back = record {
    parents_long = rw length-set (omega arith);
    names_long = rw length-set (omega arith);
    undo = λ i l s m. elim (lt_suc_cases i made (omega arith)) [
      | inl e ↦ rw (e, get_or-set_same parents made b 0 parents-room, get_or-set_same names made c 0 names-room) (back s m)
      | inr k ↦ rw (
        get_or-set_other parents made i b 0 (λ p. absurd (omega arith)),
        get_or-set_other names made i c 0 (λ p. absurd (omega arith)),
      ) (log.undo i k s m)
    ];
  }

  -- the split of the border block of an accepted game's round
  pub log-split : AcceptedGame g → g.states ≡ n → b ≡ lowest_first (round lowest_first made g) → b < n
      → c ≡ least n (apart (block_at (round lowest_first made g)) b (into_known_states (round lowest_first made g)))
      → Log g n (made + 1) (set parents made b) (set names made c)
  log-split ok size here low new =
      let present = round lowest_first made g in
      let same : present.states ≡ n = round-states lowest_first made g ∙ size in
      log-more
      (λ s l. rw (round-more lowest_first made g)
      (block_before present (round-accepted lowest_first made g ok) b here (rw same low) c
      (new ∙ ap (λ (m : ℕ). least m (apart (block_at present) b (into_known_states present))) (sym same)) s (rw same l)))

-- ## Splits are undone

-- the blocks of round i, by the log, from those of round k, the one after it
pub log-undo : {g : Game} {n made : ℕ} {parents names : List ℕ} → Log g n made parents names → (i k : ℕ) → k ≡ suc i → i < made
    → {later earlier : List ℕ} → Holds n later (block_at (round lowest_first k g))
    → Holds n earlier (λ s. cond (eqb (get_or later s 0) (get_or names i 0)) (get_or parents i 0) (get_or later s 0))
    → Holds n earlier (block_at (round lowest_first i g))
log-undo log i k e l was is = record {
  long = is.long;
  cell = λ s m. is.cell s m ∙ rw (was.cell s m, e) (sym (log.undo i l s m));
}

-- a row whose first n places are changed, each by the value that it had
pub front_changed : (h : ℕ → ℕ) (n k : ℕ) (old : List ℕ) {front : List ℕ} → n ≤ length old → front ≡ fill k (λ t. h (get_or (take n old) t 0)) (take n old) → length front ≡ length (take n old) → n ≤ k
    → Holds n (front ++ drop n old) (λ s. h (get_or old s 0))
front_changed h n k old {front} l e same m =
    let long : length front ≡ n = same ∙ length-take-le n old l in
    record {
      long = rw length-append (omega arith);
      cell = λ s b. get_or-append front (drop n old) 0 s (omega arith) ∙ rw e (fill_at k (λ t. h (get_or (take n old) t 0)) (take n old) s (omega arith)) ∙ ap h (get_or-take n old s 0 b);
    }
