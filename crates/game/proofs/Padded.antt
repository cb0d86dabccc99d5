-- Laws of padded rows, and of tidy games: those that say the same are equal.
use mathlib.Core.Path.{◌≡◌, sym, ap, ◌∙◌}
use mathlib.Core.Logic.{⊎_elim}
use mathlib.Core.List.{List}
use Prim.Native.Nat.{ℕ, ◌≤◌, ◌<◌}
use lib.ListN.{get_or}
use lib.Seq.{ext_get_or}
use Rattle.arena.proofs.Loops.{le_or_lt}
use Rattle.game.specs.Rows.{fill, blank}
use Rattle.game.specs.Game.{state_no, block_no, turn_at, marks_at, block_at, from_at, to_at}
use Rattle.game.specs.Tidy.{Padded, Tidy}
use Rattle.game.specs.declared.Game.{Game}
use Rattle.game.proofs.Rows.{fill-past, fill-length, blank-length, blank-cell}

module _ {A : Type 0} {most n : ℕ} {z : A} where
  pub blank_padded : Padded most n z (blank most z)
  blank_padded = record { long = blank-length most z; rest = λ k l. blank-cell most k z }

  -- a padded row is one also with other values in its first places
  pub fill_padded : {row : List A} → n ≤ most → (h : ℕ → A) → Padded most n z row → Padded most n z (fill n h row)
  fill_padded {row} few h p =
      record { long = fill-length n h row (rw p.long few) ∙ p.long; rest = λ k l. fill-past n h row k z l ∙ p.rest k l }

  padded_same : {m : ℕ} {row row' : List A} → n ≡ m → Padded most n z row → Padded most m z row' → ((k : ℕ) → k < m → get_or row k z ≡ get_or row' k z) → row ≡ row'
  padded_same {m} {row} {row'} e p q same =
      ext_get_or z row row' (p.long ∙ sym q.long) (λ k l.
      ⊎_elim (λ (b : m ≤ k). p.rest k (rw e b) ∙ sym (q.rest k b)) (λ (b : k < m). same k b) (le_or_lt m k))

-- tidy games of the same states, moves and objective are equal
module _ (g h : Game) (p : Tidy g) (q : Tidy h) (ns : g.states ≡ h.states) (ms : g.moves ≡ h.moves) (os : g.objective ≡ h.objective) where
  pub tidy-same : ((s : ℕ) → s < h.states → (turn_at g s ≡ turn_at h s) × (marks_at g s ≡ marks_at h s) × (block_at g s ≡ block_at h s))
      → ((k : ℕ) → k < h.moves → (from_at g k ≡ from_at h k) × (to_at g k ≡ to_at h k)) → g ≡ h
  tidy-same state move =
      let expanded : ◌≡◌ {A = Game} (record { states = g.states; moves = g.moves; objective = g.objective; turn = g.turn; marks = g.marks; block = g.block; from = g.from; to = g.to }) h =
      rw (
        ns,
        ms,
        os,
        padded_same ns p.turns q.turns (λ s l. (state s l).0),
        padded_same ns p.all-marks q.all-marks (λ s l. (state s l).1),
        padded_same ns p.blocks q.blocks (λ s l. ap block_no (state s l).2),
        padded_same ms p.froms q.froms (λ k l. ap state_no (move k l).0),
        padded_same ms p.tos q.tos (λ k l. ap state_no (move k l).1),
      ) in
      expanded
