-- The rows that are lent say the game: what joins by counting is what joins by 01's words.
use Prim.Native.Nat.{ℕ, zero, suc, ◌≤◌, ◌<◌}
use mathlib.Core.Path.{◌≡◌, refl, sym, ap, subst, ◌∙◌}
use mathlib.Core.Bool.{Bool, true, false, not, ◌&&◌, cond}
use mathlib.Core.List.{List}
use native.Mathlib.Omega.{arith}
use lib.ListN.{get_or}
use lib.Dec.{eqb, leb, le→leb, eqb_refl}
use Rattle.arena.specs.Sets.{Set, imp, some, every, count}
use Rattle.arena.specs.Arena.{forced}
use Rattle.arena.proofs.Tests.{T_ext, and_intro, and_r, imp_elim}
use Rattle.arena.proofs.Sets.{some_intro, every_elim, count_pos, meets_in, meets-out, within_in, within-out}
use Rattle.arena.proofs.Passes.{Mono, mono_ext}
use Rattle.arena.proofs.Forced.{forced_mono}
use Rattle.game.specs.Game.{turn_at, block_at, from_at, to_at}
use Rattle.game.specs.Published.{side_of, arena_of}
use Rattle.game.specs.declared.Game.{Game}
use Rattle.blocks.specs.Blocks.{inside, meets}
use Rattle.growth.specs.Stamp.{entered, stamp_from, joining}
use Rattle.chains.specs.Lent.{Holds, Keys, many_of, need_of, Gathered, Lent}
use Rattle.growth.specs.Net.{Net, net, Sound, tally, hits_of, ripe, joined, pass_of}
use Rattle.chains.proofs.Counts.{count_cong, count-some, count-all, holds_cong}
use Rattle.growth.proofs.Seen.{seen, seen_all}
use Rattle.growth.proofs.Moving.{met}

-- by a larger set no fewer blocks join
pub joining_mono : (g : Game) (side : ℕ) (whole : Bool) → Mono g.states (joining g side whole)
unfolding joining arena_of inside meets
joining_mono g side true X Y h s _ x =
    within_in g.states (λ t. eqb (block_at g t) (block_at g s)) (forced (arena_of g) (side_of side) Y) (λ t l e.
    forced_mono (arena_of g) (side_of side) X Y h t l
    (within-out g.states (λ t. eqb (block_at g t) (block_at g s)) (forced (arena_of g) (side_of side) X) x t l e))
joining_mono g side false X Y h s _ x =
    let w = meets-out g.states (λ t. eqb (block_at g t) (block_at g s)) (forced (arena_of g) (side_of side) X) x in
    meets_in g.states (λ t. eqb (block_at g t) (block_at g s)) (forced (arena_of g) (side_of side) Y) w.0 w.1 w.2
    (forced_mono (arena_of g) (side_of side) X Y h w.0 w.1 w.3)

module _ {g : Game} {side n m : ℕ} {from to need block : List ℕ} (p : Lent g side n m from to need block) where
  -- where the numbers lie
  pub froms : Keys n m from
  froms = record { long = p.from_is.long; below = λ k l. rw (p.from_is.cell k l, ← p.states_is) (p.ranged.from-state k (rw p.moves_is l)) }

  pub tos : Keys n m to
  tos = record { long = p.to_is.long; below = λ k l. rw (p.to_is.cell k l, ← p.states_is) (p.ranged.to-state k (rw p.moves_is l)) }

  pub blocks : Keys n n block
  blocks = record { long = p.block_is.long; below = λ s l. rw (p.block_is.cell s l, ← p.states_is) (p.ranged.block-state s (rw p.states_is l)) }

  module _ {last before size : List ℕ} (gathered : Gathered n block last before size) (whole : Bool) where
    size_is : (s : ℕ) → s < n → get_or size (get_or block s 0) 0 ≡ many_of n block (get_or block s 0)
    size_is s l = gathered.sizes.cell (get_or block s 0) (blocks.below s l)

    pub sound : Sound (net n m whole from to need block size)
    unfolding many_of
    sound = record {
      few-states = rw (← p.states_is) p.ranged.few-states;
      few-moves = rw (← p.moves_is) p.ranged.few-moves;
      froms = froms;
      tos = tos;
      blocks = blocks;
      need-long = p.need_is.long;
      size-long = gathered.sizes.long;
      goal-some = λ s l. go s l whole;
    }
      where
        go : (s : ℕ) → s < n → (b : Bool) → 1 ≤ cond b (get_or size (get_or block s 0) 0) 1
        go s l true = rw (size_is s l) (count_pos n (λ u. eqb (get_or block u 0) (get_or block s 0)) (some_intro n (λ u. eqb (get_or block u 0) (get_or block s 0)) s l (eqb_refl (get_or block s 0))))
        go s l false = omega arith

-- ## In the game's own numbers of states and moves

module _ {g : Game} {side : ℕ} {from to need block : List ℕ} (p : Lent g side g.states g.moves from to need block) where
  -- the moves that a state has into a set, and those that it needs
  pub met_is : (X : Set) (s : ℕ) → s < g.states → leb (get_or need s 0) (tally g.moves from (λ k. X (get_or to k 0)) s) ≡ forced (arena_of g) (side_of side) X s
  unfolding tally seen need_of many_of
  met_is X s l =
      rw (
        p.need_is.cell s l,
        count_cong g.moves (λ k. eqb (get_or from k 0) s) (λ k. eqb (from_at g k) s) (λ k i. ap (λ (x : ℕ). eqb x s) (p.from_is.cell k i)),
        count_cong g.moves (λ k. eqb (get_or from k 0) s && X (get_or to k 0)) (λ k. eqb (from_at g k) s && X (to_at g k)) (λ k i. rw (p.from_is.cell k i, p.to_is.cell k i) refl),
      )
      (go (eqb (turn_at g s) side)) ∙ seen_all g p.ranged side p.known X s l
    where
      go : (own : Bool) → leb (cond own 1 (count g.moves (λ k. eqb (from_at g k) s))) (count g.moves (λ k. eqb (from_at g k) s && X (to_at g k)))
          ≡ cond own (some g.moves (λ k. eqb (from_at g k) s && X (to_at g k))) (every g.moves (λ k. imp (eqb (from_at g k) s) (X (to_at g k))))
      go true = count-some g.moves _
      go false = count-all g.moves _ _

  module _ {last before size : List ℕ} (gathered : Gathered g.states block last before size) (whole : Bool) where
    abbrev w : Net
    w = net g.states g.moves whole from to need block size

    -- a block joins by counting if it joins by 01's words
    joined_is : (X : Set) (s : ℕ) → s < g.states → joined w X s ≡ joining g side whole X s
    unfolding joined ripe hits_of joining inside meets arena_of many_of
    joined_is X s l =
        rw (
          count_cong g.states (λ u. eqb (get_or block u 0) (get_or block s 0) && met w (tally g.moves from (λ k. X (get_or to k 0))) u) (λ u. P u && F u)
              (λ u i. rw (p.block_is.cell u i, p.block_is.cell s l, met_is X u i) refl),
          size_is p gathered whole s l,
          count_cong g.states (λ u. eqb (get_or block u 0) (get_or block s 0)) P (λ u i. rw (p.block_is.cell u i, p.block_is.cell s l) refl),
        )
        (go whole)
      where
        P : Set
        P u = eqb (block_at g u) (block_at g s)

        F : Set
        F = forced (arena_of g) (side_of side) X

        go : (b : Bool) → (leb 1 (count g.states (λ u. P u && F u)) && leb (cond b (count g.states P) 1) (count g.states (λ u. P u && F u))) ≡ joining g side b X s
        go true = T_ext _ _
            (λ x. rw (count-all g.states P F) at (and_r (leb 1 (count g.states (λ u. P u && F u))) (leb (count g.states P) (count g.states (λ u. P u && F u))) x))
            (λ x. and_intro (leb 1 (count g.states (λ u. P u && F u))) (leb (count g.states P) (count g.states (λ u. P u && F u)))
            (le→leb 1 (count g.states (λ u. P u && F u)) (count_pos g.states (λ u. P u && F u) (some_intro g.states (λ u. P u && F u) s l
            (and_intro (P s) (F s) (eqb_refl (block_at g s)) (imp_elim (P s) (F s) (every_elim g.states (λ u. imp (P u) (F u)) x s l) (eqb_refl (block_at g s)))))))
            (rw (count-all g.states P F) x))
        go false = twice (leb 1 (count g.states (λ u. P u && F u))) ∙ count-some g.states (λ u. P u && F u)
          where
            twice : (x : Bool) → (x && x) ≡ x
            twice true = refl
            twice false = refl

    -- the pass of each state
    own_pass : (f : ℕ → ℕ) (k s : ℕ) → s < g.states → pass_of w f k s ≡ stamp_from (joining g side whole) f k s
    unfolding stamp_from
    own_pass f zero s l = refl
    own_pass f (suc k) s l =
        rw (
          own_pass f k s l,
          joined_is (entered (pass_of w f k)) s l,
          mono_ext g.states (joining g side whole) (joining_mono g side whole) (entered (pass_of w f k)) (entered (stamp_from (joining g side whole) f k))
              (λ t i. ap (λ (v : ℕ). not (eqb v 0)) (own_pass f k t i)) s l,
        ) refl

-- ## In the numbers that are handed over

-- rows that are lent with the game's own numbers
pub own_numbers : {g : Game} {side n m : ℕ} {from to need block : List ℕ} → Lent g side n m from to need block → Lent g side g.states g.moves from to need block
own_numbers {g} {side} {n} {m} {from} {to} {need} {block} p =
    subst (λ (x : ℕ). Lent g side x g.moves from to need block) (sym p.states_is)
    (subst (λ (y : ℕ). Lent g side n y from to need block) (sym p.moves_is) p)

-- the pass of each state
pub pass_is : {g : Game} {side n m : ℕ} {from to need block : List ℕ} → Lent g side n m from to need block → {last before size : List ℕ} → Gathered n block last before size
    → (whole : Bool) (f : ℕ → ℕ) (k s : ℕ) → s < n → pass_of (net n m whole from to need block size) f k s ≡ stamp_from (joining g side whole) f k s
pass_is {g} {side} {n} {m} {from} {to} {need} {block} p {last} {before} {size} gathered whole f k s l =
    subst (λ (y : ℕ). pass_of (net n y whole from to need block size) f k s ≡ stamp_from (joining g side whole) f k s) p.moves_is
    (subst (λ (x : ℕ). s < x → Gathered x block last before size → pass_of (net x g.moves whole from to need block size) f k s ≡ stamp_from (joining g side whole) f k s) p.states_is
    (λ i h. own_pass (own_numbers p) h whole f k s i) l gathered)

-- a row that holds the passes by counting holds those of the game
pub row_says : {g : Game} {side n m : ℕ} {from to need block : List ℕ} → Lent g side n m from to need block → {last before size : List ℕ} → Gathered n block last before size
    → (whole : Bool) (f : ℕ → ℕ) {row : List ℕ} → Holds n row (pass_of (net n m whole from to need block size) f n) → Holds n row (stamp_from (joining g side whole) f n)
row_says {n = n} p gathered whole f held = holds_cong held (λ s l. pass_is p gathered whole f n s l)
