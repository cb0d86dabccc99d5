-- Laws of one round of a game: what its word says, and what its split keeps.
use Prim.Native.Nat.{ℕ, suc, ◌<◌}
use mathlib.Core.Path.{◌≡◌, refl, sym, ap, ◌∙◌}
use mathlib.Core.Bool.{Bool, true, false, not, ◌&&◌, cond, beq}
use mathlib.Core.Logic.{◌⊎◌, inl, inr}
use native.Mathlib.Omega.{arith}
use lib.Dec.{T, not_T, eqb, eqb→eq}
use Rattle.arena.specs.Sets.{Set, some, least}
use Rattle.arena.specs.Arena.{Live}
use Rattle.arena.proofs.Tests.{and_intro, and_l, and_r}
use Rattle.arena.proofs.Sets.{some_intro, meets_in, meets-out, least-some, least_hit}
use Rattle.game.specs.Game.{block_no, block_at, initials, targets, has_move}
use Rattle.game.specs.Published.{goal_of, arena_of}
use Rattle.game.specs.Accepted.{AcceptedGame}
use Rattle.game.specs.declared.Game.{Game}
use Rattle.game.proofs.Rows.{fill-cell}
use Rattle.blocks.specs.Blocks.{block_count, is_block, split}
use Rattle.blocks.specs.Round.{undecided, border, border_block}
use Rattle.blocks.specs.Parts.{apart}
use Rattle.blocks.proofs.Blocks.{Named}
use Rattle.blocks.proofs.Border.{border-splits, border-block}
use Rattle.blocks.proofs.Split.{count_cong, split_finer, split-named, split-count}
use Rattle.blocks.proofs.Refine.{Refines}
use Rattle.runs.specs.Run.{sure_states, possible_states, into_known_states, BorderBlock, Choice, lowest_first, Word, YES, NO, OPEN, word, Borders, named_start, split_game}

-- the open states of a game
abbrev pub open_states : Game → Set
open_states g = undecided (arena_of g) (block_at g) (goal_of g.objective) (targets g)

-- ## What the word of a round says

-- YES: the named start is a sure initial state; NO: no initial state is possible; OPEN: some initial state is open
abbrev pub WordSays : Game → Word → Type 0
WordSays g YES = (named_start g < g.states) × T (initials g (named_start g)) × T (sure_states g (named_start g))
WordSays g NO = (s : ℕ) → s < g.states → T (initials g s) → T (possible_states g s) → ⊥
WordSays g OPEN = (s : ℕ) × (s < g.states) × T (initials g s) × T (open_states g s)

-- the word of a round says so
pub word_says : (g : Game) → WordSays g (word g)
unfolding word named_start
word_says g = go (some g.states maybe) refl (some g.states surely) refl
  where
    maybe : Set
    maybe s = initials g s && possible_states g s

    surely : Set
    surely s = initials g s && sure_states g s

    go : (a : Bool) → some g.states maybe ≡ a → (b : Bool) → some g.states surely ≡ b → WordSays g (cond (not a) NO (cond b YES OPEN))
    go false e b q = λ s l i p. rw e at (meets_in g.states (initials g) (possible_states g) s l i p)
    go true e true q =
        let w = least-some g.states surely (rw q tt) in
        let s = least g.states surely in
        (w.0, and_l (initials g s) (sure_states g s) w.1, and_r (initials g s) (sure_states g s) w.1)
    go true e false q =
        let w = meets-out g.states (initials g) (possible_states g) (rw e tt) in
        let s = w.0 in (
          s,
          w.1,
          w.2,
          and_intro (possible_states g s) (not (sure_states g s)) w.3
              (not_T (sure_states g s) (λ y. rw q at (meets_in g.states (initials g) (sure_states g) s w.1 w.2 y))),
        )

-- the word of a round, once known, says so
pub says : (g : Game) (w : Word) → word g ≡ w → WordSays g w
says g w e = rw e at (word_says g)

-- ## An accepted game

module _ (g : Game) (ok : AcceptedGame g) where
  -- play goes on for ever
  pub accepted_live : Live (arena_of g)
  unfolding arena_of
  accepted_live = ok.moving

  -- its blocks are named by their lowest members
  pub accepted-named : Named g.states (block_at g)
  accepted-named = record { down = ok.block-below; own = ok.block-own }

-- ## Border blocks

-- the lowest-numbered one is one, where there is one
pub lowest_found : (g : Game) → lowest_first g < g.states → BorderBlock g (lowest_first g)
unfolding border_block arena_of
lowest_found g l =
    let b = lowest_first g in
    let on = border (arena_of g) (block_at g) (goal_of g.objective) (targets g) in
    let h = least_hit g.states (λ s. is_block (block_at g) s && on s) l in
    record { state = l; name = eqb→eq (block_at g b) b (and_l (is_block (block_at g) b) (on b) h); on_border = and_r (is_block (block_at g) b) (on b) h }

-- and in an open round there is one
pub lowest_borders : Borders lowest_first
unfolding arena_of
lowest_borders g ok e =
    let w = says g OPEN e in
    lowest_found g (border-block (arena_of g) (block_at g) (goal_of g.objective) (targets g) (accepted-named g ok) ok.precise_target w.0 w.1 w.3).state

-- some member of a border block lies in the known set unlike its lowest
pub border-parts : (g : Game) {b : ℕ} → BorderBlock g b → least g.states (apart (block_at g) b (into_known_states g)) < g.states
unfolding arena_of
border-parts g {b} h =
    let w = border-splits (arena_of g) (block_at g) (goal_of g.objective) (targets g) b h.state h.on_border in
    let inner = w.0 in
    let outer = w.1 in
    elim (unlike (K inner.0) (K outer.0) (K b) inner.3 outer.3) [
      | inl d ↦ found inner.0 inner.1 inner.2 d
      | inr d ↦ found outer.0 outer.1 outer.2 d
    ]
  where
    K : Set
    K = into_known_states g

    found : (t : ℕ) → t < g.states → T (eqb (block_at g t) (block_at g b)) → T (not (beq (K t) (K b))) → least g.states (apart (block_at g) b K) < g.states
    found t l m d =
        (least-some g.states (apart (block_at g) b K)
        (some_intro g.states (apart (block_at g) b K) t l (and_intro (eqb (block_at g t) b) (not (beq (K t) (K b))) (rw h.name at m) d))).0

    unlike : (x y z : Bool) → T x → T (not y) → T (not (beq x z)) ⊎ T (not (beq y z))
    unlike true false true p q = inr tt
    unlike true false false p q = inl tt
    unlike false y z p q = elim p [ ]
    unlike true true z p q = elim q [ ]

-- ## The game after a split

module _ (choose : Choice) (g : Game) where
  -- the new block of a state
  pub split-block : (s : ℕ) → s < g.states → block_at (split_game choose g) s ≡ split g.states (block_at g) (choose g) (into_known_states g) s
  unfolding split_game
  split-block s l =
      ap (λ b. b.0) (fill-cell g.states (λ s. block_no (split g.states (block_at g) (choose g) (into_known_states g) s)) g.block s (block_no 0) l)

  module _ (ok : AcceptedGame g) where
    -- the new blocks are named by their lowest members
    named : Named g.states (split g.states (block_at g) (choose g) (into_known_states g))
    named = split-named g.states (block_at g) (choose g) (into_known_states g) (accepted-named g ok)

    -- each lies in one of the old
    pub split_refines : Refines g.states (block_at (split_game choose g)) (block_at g)
    split_refines s t l k e =
        split_finer g.states (block_at g) (choose g) (into_known_states g) (accepted-named g ok) s t l k (sym (split-block s l) ∙ e ∙ split-block t k)

    -- a split of an accepted game leaves an accepted game
    pub split-accepted : AcceptedGame (split_game choose g)
    unfolding split_game has_move
    split-accepted = record {
      some-states = ok.some-states;
      few-states = ok.few-states;
      some-moves = ok.some-moves;
      few-moves = ok.few-moves;
      objective-known = ok.objective-known;
      turn-known = ok.turn-known;
      marks_high = ok.marks_high;
      block-below = λ s l. rw (split-block s l) (named.down s l);
      block-own = λ s l.
          let t = split g.states (block_at g) (choose g) (into_known_states g) s in
          let low : t < g.states = omega (arith, named.down s l) in
          rw (split-block s l) (split-block t low ∙ named.own s l);
      from-state = ok.from-state;
      to-state = ok.to-state;
      ascending = ok.ascending;
      moving = ok.moving;
      start = ok.start;
      precise_starts = λ s t l k e. ok.precise_starts s t l k (split_refines s t l k e);
      precise_target = λ s t l k e. ok.precise_target s t l k (split_refines s t l k e);
    }

    -- the split of a border block makes one block more, since it has members in the known set and others
    pub split-one-more : BorderBlock g (choose g)
        → block_count (split_game choose g).states (block_at (split_game choose g)) ≡ suc (block_count g.states (block_at g))
    unfolding block_count split_game arena_of
    split-one-more b =
        let w = border-splits (arena_of g) (block_at g) (goal_of g.objective) (targets g) (choose g) b.state b.on_border in
        let inner = w.0 in
        let outer = w.1 in
        count_cong g.states (is_block (block_at (split_game choose g))) (is_block (split g.states (block_at g) (choose g) (into_known_states g)))
        (λ s l. ap (λ (t : ℕ). eqb t s) (split-block s l))
        ∙ split-count g.states (block_at g) (accepted-named g ok) (choose g) (into_known_states g) inner.0 outer.0 inner.1 outer.1
        (eqb→eq _ _ inner.2 ∙ b.name) (eqb→eq _ _ outer.2 ∙ b.name) inner.3 outer.3
