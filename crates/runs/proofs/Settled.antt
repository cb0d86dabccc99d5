-- When a run ends, told by what the hunting side surely brings about and by what it may; how these grow from round to round.
use Prim.Native.Nat.{ℕ, zero, suc, ◌≤◌, ◌<◌}
use mathlib.Core.Path.{◌≡◌, refl, sym, ap, subst, ◌∙◌}
use mathlib.Core.Bool.{Bool, true, false, not, ◌&&◌, cond, true≢false}
use mathlib.Core.Logic.{◌⊎◌, inl, inr}
use native.Mathlib.Nat.{le_of_suc-le-suc}
use native.Mathlib.Decide.{le_ind}
use native.Mathlib.Omega.{arith}
use lib.Dec.{T, eqb}
use borrow.Author.Tests.{eq-eqb}
use Rattle.arena.specs.Sets.{Set, compl, imp, some, every, least}
use Rattle.arena.specs.Arena.{Side, two, Arena}
use Rattle.arena.specs.Win.{Goal, to_reach, to_stay}
use Rattle.arena.proofs.Tests.{is_true, is_false, holds, fails, and_intro, and-not}
use Rattle.arena.proofs.Sets.{Sub, not-every, some_intro, meets_in, meets-out, within_in, within-out}
use Rattle.arena.proofs.Least.{least_cong}
use Rattle.game.specs.Game.{block_at, initials, targets, has_move}
use Rattle.game.specs.Published.{goal_of, arena_of}
use Rattle.game.specs.Accepted.{AcceptedGame}
use Rattle.game.specs.declared.Game.{Game}
use Rattle.blocks.specs.Blocks.{meets, is_block}
use Rattle.blocks.specs.Round.{sure, possible, border, border_block}
use Rattle.blocks.specs.Parts.{apart}
use Rattle.blocks.specs.Hunt.{hunter, prey, lower, upper}
use Rattle.blocks.proofs.Hunt.{lower-upper, sure-reach, possible-reach, sure_stay, possible_stay, known-hunter, undecided-hunter}
use Rattle.blocks.proofs.Refine.{lower_refine, upper_refine, meets-upper, split_is, split_undone}
use Rattle.runs.specs.Run.{into_known_states, Choice, lowest_first, Word, YES, NO, OPEN, word, split_game, one_more_split, ended, if_open, run, round}
use Rattle.runs.specs.Hunting.{hunting_side, prey_states, lower_states, upper_states, has_way, caught, catchable}
use Rattle.runs.proofs.Rounds.{accepted-named, lowest_found, lowest_borders, split-block, split_refines}
use Rattle.runs.proofs.Runs.{round-accepted, yes_open, no_open}

-- ## What a round says

-- by a larger set the hunting side has its way no less
way_mono : (o : Goal) (n : ℕ) (starts X Y : Set) → Sub n X Y → has_way o n starts X ≡ true → has_way o n starts Y ≡ true
unfolding has_way
way_mono to_reach n starts X Y h e =
    let w = meets-out n starts X (holds _ e) in
    is_true _ (meets_in n starts Y w.0 w.1 w.2 (h w.0 w.1 w.3))
way_mono to_stay n starts X Y h e = is_true _ (within_in n starts Y (λ s l i. h s l (within-out n starts X (holds _ e) s l i)))

-- what surely comes about may come about
pub caught-catchable : (g : Game) → caught g ≡ true → catchable g ≡ true
unfolding arena_of
caught-catchable g =
    way_mono (goal_of g.objective) g.states (initials g) (lower_states g) (upper_states g)
    (lower-upper (arena_of g) (block_at g) (hunting_side g) (prey_states g))

-- the word of the side that hunts
abbrev pub hunters_word : Goal → Word
hunters_word to_reach = YES
hunters_word to_stay = NO

-- the word of the side that is hunted
abbrev pub hunted_word : Goal → Word
hunted_word to_reach = NO
hunted_word to_stay = YES

-- some start lies outside X exactly where not every start lies in X
some_outside : (n : ℕ) (starts X : Set) → some n (λ s. starts s && not (X s)) ≡ not (every n (λ s. imp (starts s) (X s)))
some_outside n starts X = simp and-not (not-every n (λ s. imp (starts s) (X s)))

-- the two orders in which a round may be told: whether it may be won comes first, or whether it surely is
reach-word : (lo up : Bool) → (lo ≡ true → up ≡ true) → cond (not up) NO (cond lo YES OPEN) ≡ cond lo YES (cond up OPEN NO)
reach-word true up h = rw (h refl)
reach-word false true h = refl
reach-word false false h = refl

stay_word : (lo up : Bool) → cond (not (not lo)) NO (cond (not up) YES OPEN) ≡ cond lo NO (cond up OPEN YES)
stay_word true up = refl
stay_word false true = refl
stay_word false false = refl

module _ (g : Arena) (block : ℕ → ℕ) (n : ℕ) (starts A : Set) where
  -- whether the hunting side has its way by what it surely brings about (lower), or by what it may (upper)
  abbrev way_by : (Arena → (ℕ → ℕ) → Side → Set → Set) → Goal → Bool
  way_by brings o = has_way o n starts (brings g block (hunter o) (prey o A))

  -- 01's word, from the side that hunts
  word_of : (o : Goal) → (way_by lower o ≡ true → way_by upper o ≡ true)
      → cond (not (some n (λ s. starts s && possible g block o A s))) NO (cond (some n (λ s. starts s && sure g block o A s)) YES OPEN)
      ≡ cond (way_by lower o) (hunters_word o) (cond (way_by upper o) OPEN (hunted_word o))
  unfolding has_way
  word_of to_reach h = rw (possible-reach g block A, sure-reach g block A) (reach-word (way_by lower to_reach) (way_by upper to_reach) h)
  word_of to_stay h =
      rw (possible_stay g block A, sure_stay g block A)
      (rw (some_outside n starts (lower g block two (compl A)), some_outside n starts (upper g block two (compl A)))
      (stay_word (way_by lower to_stay) (way_by upper to_stay)))

-- the word of a round: the hunter's where it surely has its way, open where it may, and the other side's where it cannot
pub word_is : (g : Game) → word g ≡ cond (caught g) (hunters_word (goal_of g.objective)) (cond (catchable g) OPEN (hunted_word (goal_of g.objective)))
unfolding word
word_is g = word_of (arena_of g) (block_at g) g.states (initials g) (targets g) (goal_of g.objective) (caught-catchable g)

-- a round that is not settled is open as yet
pub word_open : (g : Game) → caught g ≡ false → catchable g ≡ true → word g ≡ OPEN
word_open g lo up = word_is g ∙ rw (lo, up)

-- a round that is open as yet is not settled
pub open_unsettled : (g : Game) → word g ≡ OPEN → (caught g ≡ false) × (catchable g ≡ true)
open_unsettled g e = go (goal_of g.objective) (caught g) (catchable g) (sym (word_is g) ∙ e)
  where
    go : (o : Goal) (lo up : Bool) → cond lo (hunters_word o) (cond up OPEN (hunted_word o)) ≡ OPEN → (lo ≡ false) × (up ≡ true)
    go o false true e = (refl, refl)
    go to_reach true up e = yes_open e
    go to_reach false false e = no_open e
    go to_stay true up e = no_open e
    go to_stay false false e = yes_open e

-- ## From round to round

-- the round after one split more
pub round-more : (choose : Choice) (k : ℕ) (g : Game) → round choose (suc k) g ≡ split_game choose (round choose k g)
unfolding round
round-more choose zero g = refl
round-more choose (suc k) g = round-more choose k (split_game choose g)

-- a run whose rounds are open as yet up to one that is not, or in which the allowance is used up, ends there
pub run_is : (choose : Choice) (a k : ℕ) (g : Game) → k ≤ a → ((i : ℕ) → i < k → word (round choose i g) ≡ OPEN) → ((word (round choose k g) ≡ OPEN → ⊥) ⊎ (k ≡ a))
    → run choose a g ≡ record { splits = k; last = round choose k g }
unfolding run round
run_is choose zero zero g l before here = refl
run_is choose zero (suc k) g l before here = absurd (omega arith)
run_is choose (suc a) zero g l before here = go (word g) refl
  where
    go : (w : Word) → word g ≡ w → if_open w (one_more_split (run choose a (split_game choose g))) (ended g) ≡ ended g
    go YES e = refl
    go NO e = refl
    go OPEN e = elim here [ inl shut ↦ absurd (shut e) | inr used ↦ absurd (omega arith) ]
run_is choose (suc a) (suc k) g l before here =
    rw (before 0 (omega arith))
    (ap one_more_split
    (run_is choose a k (split_game choose g) (le_of_suc-le-suc l) (λ i m. before (suc i) (omega arith))
    (elim here [ inl shut ↦ inl shut | inr used ↦ inr (omega arith) ])))

module _ (choose : Choice) (g : Game) (ok : AcceptedGame g) where
  -- after a split more surely comes about
  pub lower-split : Sub g.states (lower_states g) (lower_states (split_game choose g))
  unfolding arena_of split_game has_move
  lower-split = lower_refine (arena_of g) (block_at g) (block_at (split_game choose g)) (split_refines choose g ok) (hunting_side g) (prey_states g)

  -- after a split less may come about
  upper-split : Sub g.states (upper_states (split_game choose g)) (upper_states g)
  unfolding arena_of split_game has_move
  upper-split = upper_refine (arena_of g) (block_at g) (block_at (split_game choose g)) (split_refines choose g ok) (hunting_side g) (prey_states g)

  -- if the hunting side surely has its way, it does after a split
  pub caught-split : caught g ≡ true → caught (split_game choose g) ≡ true
  unfolding split_game
  caught-split = way_mono (goal_of g.objective) g.states (initials g) (lower_states g) (lower_states (split_game choose g)) lower-split

  -- if the hunting side may have its way after a split, it may before
  pub catchable-split : catchable (split_game choose g) ≡ true → catchable g ≡ true
  unfolding split_game
  catchable-split = way_mono (goal_of g.objective) g.states (initials g) (upper_states (split_game choose g)) (upper_states g) upper-split

module _ (choose : Choice) (g : Game) (ok : AcceptedGame g) (j k : ℕ) (l : j ≤ k) where
  -- if the hunting side surely has its way, it does in all later rounds
  pub caught_later : caught (round choose j g) ≡ true → caught (round choose k g) ≡ true
  caught_later h =
      le_ind (λ m. caught (round choose m g) ≡ true) h
      (λ m _ x. rw (round-more choose m g) (caught-split choose (round choose m g) (round-accepted choose m g ok) x)) k l

  -- if the hunting side may have its way, it may in all earlier rounds
  pub catchable-earlier : catchable (round choose k g) ≡ true → catchable (round choose j g) ≡ true
  catchable-earlier =
      le_ind (λ m. catchable (round choose m g) ≡ true → catchable (round choose j g) ≡ true) (λ x. x)
      (λ m _ back x. back (catchable-split choose (round choose m g) (round-accepted choose m g ok) (rw (round-more choose m g) at x))) k l

  -- if the hunting side does not surely have its way, it does not in any earlier round
  pub uncaught-earlier : caught (round choose k g) ≡ false → caught (round choose j g) ≡ false
  uncaught-earlier lo = is_false _ (λ x. true≢false (sym (caught_later (is_true _ x)) ∙ lo))

  -- a round that is not settled has none settled before it
  pub open_earlier : caught (round choose k g) ≡ false → catchable (round choose k g) ≡ true → word (round choose j g) ≡ OPEN
  open_earlier lo up = word_open (round choose j g) (uncaught-earlier lo) (catchable-earlier up)

-- ## The border block without what may come about

-- the numbers of the blocks that do not surely come about and meet the known set
abbrev pub next_blocks : Game → Set
next_blocks g s = is_block (block_at g) s && (not (lower_states g s) && meets g.states (block_at g) (into_known_states g) s)

module _ (g : Game) where
  -- they are the border blocks
  pub next_is : (s : ℕ) → s < g.states
      → next_blocks g s ≡ (is_block (block_at g) s && border (arena_of g) (block_at g) (goal_of g.objective) (targets g) s)
  unfolding border arena_of
  next_is s l =
      let o = goal_of g.objective in
      rw (undecided-hunter (arena_of g) (block_at g) (targets g) o s)
      (ap (λ x. is_block (block_at g) s && x)
      (drop (upper_states g s) (not (lower_states g s)) (meets g.states (block_at g) (into_known_states g) s)
      (λ m. meets-upper (arena_of g) (block_at g) (hunting_side g) (prey_states g) s l
      (subst (λ (C : Set). T (meets g.states (block_at g) C s)) (known-hunter (arena_of g) (block_at g) (targets g) o) m))))
    where
      drop : (up low met : Bool) → (T met → T up) → (low && met) ≡ ((up && low) && met)
      drop true low met h = refl
      drop false low true h = absurd (h tt)
      drop false true false h = refl
      drop false false false h = refl

  -- the lowest of them is the border block that 01 names
  pub next-block : least g.states (next_blocks g) ≡ lowest_first g
  unfolding border_block arena_of
  next-block = least_cong g.states (next_blocks g) _ next_is

  -- where there is none, the round is not open
  pub no_next : AcceptedGame g → some g.states (next_blocks g) ≡ false → word g ≡ OPEN → ⊥
  unfolding arena_of
  no_next ok none e =
      let b = lowest_borders g ok e in
      fails (some g.states (next_blocks g)) none
      (some_intro g.states (next_blocks g) (lowest_first g) b.state
      (rw (next_is (lowest_first g) b.state)
      (and_intro (is_block (block_at g) (lowest_first g)) (border (arena_of g) (block_at g) (goal_of g.objective) (targets g) (lowest_first g))
      (rw (eq-eqb (block_at g (lowest_first g)) (lowest_first g) b.name) tt) b.on_border)))

-- ## The split, and how it is undone

module _ (g : Game) (ok : AcceptedGame g) (b : ℕ) (here : b ≡ lowest_first g) (low : b < g.states) (c : ℕ)
    (new : c ≡ least g.states (apart (block_at g) b (into_known_states g))) where
  -- the number that the split takes is a block's
  own : block_at g b ≡ b
  own = rw here (lowest_found g (rw here at low)).name

  -- the members of the border block that lie in the known set unlike its lowest get the number of the lowest of them
  pub block_after : (s : ℕ) → s < g.states → block_at (split_game lowest_first g) s ≡ cond (apart (block_at g) b (into_known_states g) s) c (block_at g s)
  block_after s l = split-block lowest_first g s l ∙ rw (← here) (split_is g.states (block_at g) (accepted-named g ok) b low own (into_known_states g) c new s l)

  -- the new number read as the old one gives the blocks before the split
  pub block_before : (s : ℕ) → s < g.states → block_at g s ≡ cond (eqb (block_at (split_game lowest_first g) s) c) b (block_at (split_game lowest_first g) s)
  block_before s l =
      rw (split-block lowest_first g s l, ← here) (split_undone g.states (block_at g) (accepted-named g ok) b low own (into_known_states g) c new s l)
