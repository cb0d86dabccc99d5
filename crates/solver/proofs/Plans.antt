-- The plan that the code works out is the rule of the side that wins.
use mathlib.Core.Path.{◌≡◌, refl, sym, ap, ap₂, ◌∙◌}
use mathlib.Core.Bool.{Bool, true, false, not, ◌&&◌, cond, and-false, true≢false}
use mathlib.Core.List.{List}
use mathlib.Core.Logic.{⊎_elim}
use Prim.Native.Nat.{ℕ, zero, suc, ◌≤◌, ◌<◌}
use native.Mathlib.Nat.{le_refl}
use native.Mathlib.Omega.{arith}
use lib.ListN.{length, get_or}
use lib.Dec.{T, eqb, ltb, eqb-suc-zero}
use borrow.Author.Tests.{le-ltb}
use Rattle.arena.specs.Sets.{Set, compl, some, least}
use Rattle.arena.specs.Arena.{Side, one, two, other, same, mine}
use Rattle.arena.specs.Passes.{grow}
use Rattle.arena.proofs.Tests.{holds, fails}
use Rattle.arena.proofs.Loops.{le_or_lt, some_cong, some-none}
use Rattle.arena.proofs.Least.{least_cong}
use Rattle.arena.proofs.Passes.{rank-le}
use Rattle.game.specs.Game.{known_turn, block_at, turn_at, from_at, to_at, has_move}
use Rattle.game.specs.Published.{side_of, goal_of, arena_of}
use Rattle.game.specs.declared.Game.{Game}
use Rattle.game.proofs.Turns.{same_turn, other-turn}
use Rattle.blocks.specs.Round.{inside_step}
use Rattle.blocks.specs.Hunt.{lower}
use Rattle.growth.proofs.Stamp.{stamp-rank}
use Rattle.runs.specs.Run.{Word, YES, NO, OPEN, word}
use Rattle.arena.specs.Plan.{no_move}
use Rattle.solver.specs.Rules.{successors, advice, planned}
use Rattle.runs.specs.Hunting.{hunting_side, prey_states, lower_states, upper_states}
use Rattle.solver.specs.Work.{good_move, lowest_good, Walk, Worked, Planning, chase_rank, chase_rule, flee_rule, winner_rule}
use Rattle.solver.specs.Solve.{decision_of}
use Rattle.solver.specs.declared.Decision.{Decision}
use Rattle.solver.specs.declared.Decision.TheVariants.{Yes, No, Open}
use Rattle.solver.proofs.Advice.{good_alike, walked}
use Rattle.solver.proofs.Marks.{out-upper}

-- ## A rule by good moves

-- where a state is told, the set is that of good moves, and where it is not, no move is good: the advice is the lowest good move
advice_as : (g : Game) (i : Side) (told X Y : Set) (s : ℕ) → (told s ≡ true → (t : ℕ) → t < g.states → X t ≡ Y t)
    → (told s ≡ false → (t : ℕ) → t < g.states → Y t ≡ false)
    → advice g i told X s ≡ cond (mine (arena_of g) i s && some g.states (successors g s Y)) (least g.states (successors g s Y)) no_move
unfolding advice
advice_as g i told X Y s agree none = go (mine (arena_of g) i s) (told s) refl
  where
    go : (m b : Bool) → told s ≡ b
        → cond (m && b && some g.states (successors g s X)) (least g.states (successors g s X)) no_move
        ≡ cond (m && some g.states (successors g s Y)) (least g.states (successors g s Y)) no_move
    go m true e =
        let same-moves : (t : ℕ) → t < g.states → successors g s X t ≡ successors g s Y t = λ t l. ap (λ (b : Bool). has_move g s t && b) (agree e t l) in
        rw (some_cong g.states (successors g s X) (successors g s Y) same-moves, least_cong g.states (successors g s X) (successors g s Y) same-moves) (told_all m)
      where
        told_all : (m : Bool) → cond (m && true && some g.states (successors g s Y)) (least g.states (successors g s Y)) no_move
            ≡ cond (m && some g.states (successors g s Y)) (least g.states (successors g s Y)) no_move
        told_all true = refl
        told_all false = refl
    go m false e = rw (some-none g.states (successors g s Y) (λ t l. rw (none e t l) (and-false (has_move g s t)))) (told_none m)
      where
        told_none : (m : Bool) → ◌≡◌ {A = ℕ} (cond (m && false && some g.states (successors g s X)) (least g.states (successors g s X)) no_move)
            (cond (m && false) (least g.states (successors g s Y)) no_move)
        told_none true = refl
        told_none false = refl

-- ## Good moves by the rows of passes

module _ {g : Game} {low up : List ℕ} (w : Worked g low up) where
  -- the pass that stands in the lower row
  lower_pass_lem : (t : ℕ) → t < g.states → get_or low t 0 ≡ cond (lower_states g t) (suc (chase_rank g (goal_of g.objective) t)) 0
  unfolding lower arena_of
  lower_pass_lem t l = w.lower_is t l ∙ stamp-rank (inside_step (arena_of g) (block_at g) (hunting_side g)) (prey_states g) g.states g.states t (le_refl g.states)

  -- a state of the lower set has a rank of at most the number of states, and no other has
  rank_in : (t : ℕ) → lower_states g t ≡ true → chase_rank g (goal_of g.objective) t ≤ g.states
  unfolding lower arena_of
  rank_in t e = (rank-le g.states (inside_step (arena_of g) (block_at g) (hunting_side g)) (prey_states g) g.states t (le_refl g.states)).1 (holds (lower_states g t) e)

  rank-out : (t : ℕ) → lower_states g t ≡ false → g.states < chase_rank g (goal_of g.objective) t
  unfolding lower arena_of
  rank-out t e =
      ⊎_elim
      (λ (h : chase_rank g (goal_of g.objective) t ≤ g.states). absurd (fails (lower_states g t) e ((rank-le g.states (inside_step (arena_of g) (block_at g) (hunting_side g)) (prey_states g) g.states t (le_refl g.states)).0 h)))
      (λ (h : g.states < chase_rank g (goal_of g.objective) t). h)
      (le_or_lt (chase_rank g (goal_of g.objective) t) g.states)

  -- the prey has rank 0
  rank-prey : (t : ℕ) → prey_states g t ≡ true → chase_rank g (goal_of g.objective) t ≡ 0
  unfolding grow
  rank-prey t e =
      let h = (rank-le g.states (inside_step (arena_of g) (block_at g) (hunting_side g)) (prey_states g) 0 t (omega arith)).1 (holds (prey_states g t) e) in
      omega arith

  -- one who hunts, told to move: earlier is good
  chase_told : (s t : ℕ) → s < g.states → t < g.states → (lower_states g s && not (prey_states g s)) ≡ true
      → ltb (suc (chase_rank g (goal_of g.objective) t)) (suc (chase_rank g (goal_of g.objective) s)) ≡ good_move true (get_or low s 0) (get_or low t 0)
  unfolding good_move
  chase_told s t ls lt e = rw (lower_pass_lem s ls, lower_pass_lem t lt) (go (lower_states g s) (lower_states g t) refl refl e)
    where
      rs : ℕ
      rs = chase_rank g (goal_of g.objective) s

      rt : ℕ
      rt = chase_rank g (goal_of g.objective) t

      go : (x y : Bool) → lower_states g s ≡ x → lower_states g t ≡ y → (x && not (prey_states g s)) ≡ true
          → ltb (suc rt) (suc rs) ≡ (not (eqb (cond y (suc rt) 0) 0) && ltb (cond y (suc rt) 0) (cond x (suc rs) 0))
      go false y p q h = absurd (true≢false (sym h))
      go true true p q h = rw (eqb-suc-zero rt) refl
      go true false p q h = let a = rank_in s p in let b = rank-out t q in le-ltb (suc rt) (suc rs) (omega arith)

  -- one who hunts, not told to move: nothing is good
  chase_idle : (s t : ℕ) → s < g.states → (lower_states g s && not (prey_states g s)) ≡ false → good_move true (get_or low s 0) (get_or low t 0) ≡ false
  unfolding good_move
  chase_idle s t ls e = rw (lower_pass_lem s ls) (go (lower_states g s) (prey_states g s) refl e (get_or low t 0))
    where
      rs : ℕ
      rs = chase_rank g (goal_of g.objective) s

      none_below_one : (r v : ℕ) → r ≡ 0 → (not (eqb v 0) && ltb v (suc r)) ≡ false
      none_below_one r zero e = refl
      none_below_one r (suc v) e = rw (e, eqb-suc-zero v) (le-ltb (suc v) 1 (omega arith))

      go : (x y : Bool) → prey_states g s ≡ y → (x && not y) ≡ false → (v : ℕ) → (not (eqb v 0) && ltb v (cond x (suc rs) 0)) ≡ false
      go true true q h v = none_below_one rs v (rank-prey s q)
      go true false q h v = absurd (true≢false h)
      go false y q h v = rw (le-ltb v 0 (omega arith)) (and-false (not (eqb v 0)))

  -- one who is hunted: from outside to outside is good
  flee_good : (s t : ℕ) → s < g.states → t < g.states → good_move false (get_or up s 0) (get_or up t 0) ≡ (not (upper_states g s) && not (upper_states g t))
  unfolding good_move
  flee_good s t ls lt = ap₂ ◌&&◌ (out-upper w s ls) (out-upper w t lt)

-- ## What the walk leaves is the winner's rule

module _ {g : Game} {low up : List ℕ} (w : Worked g low up) (side : ℕ) (known : T (known_turn side)) (s : ℕ) (l : s < g.states) where
  -- whose turn it is, by the numbers
  turn_told : mine (arena_of g) (side_of side) s ≡ eqb (turn_at g s) side
  unfolding arena_of
  turn_told = same_turn side (turn_at g s) known (w.ranged.turn-known s l)

  chased : side_of side ≡ hunting_side g → lowest_good side true (turn_at g) (from_at g) (to_at g) (λ t. get_or low t 0) g.moves s ≡ chase_rule g (goal_of g.objective) s
  unfolding chase_rule
  chased e =
      let Y : Set = λ t. good_move true (get_or low s 0) (get_or low t 0) in
      walked g w.ranged side true (λ t. get_or low t 0) s Y (λ t. refl)
      ∙ ap (λ (b : Bool). cond (b && some g.states (successors g s Y)) (least g.states (successors g s Y)) no_move) (sym turn_told)
      ∙ sym (ap (λ (i : Side). advice g i (λ t. lower_states g t && not (prey_states g t)) (λ t. ltb (suc (chase_rank g (goal_of g.objective) t)) (suc (chase_rank g (goal_of g.objective) s))) s) (sym e)
      ∙ advice_as g (side_of side) (λ t. lower_states g t && not (prey_states g t)) _ Y s (λ h t m. chase_told w s t l m h) (λ h t m. chase_idle w s t l h))

  fled : side_of side ≡ other (hunting_side g) → lowest_good side false (turn_at g) (from_at g) (to_at g) (λ t. get_or up t 0) g.moves s ≡ flee_rule g (goal_of g.objective) s
  unfolding flee_rule
  fled e =
      let Y : Set = λ t. good_move false (get_or up s 0) (get_or up t 0) in
      walked g w.ranged side false (λ t. get_or up t 0) s Y (λ t. refl)
      ∙ ap (λ (b : Bool). cond (b && some g.states (successors g s Y)) (least g.states (successors g s Y)) no_move) (sym turn_told)
      ∙ sym (ap (λ (i : Side). advice g i (compl (upper_states g)) (compl (upper_states g)) s) (sym e)
      ∙ advice_as g (side_of side) (compl (upper_states g)) (compl (upper_states g)) Y s
      (λ h t m. sym (flee_good w s t l m ∙ rw h refl))
      (λ h t m. flee_good w s t l m ∙ rw h refl))

module _ {g : Game} {side m : ℕ} {turn from to low up : List ℕ} (p : Planning g side m turn from to low up) where
  -- a walk over the moves goes through places that there are
  pub walk-safe : (row : List ℕ) → g.states ≤ length row → Walk g.states m turn from to row
  walk-safe row long = record {
    few-states = p.worked.ranged.few-states;
    froms = record { long = p.from_is.long; below = λ k l. rw (p.from_is.cell k l) (p.worked.ranged.from-state k (omega (arith, p.moves_is))) };
    tos = record { long = p.to_is.long; below = λ k l. rw (p.to_is.cell k l) (p.worked.ranged.to-state k (omega (arith, p.moves_is))) };
    turn-long = p.turn_is.long;
    row-long = long;
  }

  module _ (winner : ℕ) (known : T (known_turn winner)) (s : ℕ) (l : s < g.states) (v : ℕ) where
    -- a walk over the rows is one over the game's moves
    walk_is : (chase : Bool) (row : ℕ → ℕ)
        → lowest_good winner chase (λ t. get_or turn t 0) (λ k. get_or from k 0) (λ k. get_or to k 0) row m s ≡ lowest_good winner chase (turn_at g) (from_at g) (to_at g) row g.moves s
    walk_is chase row =
        good_alike winner chase (λ t. get_or turn t 0) (λ k. get_or from k 0) (λ k. get_or to k 0) row (turn_at g) (from_at g) (to_at g) m s (p.turn_is.cell s l) p.from_is.cell p.to_is.cell
        ∙ ap (λ (k : ℕ). lowest_good winner chase (turn_at g) (from_at g) (to_at g) row k s) (sym p.moves_is)

    -- the winner hunts: what the walk over the lower row left
    pub winner_chases : side ≡ winner → v ≡ lowest_good winner true (λ t. get_or turn t 0) (λ k. get_or from k 0) (λ k. get_or to k 0) (λ t. get_or low t 0) m s
        → v ≡ winner_rule g (side_of winner) s
    winner_chases h q =
        let e = ap side_of (sym h) ∙ p.hunts in
        q ∙ walk_is true (λ t. get_or low t 0) ∙ chased p.worked winner known s l e ∙ rw e (go (hunting_side g))
      where
        go : (i : Side) → chase_rule g (goal_of g.objective) s ≡ cond (same i i) (chase_rule g (goal_of g.objective) s) (flee_rule g (goal_of g.objective) s)
        go one = refl
        go two = refl

    -- the winner is hunted: what the walk over the upper row left
    pub winner_flees : (side ≡ winner → ⊥) → v ≡ lowest_good winner false (λ t. get_or turn t 0) (λ k. get_or from k 0) (λ k. get_or to k 0) (λ t. get_or up t 0) m s
        → v ≡ winner_rule g (side_of winner) s
    winner_flees ne q =
        let e = other-turn side winner p.known known ne ∙ ap other p.hunts in
        q ∙ walk_is false (λ t. get_or up t 0) ∙ fled p.worked winner known s l e ∙ rw e (go (hunting_side g))
      where
        go : (i : Side) → flee_rule g (goal_of g.objective) s ≡ cond (same (other i) i) (chase_rule g (goal_of g.objective) s) (flee_rule g (goal_of g.objective) s)
        go one = refl
        go two = refl

-- ## The plan of a decision

-- the word of a decision
abbrev pub word_of : Decision → Word
word_of (Yes s) = YES
word_of No = NO
word_of Open = OPEN

-- the plan of a game's decision, known by its word
pub planned_by : (g : Game) (s : ℕ) (d : Decision) → d ≡ decision_of (word g) g → (w : Word) → word_of d ≡ w → planned w g s ≡ planned (word g) g s
planned_by g s d said w e = ap (λ (w : Word). planned w g s) (sym e ∙ ap word_of said ∙ go (word g))
  where
    go : (w : Word) → word_of (decision_of w g) ≡ w
    go YES = refl
    go NO = refl
    go OPEN = refl
