-- The exchanged game beside the game, in one round: sets, split, marks and plan.
use Prim.Native.Nat.{ℕ, suc, ◌<◌}
use mathlib.Core.Path.{◌≡◌, refl, sym, ap, ap₂, ◌∙◌}
use mathlib.Core.Bool.{Bool, true, false, not, ◌&&◌, cond, beq}
use lib.Dec.{T, eqb, ltb}
use Rattle.arena.specs.Sets.{Set, compl}
use Rattle.arena.specs.Arena.{Side, one, two, other, same}
use Rattle.arena.specs.Win.{Goal, to_reach, to_stay, swap_goal}
use Rattle.arena.specs.Passes.{rank}
use Rattle.arena.specs.Plan.{no_move}
use Rattle.arena.proofs.Tests.{not-not}
use Rattle.arena.proofs.Loops.{some_cong}
use Rattle.arena.proofs.Least.{least_cong}
use Rattle.game.specs.Game.{block_no, turn_at, block_at, targets, has_move, reblocked}
use Rattle.game.specs.Published.{side_of, goal_of, arena_of}
use Rattle.game.specs.Accepted.{AcceptedGame}
use Rattle.game.specs.declared.Game.{Game}
use Rattle.game.proofs.Rows.{fill_cong}
use Rattle.exchange.specs.Exchange.{other_turn, other_objective, exchanged_game}
use Rattle.exchange.proofs.Games.{turn_changed, exchanged-targets}
use Rattle.blocks.specs.Blocks.{split}
use Rattle.blocks.specs.Round.{sure, possible, into_known, border_block, inside_step}
use Rattle.blocks.specs.Hunt.{hunter}
use Rattle.blocks.proofs.Sound.{sure-possible}
use Rattle.runs.specs.Run.{Choice, lowest_first, sure_states, possible_states, into_known_states, Word, YES, NO, OPEN, split_game}
use Rattle.solver.specs.Rules.{mark, successors, advice, rule, planned}
use Rattle.solver.specs.Work.{chase_rule, flee_rule, winner_rule}
use Rattle.solver.proofs.Rules.{winner-rule}
use Rattle.demands.specs.Trades.{trade_mark}
use Rattle.demands.proofs.Following.{on_the_way, safe}
use Rattle.demands.proofs.Traded.{Agree, mine_traded, lower_traded, upper_traded, rank_traded}
use Rattle.demands.proofs.TradedRound.{sure_traded, possible_traded, known_traded, border_block_traded}

-- YES and NO trade places, and OPEN stays
abbrev pub trade_word : Word → Word
trade_word YES = NO
trade_word NO = YES
trade_word OPEN = OPEN

-- ## The rows

-- the other turn is the other side's
other-side : (t : ℕ) → side_of (other_turn t) ≡ other (side_of t)
other-side t = go (eqb t 1)
  where
    go : (b : Bool) → side_of (cond b 2 1) ≡ other (cond b one two)
    go true = refl
    go false = refl

-- the other objective is the opposite goal
other-goal : (o : ℕ) → goal_of (other_objective o) ≡ swap_goal (goal_of o)
other-goal o = go (eqb o 1)
  where
    go : (b : Bool) → goal_of (cond b 2 1) ≡ swap_goal (cond b to_reach to_stay)
    go true = refl
    go false = refl

module _ (g : Game) where
  -- the turns of the exchanged game
  abbrev pub turns_of : ℕ → Side
  turns_of s = side_of (turn_at (exchanged_game g) s)

  -- whose turn each state is, is flipped
  pub turns_flipped : (s : ℕ) → s < g.states → turns_of s ≡ other (side_of (turn_at g s))
  turns_flipped s l = ap side_of (turn_changed g s l) ∙ other-side (turn_at g s)

  -- the goal is the opposite one
  pub goal_opposite : goal_of (exchanged_game g).objective ≡ swap_goal (goal_of g.objective)
  unfolding exchanged_game
  goal_opposite = other-goal g.objective

-- the states that entered in an earlier pass, counted from 1
abbrev chase : Game → Side → Set → ℕ → Set
chase g i P s t = ltb (suc (rank g.states (inside_step (arena_of g) (block_at g) i) P t)) (suc (rank g.states (inside_step (arena_of g) (block_at g) i) P s))

module _ (g : Game) (ok : AcceptedGame g) where
  -- ## One round

  -- sure is what was never
  pub sure-exchanged : Agree g.states (sure_states (exchanged_game g)) (compl (possible_states g))
  unfolding arena_of has_move exchanged_game
  sure-exchanged s l =
      ap (λ (o : Goal). sure (arena_of (exchanged_game g)) (block_at g) o (targets (exchanged_game g)) s) (goal_opposite g)
      ∙ sure_traded (arena_of g) (turns_of g) (turns_flipped g) (block_at g) (targets g) (targets (exchanged_game g)) (exchanged-targets g ok) (goal_of g.objective) s l

  -- never is what was sure
  pub possible-exchanged : Agree g.states (possible_states (exchanged_game g)) (compl (sure_states g))
  unfolding arena_of has_move exchanged_game
  possible-exchanged s l =
      ap (λ (o : Goal). possible (arena_of (exchanged_game g)) (block_at g) o (targets (exchanged_game g)) s) (goal_opposite g)
      ∙ possible_traded (arena_of g) (turns_of g) (turns_flipped g) (block_at g) (targets g) (targets (exchanged_game g)) (exchanged-targets g ok) (goal_of g.objective) s l

  -- the set by which the border block is split is the same
  pub known-exchanged : Agree g.states (into_known_states (exchanged_game g)) (into_known_states g)
  unfolding arena_of has_move exchanged_game
  known-exchanged s l =
      ap (λ (o : Goal). into_known (arena_of (exchanged_game g)) (block_at g) o (targets (exchanged_game g)) s) (goal_opposite g)
      ∙ known_traded (arena_of g) (turns_of g) (turns_flipped g) (block_at g) (targets g) (targets (exchanged_game g)) (exchanged-targets g ok) (goal_of g.objective) s l

  -- the border block is the same
  pub border-exchanged : lowest_first (exchanged_game g) ≡ lowest_first g
  unfolding arena_of has_move exchanged_game
  border-exchanged =
      ap (λ (o : Goal). border_block (arena_of (exchanged_game g)) (block_at g) o (targets (exchanged_game g))) (goal_opposite g)
      ∙ border_block_traded (arena_of g) (turns_of g) (turns_flipped g) (block_at g) (targets g) (targets (exchanged_game g)) (exchanged-targets g ok) (goal_of g.objective)

  -- ## The split

  -- sets that agree split a block alike
  split_cong : (b b' : ℕ) (C D : Set) → b ≡ b' → Agree g.states C D
      → (s : ℕ) → s < g.states → split g.states (block_at g) b C s ≡ split g.states (block_at g) b' D s
  unfolding split
  split_cong b b' C D e h s l =
      rw e (ap (λ r. cond (eqb (block_at g s) b') r (block_at g s))
      (least_cong g.states _ _ (λ t k. ap₂ (λ x y. eqb (block_at g t) b' && beq x y) (h t k) (h s l))))

  -- the exchanged game is split as the game is, by a choice that does not look at the sides
  pub split-exchanged : (choose : Choice) → choose (exchanged_game g) ≡ choose g → split_game choose (exchanged_game g) ≡ exchanged_game (split_game choose g)
  unfolding split_game exchanged_game
  split-exchanged choose same =
      ap (reblocked (exchanged_game g)) (fill_cong g.states _ _ g.block (λ s l.
      ap block_no (split_cong (choose (exchanged_game g)) (choose g) (into_known_states (exchanged_game g)) (into_known_states g) same known-exchanged s l)))

  -- ## The marks

  -- sure and never trade places, and open stays open
  pub mark-exchanged : (s : ℕ) → s < g.states → mark (exchanged_game g) s ≡ trade_mark (mark g s)
  unfolding mark arena_of
  mark-exchanged s l =
      ap₂ (λ x y. cond x 2 (cond y 1 0)) (sure-exchanged s l) (possible-exchanged s l)
      ∙ go (sure_states g s) (possible_states g s) (sure-possible (arena_of g) (block_at g) (targets g) (goal_of g.objective) s l)
    where
      go : (x y : Bool) → (T x → T y) → cond (not y) 2 (cond (not x) 1 0) ≡ trade_mark (cond x 2 (cond y 1 0))
      go true true h = refl
      go true false h = absurd (h tt)
      go false true h = refl
      go false false h = refl

  -- ## The plan

  -- advice to the opponent by sets that agree is the same advice
  advice-exchanged : (i : Side) (told told' X X' : Set) (s : ℕ) → s < g.states → told' s ≡ told s → Agree g.states X' X
      → advice (exchanged_game g) (other i) told' X' s ≡ advice g i told X s
  unfolding advice arena_of has_move exchanged_game
  advice-exchanged i told told' X X' s l e h =
      let agree : Agree g.states (successors (exchanged_game g) s X') (successors g s X) = λ t k. ap (λ x. has_move g s t && x) (h t k) in
      ap₂ (λ b r. cond b r no_move)
      (ap₂ ◌&&◌ (ap₂ ◌&&◌ (mine_traded (arena_of g) (turns_of g) (turns_flipped g) i s l) e) (some_cong g.states _ _ agree))
      (least_cong g.states _ _ agree)

  -- of two sets of prey that agree: advice to the side that hunts, and to the one that is hunted
  chase_traded : (i : Side) (P P' : Set) → Agree g.states P' P → (s : ℕ) → s < g.states
      → advice (exchanged_game g) (other i) (on_the_way (arena_of (exchanged_game g)) (block_at g) (other i) P') (chase (exchanged_game g) (other i) P' s) s
      ≡ advice g i (on_the_way (arena_of g) (block_at g) i P) (chase g i P s) s
  unfolding arena_of has_move exchanged_game
  chase_traded i P P' same s l =
      let ranks = rank_traded (arena_of g) (turns_of g) (turns_flipped g) i P' P same (block_at g) in
      advice-exchanged i _ _ _ _ s l
      (ap₂ (λ x y. x && not y) (lower_traded (arena_of g) (turns_of g) (turns_flipped g) i P' P same (block_at g) s l) (same s l))
      (λ t k. ap₂ (λ x y. ltb (suc x) (suc y)) (ranks t k) (ranks s l))

  flee_traded : (i : Side) (P P' : Set) → Agree g.states P' P → (s : ℕ) → s < g.states
      → advice (exchanged_game g) (other (other i)) (safe (arena_of (exchanged_game g)) (block_at g) (other i) P') (safe (arena_of (exchanged_game g)) (block_at g) (other i) P') s
      ≡ advice g (other i) (safe (arena_of g) (block_at g) i P) (safe (arena_of g) (block_at g) i P) s
  unfolding arena_of has_move exchanged_game
  flee_traded i P P' same s l =
      let outside : Agree g.states (safe (arena_of (exchanged_game g)) (block_at g) (other i) P') (safe (arena_of g) (block_at g) i P) =
      λ t k. ap not (upper_traded (arena_of g) (turns_of g) (turns_flipped g) i P' P same (block_at g) t k) in
      advice-exchanged (other i) _ _ _ _ s l (outside s l) outside

  -- outside the target is what was in it
  other-target : Agree g.states (compl (targets (exchanged_game g))) (targets g)
  other-target s l = ap not (exchanged-targets g ok s l) ∙ not-not (targets g s)

  -- each rule gives the opponent in the exchanged game the same move
  rule_traded : (i : Side) (s : ℕ) → s < g.states → winner_rule (exchanged_game g) (other i) s ≡ winner_rule g i s
  unfolding chase_rule flee_rule arena_of exchanged_game
  rule_traded i s l = rw (goal_opposite g) (go i (goal_of g.objective))
    where
      chases : (o : Goal) → chase_rule (exchanged_game g) (swap_goal o) s ≡ chase_rule g o s
      chases to_reach = chase_traded one (targets g) _ other-target s l
      chases to_stay = chase_traded two (compl (targets g)) _ (exchanged-targets g ok) s l

      flees : (o : Goal) → flee_rule (exchanged_game g) (swap_goal o) s ≡ flee_rule g o s
      flees to_reach = flee_traded one (targets g) _ other-target s l
      flees to_stay = flee_traded two (compl (targets g)) _ (exchanged-targets g ok) s l

      go : (i : Side) (o : Goal) → cond (same (other i) (hunter (swap_goal o))) (chase_rule (exchanged_game g) (swap_goal o) s) (flee_rule (exchanged_game g) (swap_goal o) s)
          ≡ cond (same i (hunter o)) (chase_rule g o s) (flee_rule g o s)
      go one to_reach = chases to_reach
      go one to_stay = flees to_stay
      go two to_reach = flees to_reach
      go two to_stay = chases to_stay

  -- the plan shown is the same
  pub plan-exchanged : (w : Word) (s : ℕ) → s < g.states → planned (trade_word w) (exchanged_game g) s ≡ planned w g s
  unfolding rule
  plan-exchanged YES s l = sym (winner-rule (exchanged_game g) two s) ∙ rule_traded one s l ∙ winner-rule g one s
  plan-exchanged NO s l = sym (winner-rule (exchanged_game g) one s) ∙ rule_traded two s l ∙ winner-rule g two s
  plan-exchanged OPEN s l = refl
