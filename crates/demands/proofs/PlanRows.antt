-- The row of moves that 01 hands back wins: the rule of the side that wins, whether it hunts or is hunted.
use Prim.Native.Nat.{ℕ, suc, ◌<◌}
use mathlib.Core.Path.{◌≡◌, refl, sym, ap, ◌∙◌, subst, fun_ext}
use mathlib.Core.Bool.{Bool, true, false, ◌&&◌, cond}
use native.Mathlib.Omega.{arith}
use lib.Dec.{T, leb-suc-suc}
use Rattle.arena.specs.Sets.{Set, compl, some, least}
use Rattle.arena.specs.Arena.{Side, one, two, other, same, mine}
use Rattle.arena.specs.Win.{Goal, to_reach, to_stay, swap_goal}
use Rattle.arena.specs.Play.{Play}
use Rattle.arena.specs.Plan.{no_move, Advised, Obeys, Met, Pending, WinningPlan}
use Rattle.arena.proofs.Tests.{and_intro, and_l, and_r, contra, not-not, cond_ind, cond_yes}
use Rattle.arena.proofs.Sets.{meets_in, least-some}
use Rattle.arena.proofs.ByRow.{same-row-wins}
use Rattle.game.specs.Game.{block_at, targets, has_move}
use Rattle.game.specs.Published.{goal_of, arena_of}
use Rattle.game.specs.Accepted.{AcceptedGame}
use Rattle.game.specs.declared.Game.{Game}
use Rattle.blocks.specs.Round.{sure, possible}
use Rattle.blocks.specs.Hunt.{hunter, prey, lower, upper}
use Rattle.blocks.proofs.Hunt.{lower-target, lower-upper, sure-reach, possible-reach, sure_stay, never_stay}
use Rattle.runs.specs.Run.{sure_states, possible_states}
use Rattle.runs.proofs.Rounds.{accepted_live}
use Rattle.solver.specs.Rules.{successors, advice, planned}
use Rattle.solver.specs.Work.{chase_rank, chase_rule, flee_rule}
use Rattle.solver.proofs.Rules.{won_by, winner-rule}
use Rattle.demands.proofs.Following.{Guides, on_the_way, earlier, hunted_down, hunter_advised, safe, never-caught, hunted_advised}

-- ## The places of a row

module _ (g : Game) (ok : AcceptedGame g) (i : Side) (told : Set) where
  -- the lowest-numbered successor of s in X, where there is one
  lowest_successor : (X : Set) (s : ℕ) → T (some g.states (successors g s X))
      → Advised (arena_of g) s (least g.states (successors g s X)) × T (X (least g.states (successors g s X)))
  unfolding arena_of
  lowest_successor X s h =
      let r = least g.states (successors g s X) in
      let w = least-some g.states (successors g s X) h in
      let few = ok.few-states in (
        record { given = λ e. omega arith; state = w.0; legal = and_l (has_move g s r) (X r) w.1 },
        and_r (has_move g s r) (X r) w.1,
      )

  -- a place that is not empty holds a move of its state
  advice-legal : (X : Set) (s : ℕ) → (advice g i told X s ≡ no_move → ⊥) → Advised (arena_of g) s (advice g i told X s)
  unfolding advice
  advice-legal X s = cond_ind (λ r. (r ≡ no_move → ⊥) → Advised (arena_of g) s r)
      (mine (arena_of g) i s && told s && some g.states (successors g s X)) _ _
      (λ h _. (lowest_successor X s (and_r (mine (arena_of g) i s && told s) (some g.states (successors g s X)) h)).0)
      (λ _ n. absurd (n refl))

  -- where side i is told to move and can move into X s, the row has such a move
  advice_guides : (X : ℕ → Set) → Guides (arena_of g) i told X (λ s. advice g i told (X s) s)
  unfolding advice arena_of
  advice_guides X s l m t w =
      let h = meets_in g.states (has_move g s) (X s) w.0 w.1 w.2 w.3 in
      let M = mine (arena_of g) i s in
      let S = some g.states (successors g s (X s)) in
      rw (cond_yes (M && told s && S) _ _ (and_intro (M && told s) S (and_intro M (told s) m t) h)) (lowest_successor (X s) s h)

-- ## The two rules

module _ (g : Game) (o : Goal) where
  -- with the game's present blocks: what is hunted, where the hunter is told to move, and what it cannot even perhaps bring there
  abbrev hunted : Set
  hunted = prey o (targets g)

  abbrev way : Set
  way = on_the_way (arena_of g) (block_at g) (hunter o) hunted

  abbrev out : Set
  out = safe (arena_of g) (block_at g) (hunter o) hunted

  -- the rule of a side: it hunts, or it is hunted
  abbrev rule_of : Side → ℕ → ℕ
  rule_of i s = cond (same i (hunter o)) (chase_rule g o s) (flee_rule g o s)

  module _ (ok : AcceptedGame g) where
    chase_guides : Guides (arena_of g) (hunter o) way (earlier (arena_of g) (block_at g) (hunter o) hunted) (chase_rule g o)
    unfolding chase_rule arena_of
    chase_guides =
        subst (λ (X : ℕ → Set). Guides (arena_of g) (hunter o) way X (chase_rule g o)) (fun_ext (λ s. fun_ext (λ t. leb-suc-suc (suc (chase_rank g o t)) (chase_rank g o s))))
        (advice_guides g ok (hunter o) way _)

    flee_guides : Guides (arena_of g) (other (hunter o)) out (λ s. out) (flee_rule g o)
    unfolding flee_rule
    flee_guides = advice_guides g ok (other (hunter o)) out (λ s. out)

    -- both give moves only
    rule-legal : (i : Side) (s : ℕ) → (rule_of i s ≡ no_move → ⊥) → Advised (arena_of g) s (rule_of i s)
    unfolding chase_rule flee_rule
    rule-legal i s = go (same i (hunter o))
      where
        go : (b : Bool) → (cond b (chase_rule g o s) (flee_rule g o s) ≡ no_move → ⊥) → Advised (arena_of g) s (cond b (chase_rule g o s) (flee_rule g o s))
        go true = advice-legal g ok (hunter o) way _ s
        go false = advice-legal g ok (other (hunter o)) out out s

-- ## The plan wins

-- what side i is after: its own goal for the target, or the opposite goal for the other states
abbrev pub aim : Side → Goal → Goal
aim one o = o
aim two o = swap_goal o

abbrev pub ground : Side → Set → Set
ground one A = A
ground two A = compl A

-- the states that a round calls won by side i
abbrev pub won_states : Game → Side → Set
won_states g one = sure_states g
won_states g two = compl (possible_states g)

module _ (g : Game) where
  -- they are those to which the side that hunts surely brings the play, or cannot even perhaps
  won-region : (i : Side) (o : Goal) → goal_of g.objective ≡ o
      → won_states g i ≡ cond (same i (hunter o)) (lower (arena_of g) (block_at g) (hunter o) (prey o (targets g))) (out g o)
  won-region one to_reach e = ap (λ (o : Goal). sure (arena_of g) (block_at g) o (targets g)) e ∙ sure-reach (arena_of g) (block_at g) (targets g)
  won-region one to_stay e = ap (λ (o : Goal). sure (arena_of g) (block_at g) o (targets g)) e ∙ sure_stay (arena_of g) (block_at g) (targets g)
  won-region two to_reach e =
      ap (λ (o : Goal). compl (possible (arena_of g) (block_at g) o (targets g))) e ∙ ap compl (possible-reach (arena_of g) (block_at g) (targets g))
  won-region two to_stay e =
      ap (λ (o : Goal). compl (possible (arena_of g) (block_at g) o (targets g))) e ∙ never_stay (arena_of g) (block_at g) (targets g)

module _ (g : Game) (ok : AcceptedGame g) (p : ℕ → ℕ) (pl : Play (arena_of g) p) where
  -- what the winner's row brings: its goal is met, and until then its own states have a move in the row
  abbrev Won : Side → Goal → Set → (ℕ → ℕ) → Type 0
  Won i o A row = Met (arena_of g).size o A p
      × ((k : ℕ) → Pending o A p k → T (mine (arena_of g) i (p k)) → Advised (arena_of g) (p k) (row (p k)))

  module _ (o : Goal) where
    -- the side that hunts comes to its prey
    hunts : Obeys (arena_of g) (hunter o) (chase_rule g o) p → T (lower (arena_of g) (block_at g) (hunter o) (prey o (targets g)) (p 0))
        → Won (hunter o) to_reach (prey o (targets g)) (chase_rule g o)
    hunts ob h =
        let live = accepted_live g ok in (
          hunted_down (arena_of g) (block_at g) (hunter o) (prey o (targets g)) live (chase_rule g o) (chase_guides g o ok) p pl ob h,
          hunter_advised (arena_of g) (block_at g) (hunter o) (prey o (targets g)) live (chase_rule g o) (chase_guides g o ok) p pl ob h,
        )

    -- the other keeps out of it
    flees : Obeys (arena_of g) (other (hunter o)) (flee_rule g o) p → T (out g o (p 0))
        → Won (other (hunter o)) to_stay (compl (prey o (targets g))) (flee_rule g o)
    flees ob h =
        let P = prey o (targets g) in (
          (λ k. contra (P (p k)) (upper (arena_of g) (block_at g) (hunter o) P (p k))
              (λ x. lower-upper (arena_of g) (block_at g) (hunter o) P (p k) (pl.inside k) (lower-target (arena_of g) (block_at g) (hunter o) P (p k) x))
              (never-caught (arena_of g) (block_at g) (hunter o) P (flee_rule g o) (flee_guides g o ok) p pl ob h k)),
          (λ k _. hunted_advised (arena_of g) (block_at g) (hunter o) P (flee_rule g o) (flee_guides g o ok) p pl ob h k),
        )

  -- a play that follows the rule of side i from a state that is called won by it is won
  won : (i : Side) (o : Goal) → goal_of g.objective ≡ o → T (won_states g i (p 0)) → Obeys (arena_of g) i (rule_of g o i) p
      → Won i (aim i o) (ground i (targets g)) (rule_of g o i)
  won i o e h = go i o (subst (λ (X : Set). T (X (p 0))) (won-region g i o e) h)
    where
      go : (i : Side) (o : Goal) → T (cond (same i (hunter o)) (lower (arena_of g) (block_at g) (hunter o) (prey o (targets g))) (out g o) (p 0))
          → Obeys (arena_of g) i (rule_of g o i) p → Won i (aim i o) (ground i (targets g)) (rule_of g o i)
      go one to_reach h ob = hunts to_reach ob h
      go one to_stay h ob = let r = flees to_stay ob h in ((λ k. rw (not-not (targets g (p k))) at (r.0 k)), r.1)
      go two to_reach h ob = flees to_reach ob h
      go two to_stay h ob = hunts to_stay ob h

-- the plan of the side that wins, from states that are called won by it
pub plan-wins : (g : Game) → AcceptedGame g → (i : Side) (from : Set) → ((s : ℕ) → s < g.states → T (from s) → T (won_states g i s))
    → WinningPlan (arena_of g) i (aim i (goal_of g.objective)) (ground i (targets g)) from (planned (won_by i) g)
unfolding arena_of
plan-wins g ok i from starts =
    let o = goal_of g.objective in
    same-row-wins (arena_of g) i (aim i o) (ground i (targets g)) from (rule_of g o i)
    (record {
      wins = λ p pl s ob. (won g ok p pl i o refl (starts (p 0) (pl.inside 0) s) ob).0;
      advises = λ p pl s ob. (won g ok p pl i o refl (starts (p 0) (pl.inside 0) s) ob).1;
      legal = λ s _. rule-legal g o ok i s;
    })
    (planned (won_by i) g) (λ s l. sym (winner-rule g i s))
