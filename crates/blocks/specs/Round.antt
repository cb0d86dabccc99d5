-- 01, 'One round': for a game g, the present blocks, a goal and a target A.
use Rattle.std.specs.Prelude.{ℕ, suc, not, ◌&&◌}
use Rattle.arena.specs.Sets.{Set, compl, least}
use Rattle.arena.specs.Arena.{Side, one, two, Arena, forced}
use Rattle.arena.specs.Win.{Goal, to_reach, to_stay}
use Rattle.arena.specs.Passes.{grow, shrink}
use Rattle.blocks.specs.Blocks.{inside, meets, is_block}

-- 01, 'One round': reach starts with the target and adds, stay keeps what is in the target and drops; the set after
-- k + 1 passes, since reach's pass 1 is the target and stay's removal pass 1 is what lies outside the target
abbrev pub passes : Goal → (Set → Set) → Set → ℕ → Set
passes to_reach step A k = grow step A k
passes to_stay step A k = shrink step A k

module _ (g : Arena) (block : ℕ → ℕ) where
  -- 01, 'One round': the blocks wholly inside side i's forced-step set of X
  abbrev pub inside_step : Side → Set → Set
  inside_step i X = inside g.size block (forced g i X)

  -- 01, 'One round': the blocks that meet side i's forced-step set of X
  abbrev pub meets_step : Side → Set → Set
  meets_step i X = meets g.size block (forced g i X)

  -- 01, 'One round': the states of X, which is open, whose block meets the set C
  abbrev pub open_meeting : Set → Set → Set
  open_meeting X C s = X s && meets g.size block C s

module _ (g : Arena) (block : ℕ → ℕ) (o : Goal) (A : Set) where
  -- 01, 'One round': sure, after as many passes as there are states, when nothing is added and nothing drops out
  unfoldable pub sure : Set
  sure = passes o (inside_step g block one) A g.size

  -- 01, 'One round': possible
  unfoldable pub possible : Set
  possible = passes o (meets_step g block one) A g.size

  -- 01, 'One round': outside possible is never
  abbrev pub never : Set
  never = compl possible

  -- 01, 'One round': possible but not sure is open
  abbrev pub undecided : Set
  undecided s = possible s && not (sure s)

  -- 01, 'One round': side 1's forced-step set of sure (reach), or side 2's forced-step set of never (stay)
  unfoldable pub into_known : Set
  into_known = go o
    where
      go : Goal → Set
      go to_reach = forced g one sure
      go to_stay = forced g two never

  -- 01, 'One round': a border block is an open block that meets that set
  unfoldable pub border : Set
  border = open_meeting g block undecided into_known

  -- 01, 'One round': the lowest-numbered border block
  unfoldable pub border_block : ℕ
  border_block = least g.size (λ b. is_block block b && border b)

-- 01, 'What is handed back': the pass in which s entered sure, in a reach game; reach's pass 1 is the target
unfoldable pub entered_sure : Arena → (ℕ → ℕ) → Set → ℕ → ℕ
entered_sure g block A s = suc (least (suc g.size) (λ k. passes to_reach (inside_step g block one) A k s))

-- 01, 'What is handed back': the pass in which s dropped out of possible, in a stay game; removal pass 1 is what lies
-- outside the target
unfoldable pub left_possible : Arena → (ℕ → ℕ) → Set → ℕ → ℕ
left_possible g block A s = suc (least (suc g.size) (λ k. not (passes to_stay (meets_step g block one) A k s)))
