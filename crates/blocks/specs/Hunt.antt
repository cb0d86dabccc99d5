-- Both objectives seen from the side that hunts: one view for reach and for stay, by which the code works. Nothing that
-- is promised is stated in these terms; proofs/ has the laws that tie them to 01's words.
use Rattle.std.specs.Prelude.{ℕ}
use Rattle.arena.specs.Sets.{Set, compl}
use Rattle.arena.specs.Arena.{Side, one, two, Arena}
use Rattle.arena.specs.Win.{Goal, to_reach, to_stay}
use Rattle.arena.specs.Passes.{grow}
use Rattle.blocks.specs.Round.{inside_step, meets_step}

-- 000, section 4.2: who wants to bring the play somewhere: side 1 to the target, side 2 out of it
abbrev pub hunter : Goal → Side
hunter to_reach = one
hunter to_stay = two

-- 000, section 4.2: where to: the target, or the states outside it
abbrev pub prey : Goal → Set → Set
prey to_reach A = A
prey to_stay A = compl A

module _ (g : Arena) (block : ℕ → ℕ) (i : Side) where
  -- what side i surely brings into A, and what it may
  unfoldable pub lower : Set → Set
  lower A = grow (inside_step g block i) A g.size

  unfoldable pub upper : Set → Set
  upper A = grow (meets_step g block i) A g.size
