-- Laws of the hunter's view: what it surely brings in, what it may, and how 01's words for both objectives read in it.
use Prim.Native.Nat.{ℕ, suc, zero-le}
use mathlib.Core.Path.{◌≡◌, refl, ap, ◌∙◌, fun_ext}
use mathlib.Core.Bool.{not, ◌&&◌, and_comm}
use native.Mathlib.Omega.{arith}
use lib.Dec.{T}
use Rattle.arena.specs.Sets.{Set, compl, least}
use Rattle.arena.specs.Arena.{Side, one, two, other, Arena, forced}
use Rattle.arena.specs.Win.{Goal, to_reach, to_stay}
use Rattle.arena.specs.Passes.{grow, rank}
use Rattle.arena.proofs.Tests.{contra, not-not}
use Rattle.arena.proofs.Sets.{Sub, compl-compl}
use Rattle.arena.proofs.Passes.{Mono, grow-le, grow-sub, grow-closed, shrink-grow}
use Rattle.arena.proofs.Forced.{forced_mono, forced-other, forced_dual}
use Rattle.arena.proofs.Win.{reach}
use Rattle.blocks.specs.Blocks.{inside, meets}
use Rattle.blocks.specs.Round.{sure, possible, undecided, into_known, entered_sure, left_possible, inside_step, meets_step}
use Rattle.blocks.specs.Hunt.{hunter, prey, lower, upper}
use Rattle.blocks.proofs.Blocks.{Whole, inside-sub, sub-meets, inside_mono, meets_mono, inside_dual, meets_dual, inside-whole, meets-whole, grow-whole}

-- ## One pass

module _ (g : Arena) (block : ℕ → ℕ) (i : Side) where
  -- a block wholly inside the forced-step set has only states that can force the step
  pub inside_step_sound : (X : Set) → Sub g.size (inside_step g block i X) (forced g i X)
  inside_step_sound X = inside-sub g.size block (forced g i X)

  -- from a larger set the blocks inside the forced-step set are no fewer
  pub inside_step_mono : Mono g.size (inside_step g block i)
  inside_step_mono X Y h = inside_mono g.size block (forced g i X) (forced g i Y) (forced_mono g i X Y h)

  -- from a larger set the blocks that meet the forced-step set are no fewer
  pub meets_step_mono : Mono g.size (meets_step g block i)
  meets_step_mono X Y h = meets_mono g.size block (forced g i X) (forced g i Y) (forced_mono g i X Y h)

  -- a state that can force the step lies in a block that meets the forced-step set
  pub meets_step_covers : (X : Set) → Sub g.size (forced g i X) (meets_step g block i X)
  meets_step_covers X = sub-meets g.size block (forced g i X)

  -- what meets the step of side i, seen from outside, is inside the step of its opponent
  pub meets_step_dual : (X : Set) (s : ℕ) → meets_step g block i (compl X) s ≡ not (inside_step g block (other i) X s)
  meets_step_dual X s =
      ap (λ Y. meets g.size block Y s) (fun_ext (forced_dual g i X)) ∙ meets_dual g.size block (forced g (other i) X) s

  -- what is inside the step of side i, seen from outside, meets the step of its opponent
  pub inside_step_dual : (X : Set) (s : ℕ) → inside_step g block i (compl X) s ≡ not (meets_step g block (other i) X s)
  inside_step_dual X s =
      ap (λ Y. inside g.size block Y s) (fun_ext (forced_dual g i X)) ∙ inside_dual g.size block (forced g (other i) X) s

-- ## All passes

module _ (g : Arena) (block : ℕ → ℕ) (i : Side) (A : Set) where
  -- the prey is surely brought in
  pub lower-target : (s : ℕ) → T (A s) → T (lower g block i A s)
  unfolding lower grow
  lower-target s x = grow-le (inside_step g block i) A 0 g.size s zero-le x

  -- what is surely brought in can be forced
  pub lower-reach : Sub g.size (lower g block i A) (reach g i A)
  unfolding lower reach
  lower-reach =
      grow-sub g.size (inside_step g block i) (forced g i) (inside_step_sound g block i) (forced_mono g i) A A (λ s l x. x) g.size

  -- what can be forced may be brought in
  pub reach-upper : Sub g.size (reach g i A) (upper g block i A)
  unfolding upper reach
  reach-upper =
      grow-sub g.size (forced g i) (meets_step g block i) (meets_step_covers g block i) (meets_step_mono g block i) A A (λ s l x. x) g.size

  -- what is surely brought in may be
  pub lower-upper : Sub g.size (lower g block i A) (upper g block i A)
  lower-upper s l x = reach-upper s l (lower-reach s l x)

  -- no further block lies inside the step to what is surely brought in
  pub lower-closed : Sub g.size (inside_step g block i (lower g block i A)) (lower g block i A)
  unfolding lower
  lower-closed = grow-closed g.size (inside_step g block i) (inside_step_mono g block i) A g.size (omega arith)

  -- no further block meets the step to what may be brought in
  pub upper-closed : Sub g.size (meets_step g block i (upper g block i A)) (upper g block i A)
  unfolding upper
  upper-closed = grow-closed g.size (meets_step g block i) (meets_step_mono g block i) A g.size (omega arith)

  -- from outside what side i may bring in, its opponent can force a step that stays outside
  pub never-closed : Sub g.size (compl (upper g block i A)) (forced g (other i) (compl (upper g block i A)))
  never-closed s l x =
      let P = upper g block i A in
      rw (forced-other g i P s) (contra (forced g i P s) (P s) (λ f. upper-closed s l (meets_step_covers g block i P s l f)) x)

  -- what is surely brought in is a union of whole blocks where the prey is
  pub lower-whole : Whole g.size block A → Whole g.size block (lower g block i A)
  unfolding lower
  lower-whole a = grow-whole g.size block (inside_step g block i) (λ X. inside-whole g.size block (forced g i X)) A a g.size

  -- what may be brought in is a union of whole blocks where the prey is
  pub upper-whole : Whole g.size block A → Whole g.size block (upper g block i A)
  unfolding upper
  upper-whole a = grow-whole g.size block (meets_step g block i) (λ X. meets-whole g.size block (forced g i X)) A a g.size

-- ## 01's words in the hunter's view

module _ (g : Arena) (block : ℕ → ℕ) (A : Set) where
  -- reach: sure is what side 1 surely brings into the target
  pub sure-reach : sure g block to_reach A ≡ lower g block one A
  unfolding sure lower
  sure-reach = refl

  -- reach: possible is what side 1 may bring into the target
  pub possible-reach : possible g block to_reach A ≡ upper g block one A
  unfolding possible upper
  possible-reach = refl

  -- stay: sure is what side 2 cannot even perhaps bring out of the target
  pub sure_stay : sure g block to_stay A ≡ compl (upper g block two (compl A))
  unfolding sure upper
  sure_stay = shrink-grow (inside_step g block one) (meets_step g block two) (inside_step_dual g block one) A g.size

  -- stay: possible is what side 2 does not surely bring out of the target
  pub possible_stay : possible g block to_stay A ≡ compl (lower g block two (compl A))
  unfolding possible lower
  possible_stay = shrink-grow (meets_step g block one) (inside_step g block two) (meets_step_dual g block one) A g.size

  -- stay: never is what side 2 surely brings out of the target
  pub never_stay : compl (possible g block to_stay A) ≡ lower g block two (compl A)
  never_stay = rw possible_stay (compl-compl (lower g block two (compl A)))

  -- reach: the pass in which a state entered sure is its rank for side 1 and the target
  pub entered-rank : (s : ℕ) → entered_sure g block A s ≡ suc (rank g.size (inside_step g block one) A s)
  unfolding entered_sure rank
  entered-rank s = refl

  -- stay: the pass in which a state dropped out of possible is its rank for side 2 and the states outside the target
  pub left_rank : (s : ℕ) → left_possible g block A s ≡ suc (rank g.size (inside_step g block two) (compl A) s)
  unfolding left_possible rank
  left_rank s = ap (λ (X : Set). suc (least (suc g.size) X)) (fun_ext (λ k.
      ap (λ (X : Set). not (X s)) (shrink-grow (meets_step g block one) (inside_step g block two) (meets_step_dual g block one) A k)
      ∙ not-not (grow (inside_step g block two) (compl A) k s)))

  -- the set by which a border block is split: the hunter's forced step to what it surely brings in
  pub known-hunter : (o : Goal) → into_known g block o A ≡ forced g (hunter o) (lower g block (hunter o) (prey o A))
  unfolding into_known
  known-hunter to_reach = ap (forced g one) sure-reach
  known-hunter to_stay = ap (forced g two) never_stay

  -- open: the hunter may bring it in, and not surely
  pub undecided-hunter : (o : Goal) (s : ℕ) → undecided g block o A s
      ≡ (upper g block (hunter o) (prey o A) s && not (lower g block (hunter o) (prey o A) s))
  undecided-hunter to_reach s = rw (sure-reach, possible-reach)
  undecided-hunter to_stay s =
      rw (sure_stay, possible_stay)
      (rw (not-not (upper g block two (compl A) s)) (and_comm (not (lower g block two (compl A) s)) (upper g block two (compl A) s)))
