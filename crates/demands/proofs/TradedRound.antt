-- One round in two arenas with the turns traded and opposite targets: sure and never trade places, the border is the same.
use Prim.Native.Nat.{ℕ, ◌<◌}
use mathlib.Core.Path.{◌≡◌, sym, ap, ap₂, ◌∙◌}
use mathlib.Core.Bool.{not, ◌&&◌, and_comm}
use Rattle.arena.specs.Sets.{Set, compl}
use Rattle.arena.specs.Arena.{Side, one, two, other, Arena}
use Rattle.arena.specs.Win.{Goal, to_reach, to_stay, swap_goal}
use Rattle.arena.proofs.Tests.{not-not}
use Rattle.blocks.specs.Blocks.{is_block}
use Rattle.blocks.specs.Round.{sure, possible, undecided, into_known, border, border_block}
use Rattle.blocks.specs.Hunt.{lower, upper}
use Rattle.blocks.proofs.Hunt.{sure-reach, possible-reach, sure_stay, possible_stay, known-hunter}
use Rattle.demands.proofs.Traded.{Agree, meets_cong, with_turns, forced_traded, lower_traded, upper_traded}
use Rattle.arena.proofs.Least.{least_cong}

module _ (g : Arena) (turn : ℕ → Side) (flipped : (s : ℕ) → s < g.size → turn s ≡ other (g.turn s))
    (block : ℕ → ℕ) (A B : Set) (opposite : Agree g.size B (compl A)) where
  -- outside the one target is the other
  back : Agree g.size (compl B) A
  back t k = ap not (opposite t k) ∙ not-not (A t)

  -- sure is what was never
  pub sure_traded : (o : Goal) → Agree g.size (sure (with_turns g turn) block (swap_goal o) B) (compl (possible g block o A))
  sure_traded to_reach s l =
      ap (λ (X : Set). X s) (sure_stay (with_turns g turn) block B) ∙ ap not (upper_traded g turn flipped one (compl B) A back block s l)
      ∙ ap (λ (X : Set). not (X s)) (sym (possible-reach g block A))
  sure_traded to_stay s l =
      ap (λ (X : Set). X s) (sure-reach (with_turns g turn) block B) ∙ lower_traded g turn flipped two B (compl A) opposite block s l
      ∙ sym (not-not (lower g block two (compl A) s)) ∙ ap (λ (X : Set). not (X s)) (sym (possible_stay g block A))

  -- never is what was sure
  pub possible_traded : (o : Goal) → Agree g.size (possible (with_turns g turn) block (swap_goal o) B) (compl (sure g block o A))
  possible_traded to_reach s l =
      ap (λ (X : Set). X s) (possible_stay (with_turns g turn) block B) ∙ ap not (lower_traded g turn flipped one (compl B) A back block s l)
      ∙ ap (λ (X : Set). not (X s)) (sym (sure-reach g block A))
  possible_traded to_stay s l =
      ap (λ (X : Set). X s) (possible-reach (with_turns g turn) block B) ∙ upper_traded g turn flipped two B (compl A) opposite block s l
      ∙ sym (not-not (upper g block two (compl A) s)) ∙ ap (λ (X : Set). not (X s)) (sym (sure_stay g block A))

  -- open stays open
  pub undecided_traded : (o : Goal) → Agree g.size (undecided (with_turns g turn) block (swap_goal o) B) (undecided g block o A)
  undecided_traded o s l =
      ap₂ (λ x y. x && not y) (possible_traded o s l) (sure_traded o s l)
      ∙ ap (λ x. not (sure g block o A s) && x) (not-not (possible g block o A s))
      ∙ and_comm (not (sure g block o A s)) (possible g block o A s)

  -- the set by which a border block is split is the same
  pub known_traded : (o : Goal) → Agree g.size (into_known (with_turns g turn) block (swap_goal o) B) (into_known g block o A)
  known_traded to_reach s l =
      ap (λ (X : Set). X s) (known-hunter (with_turns g turn) block B to_stay)
      ∙ forced_traded g turn flipped one _ _ (lower_traded g turn flipped one (compl B) A back block) s l
      ∙ ap (λ (X : Set). X s) (sym (known-hunter g block A to_reach))
  known_traded to_stay s l =
      ap (λ (X : Set). X s) (known-hunter (with_turns g turn) block B to_reach)
      ∙ forced_traded g turn flipped two _ _ (lower_traded g turn flipped two B (compl A) opposite block) s l
      ∙ ap (λ (X : Set). X s) (sym (known-hunter g block A to_stay))

  -- the border is the same
  pub border_traded : (o : Goal) → Agree g.size (border (with_turns g turn) block (swap_goal o) B) (border g block o A)
  unfolding border
  border_traded o s l = ap₂ ◌&&◌ (undecided_traded o s l) (meets_cong g.size block _ _ (known_traded o) s)

  -- and so is its lowest-numbered block
  pub border_block_traded : (o : Goal) → border_block (with_turns g turn) block (swap_goal o) B ≡ border_block g block o A
  unfolding border_block
  border_block_traded o = least_cong g.size _ _ (λ b l. ap (λ x. is_block block b && x) (border_traded o b l))
