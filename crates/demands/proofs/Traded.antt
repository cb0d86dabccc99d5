-- Two arenas with the turns traded: what a side forces in the one, its opponent forces in the other, with the same blocks.
use Prim.Native.Nat.{ℕ, zero, suc, ◌<◌}
use mathlib.Core.Path.{◌≡◌, refl, sym, ap, ap₂, ◌∙◌, fun_ext}
use mathlib.Core.Bool.{not, ◌&&◌, ◌||◌, cond}
use lib.Dec.{eqb}
use Rattle.arena.specs.Sets.{Set, compl, imp, some, every, least}
use Rattle.arena.specs.Arena.{Side, one, two, other, same, Arena, mine, forced}
use Rattle.arena.specs.Win.{Goal, to_reach, to_stay, swap_goal}
use Rattle.arena.specs.Passes.{grow, rank}
use Rattle.arena.proofs.Tests.{not-not}
use Rattle.arena.proofs.Loops.{some_cong, every_cong}
use Rattle.arena.proofs.Win.{reach, hold, region}
use Rattle.blocks.specs.Blocks.{inside, meets}
use Rattle.blocks.specs.Round.{inside_step, meets_step}
use Rattle.blocks.specs.Hunt.{lower, upper}

-- ## Sets that agree below n

-- X and Y have the same members below n
abbrev pub Agree : ℕ → Set → Set → Type 0
Agree n X Y = (s : ℕ) → s < n → X s ≡ Y s

-- they have the same blocks inside
pub inside_cong : (n : ℕ) (block : ℕ → ℕ) (X Y : Set) → Agree n X Y → (s : ℕ) → inside n block X s ≡ inside n block Y s
unfolding inside
inside_cong n block X Y h s = every_cong n _ _ (λ t l. ap (imp (eqb (block t) (block s))) (h t l))

-- they meet the same blocks
pub meets_cong : (n : ℕ) (block : ℕ → ℕ) (X Y : Set) → Agree n X Y → (s : ℕ) → meets n block X s ≡ meets n block Y s
unfolding meets
meets_cong n block X Y h s = some_cong n _ _ (λ t l. ap (λ b. eqb (block t) (block s) && b) (h t l))

-- steps that agree on sets that agree grow them alike
pub grow_cong : (n : ℕ) (F G : Set → Set) → ((X Y : Set) → Agree n X Y → Agree n (F X) (G Y)) → (A B : Set) → Agree n A B
    → (k : ℕ) → Agree n (grow F A k) (grow G B k)
unfolding grow
grow_cong n F G fg A B ab zero s l = ab s l
grow_cong n F G fg A B ab (suc k) s l =
    let ih = grow_cong n F G fg A B ab k in
    ap₂ ◌||◌ (ih s l) (fg (grow F A k) (grow G B k) ih s l)

-- ## What is forced

-- the arena with other turns
abbrev pub with_turns : Arena → (ℕ → Side) → Arena
with_turns g turn = record { size = g.size; turn = turn; move = g.move }

-- the same side: both are, or both are not
same_both : (i j : Side) → same (other i) (other j) ≡ same i j
same_both one one = refl
same_both one two = refl
same_both two one = refl
same_both two two = refl

module _ (g : Arena) (turn : ℕ → Side) (flipped : (s : ℕ) → s < g.size → turn s ≡ other (g.turn s)) where
  -- a side has the states that its opponent had
  pub mine_traded : (i : Side) (s : ℕ) → s < g.size → mine (with_turns g turn) (other i) s ≡ mine g i s
  mine_traded i s l = ap (same (other i)) (flipped s l) ∙ same_both i (g.turn s)

  -- and forces the steps that its opponent did
  pub forced_traded : (i : Side) (X Y : Set) → Agree g.size X Y → Agree g.size (forced (with_turns g turn) (other i) X) (forced g i Y)
  unfolding forced
  forced_traded i X Y h s l =
      ap (λ b. cond b (some g.size (λ t. g.move s t && X t)) (every g.size (λ t. imp (g.move s t) (X t)))) (mine_traded i s l)
      ∙ ap₂ (cond (mine g i s)) (some_cong g.size _ _ (λ t k. ap (λ b. g.move s t && b) (h t k)))
      (every_cong g.size _ _ (λ t k. ap (imp (g.move s t)) (h t k)))

  module _ (i : Side) (A B : Set) (ab : Agree g.size A B) where
    -- it reaches what its opponent did
    pub reach_traded : Agree g.size (reach (with_turns g turn) (other i) A) (reach g i B)
    unfolding reach
    reach_traded = grow_cong g.size (forced (with_turns g turn) (other i)) (forced g i) (forced_traded i) A B ab g.size

    module _ (block : ℕ → ℕ) where
      -- the blocks inside its forced steps are those inside its opponent's
      inside_traded : (X Y : Set) → Agree g.size X Y → Agree g.size (inside_step (with_turns g turn) block (other i) X) (inside_step g block i Y)
      inside_traded X Y h s l = inside_cong g.size block _ _ (forced_traded i X Y h) s

      -- the blocks that meet its forced steps are those that met its opponent's
      meets_traded : (X Y : Set) → Agree g.size X Y → Agree g.size (meets_step (with_turns g turn) block (other i) X) (meets_step g block i Y)
      meets_traded X Y h s l = meets_cong g.size block _ _ (forced_traded i X Y h) s

      -- it surely brings in what its opponent did
      pub lower_traded : Agree g.size (lower (with_turns g turn) block (other i) A) (lower g block i B)
      unfolding lower
      lower_traded = grow_cong g.size (inside_step (with_turns g turn) block (other i)) (inside_step g block i) inside_traded A B ab g.size

      -- it may bring in what its opponent might
      pub upper_traded : Agree g.size (upper (with_turns g turn) block (other i) A) (upper g block i B)
      unfolding upper
      upper_traded = grow_cong g.size (meets_step (with_turns g turn) block (other i)) (meets_step g block i) meets_traded A B ab g.size

      -- states enter in the same passes
      pub rank_traded : (s : ℕ) → s < g.size
          → rank g.size (inside_step (with_turns g turn) block (other i)) A s ≡ rank g.size (inside_step g block i) B s
      unfolding rank
      rank_traded s l = ap (least (suc g.size)) (fun_ext (λ k.
          grow_cong g.size (inside_step (with_turns g turn) block (other i)) (inside_step g block i) inside_traded A B ab k s l))

  -- where the targets are opposite too, side 1 has for the opposite goal the states outside its region
  pub region_traded : (o : Goal) (A B : Set) → Agree g.size B (compl A)
      → (s : ℕ) → s < g.size → region (with_turns g turn) one (swap_goal o) B s ≡ not (region g one o A s)
  unfolding hold
  region_traded to_reach A B h s l =
      ap not (reach_traded one (compl B) A (λ t k. ap not (h t k) ∙ not-not (A t)) s l)
  region_traded to_stay A B h s l =
      reach_traded two B (compl A) h s l ∙ sym (not-not (reach g two (compl A) s))
