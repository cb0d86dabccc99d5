-- Laws of the border: where a state is open there is a border block, and the known set parts its members.
use Prim.Native.Nat.{ℕ, ◌≤◌, ◌<◌}
use mathlib.Core.Path.{◌≡◌, ap, ap₂, ◌∙◌, subst, sym}
use mathlib.Core.Bool.{not, ◌&&◌}
use native.Mathlib.Omega.{arith}
use lib.Dec.{T, T_not, not_T, eqb, eqb→eq, eqb_refl}
use Rattle.arena.specs.Sets.{Set, compl, some, least}
use Rattle.arena.specs.Arena.{Side, Arena, forced}
use Rattle.arena.specs.Win.{Goal, to_reach, to_stay}
use Rattle.arena.proofs.Tests.{stable, and_intro, and_l, and_r}
use Rattle.arena.proofs.Sets.{Sub, compl-compl, some_intro, some_elim, meets-out, least-some, least-le}
use Rattle.arena.proofs.Passes.{grow-least}
use Rattle.blocks.specs.Blocks.{meets, is_block}
use Rattle.blocks.specs.Round.{meets_step, open_meeting, undecided, into_known, border, border_block}
use Rattle.blocks.specs.Hunt.{hunter, prey, lower, upper}
use Rattle.blocks.proofs.Blocks.{Named, mates, Whole, inside_dual, meets-whole, compl-whole, both_whole}
use Rattle.blocks.proofs.Hunt.{meets_step_mono, lower-target, lower-closed, lower-whole, upper-whole, known-hunter, undecided-hunter}
use Rattle.blocks.proofs.Refine.{meets-upper}

-- ## The border in the hunter's view

module _ (g : Arena) (block : ℕ → ℕ) (i : Side) (A : Set) where
  -- the open blocks that meet side i's forced step to what it surely brings in
  abbrev pub edge : Set
  edge = open_meeting g block (λ s. upper g block i A s && not (lower g block i A s)) (forced g i (lower g block i A))

  -- a block on the edge has members inside the forced step and outside it
  edge-splits : (s : ℕ) → s < g.size → T (edge s)
      → ((t : ℕ) × (t < g.size) × T (mates block s t) × T (forced g i (lower g block i A) t))
      × ((t : ℕ) × (t < g.size) × T (mates block s t) × T (not (forced g i (lower g block i A) t)))
  unfolding meets
  edge-splits s l h =
      let n = g.size in
      let L = lower g block i A in
      let C = forced g i L in
      let m : T (meets n block C s) = search (and_l, and_r) in
      let q : T (not (L s)) = search (and_l, and_r) in (
        meets-out n (mates block s) C m,
        meets-out n (mates block s) (compl C) (stable (meets n block (compl C) s) (λ o. T_not (L s) q (lower-closed g block i A s l
            (rw (compl-compl C) at (rw (← (inside_dual n block (compl C) s)) at (not_T (meets n block (compl C) s) o)))))),
      )

  -- where no block is on the edge, only what is surely brought in may be
  no_edge : (T (some g.size edge) → ⊥) → Sub g.size (upper g block i A) (lower g block i A)
  unfolding upper
  no_edge none =
      let L = lower g block i A in
      grow-least g.size (meets_step g block i) (meets_step_mono g block i) A L (λ s l. lower-target g block i A s) (λ s l y.
      stable (L s) (λ o. none (some_intro g.size edge s l
      (and_intro (upper g block i A s && not (L s)) (meets g.size block (forced g i L) s)
      (and_intro (upper g block i A s) (not (L s)) (meets-upper g block i A s l y) (not_T (L s) o)) y)))) g.size

  -- where the hunter may bring in a state, and not surely, some state is on the edge
  open_edge : (s : ℕ) → s < g.size → T (upper g block i A s && not (lower g block i A s)) → T (some g.size edge)
  open_edge s l h =
      stable (some g.size edge) (λ none.
      T_not (lower g block i A s) (and_r (upper g block i A s) (not (lower g block i A s)) h)
      (no_edge none s l (and_l (upper g block i A s) (not (lower g block i A s)) h)))

-- ## The border of 01

-- b is the lowest-numbered border block
pub record LowestBorder (g : Arena) (block : ℕ → ℕ) (o : Goal) (A : Set) (b : ℕ) : Type 0 where
  pub state : b < g.size
  pub name : block b ≡ b
  pub on_border : T (border g block o A b)
  pub lowest : (s : ℕ) → s < g.size → T (border g block o A s) → b ≤ block s

-- the prey is a union of whole blocks where the target is
prey-whole : (n : ℕ) (block : ℕ → ℕ) (o : Goal) (A : Set) → Whole n block A → Whole n block (prey o A)
prey-whole n block to_reach A a = a
prey-whole n block to_stay A a = compl-whole n block A a

module _ (g : Arena) (block : ℕ → ℕ) (o : Goal) (A : Set) where
  -- the border is the edge of the side that hunts
  border-edge : (s : ℕ) → border g block o A s ≡ edge g block (hunter o) (prey o A) s
  unfolding border
  border-edge s = ap₂ ◌&&◌ (undecided-hunter g block A o s) (ap (λ X. meets g.size block X s) (known-hunter g block A o))

  -- where some state is open there is a border state
  open_border : (s : ℕ) → s < g.size → T (undecided g block o A s) → T (some g.size (border g block o A))
  open_border s l h =
      let w = some_elim g.size (edge g block (hunter o) (prey o A))
      (open_edge g block (hunter o) (prey o A) s l (rw (undecided-hunter g block A o s) at h)) in
      some_intro g.size (border g block o A) w.0 w.1 (rw (border-edge w.0) w.2)

  -- a border block has members in the known set and outside it
  pub border-splits : (s : ℕ) → s < g.size → T (border g block o A s)
      → ((t : ℕ) × (t < g.size) × T (mates block s t) × T (into_known g block o A t))
      × ((t : ℕ) × (t < g.size) × T (mates block s t) × T (not (into_known g block o A t)))
  border-splits s l h = rw (known-hunter g block A o) (edge-splits g block (hunter o) (prey o A) s l (rw (border-edge s) at h))

  -- the open states are whole blocks where the target is
  undecided-whole : Whole g.size block A → Whole g.size block (undecided g block o A)
  undecided-whole a s t ls lt e =
      let i = hunter o in
      let P = prey o A in
      let p = prey-whole g.size block o A a in
      undecided-hunter g block A o s
      ∙ both_whole g.size block (upper g block i P) (compl (lower g block i P)) (upper-whole g block i P p)
      (compl-whole g.size block (lower g block i P) (lower-whole g block i P p)) s t ls lt e
      ∙ sym (undecided-hunter g block A o t)

  -- the border is a union of whole blocks where the target is
  border-whole : Whole g.size block A → Whole g.size block (border g block o A)
  unfolding border
  border-whole a =
      both_whole g.size block (undecided g block o A) (meets g.size block (into_known g block o A)) (undecided-whole a)
      (meets-whole g.size block (into_known g block o A))

  -- where some state is open, the block that 01 names is the lowest-numbered border block
  pub border-block : Named g.size block → Whole g.size block A → (s : ℕ) → s < g.size → T (undecided g block o A s)
      → LowestBorder g block o A (border_block g block o A)
  unfolding border_block
  border-block ok a s l h =
      let w = some_elim g.size (border g block o A) (open_border s l h) in
      let low : block w.0 < g.size = omega (arith, ok.down w.0 w.1) in
      let f = least-some g.size names (some_intro g.size names (block w.0) low (name_in w.0 w.1 w.2)) in
      let b = least g.size names in
      record {
        state = f.0;
        name = eqb→eq (block b) b (and_l (eqb (block b) b) (border g block o A b) f.1);
        on_border = and_r (eqb (block b) b) (border g block o A b) f.1;
        lowest = λ t k x. least-le g.size names (block t) (name_in t k x);
      }
    where
      names : Set
      names b = is_block block b && border g block o A b

      name_in : (t : ℕ) → t < g.size → T (border g block o A t) → T (names (block t))
      name_in t k x =
          and_intro (eqb (block (block t)) (block t)) (border g block o A (block t)) (rw (ok.own t k) (eqb_refl (block t)))
          (subst T (border-whole a t (block t) k (omega (arith, ok.down t k)) (sym (ok.own t k))) x)
