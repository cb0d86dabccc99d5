-- What a row of moves does to every play that follows it: a hunter comes to its prey, and a side that is hunted is never caught.
use Prim.Native.Nat.{ℕ, zero, suc, pred, ◌-◌, ◌≤◌, ◌<◌}
use mathlib.Core.Bool.{not, ◌&&◌}
use mathlib.Core.Logic.{inl, inr}
use native.Mathlib.Nat.{le_refl}
use native.Mathlib.Omega.{arith}
use lib.Dec.{T, not_T, ltb→lt}
use Rattle.arena.specs.Sets.{Set, compl}
use Rattle.arena.specs.Arena.{Side, other, Arena, mine, Live, forced}
use Rattle.arena.specs.Play.{Play}
use Rattle.arena.specs.Passes.{rank, nearer}
use Rattle.arena.proofs.Tests.{dec_T, and_intro}
use Rattle.arena.proofs.Passes.{grow-le, rank-le, descent}
use Rattle.arena.proofs.Forced.{Can, forced-out, rank_step, soon}
use Rattle.blocks.specs.Round.{inside_step}
use Rattle.blocks.specs.Hunt.{lower, upper}
use Rattle.blocks.proofs.Hunt.{inside_step_mono, inside_step_sound, never-closed}
use Rattle.arena.specs.Plan.{Obeys, Advised}

-- where side i is told to move from s and can move into X s, the row has such a move
abbrev pub Guides : Arena → Side → Set → (ℕ → Set) → (ℕ → ℕ) → Type 0
Guides g i told X row = (s : ℕ) → s < g.size → T (mine g i s) → T (told s) → Can g (X s) s → Advised g s (row s) × T (X s (row s))

module _ (g : Arena) (i : Side) (told : Set) (X : ℕ → Set) (row : ℕ → ℕ) (guides : Guides g i told X row) (p : ℕ → ℕ) (pl : Play g p) where
  -- where the step is forced, a play that follows the row makes it
  pub obey : Obeys g i row p → (j : ℕ) → T (told (p j)) → T (forced g i (X (p j)) (p j)) → T (X (p j) (p (suc j)))
  obey ob j t h = elim (forced-out g i (X (p j)) (p j) h) [
    | inl a ↦ (let r = guides (p j) (pl.inside j) a.0 t a.1 in rw (ob j a.0 r.0.given) r.1)
    | inr a ↦ a.1 (p (suc j)) (pl.inside (suc j)) (pl.moves j)
  ]

  -- where the step is forced, a state of side i's own has a move in the row
  pub advised : (j : ℕ) → T (told (p j)) → T (forced g i (X (p j)) (p j)) → T (mine g i (p j)) → Advised g (p j) (row (p j))
  advised j t h m = elim (forced-out g i (X (p j)) (p j) h) [
    | inl a ↦ (guides (p j) (pl.inside j) m t a.1).0
    | inr a ↦ absurd (a.0 m)
  ]

-- ## The hunter

module _ (g : Arena) (block : ℕ → ℕ) (i : Side) (P : Set) where
  -- the hunter is told to move where it surely brings the play to its prey and is not there yet
  abbrev pub on_the_way : Set
  on_the_way s = lower g block i P s && not (P s)

  -- it is told to move to what entered in an earlier pass
  abbrev pub earlier : ℕ → Set
  earlier = nearer g.size (inside_step g block i) P

  module _ (live : Live g) (row : ℕ → ℕ) (guides : Guides g i on_the_way earlier row) (p : ℕ → ℕ) (pl : Play g p) (ob : Obeys g i row p) where
    -- from a state surely brought in that is no prey the hunter can force the play nearer
    forces : (j : ℕ) → T (lower g block i P (p j)) → (T (P (p j)) → ⊥) → T (forced g i (earlier (p j)) (p j))
    unfolding lower
    forces j h n = elim (rank_step g i (inside_step g block i) (inside_step_sound g block i) P g.size (p j) (le_refl g.size) (pl.inside j) h) [
      | inl a ↦ absurd (n a)
      | inr c ↦ c
    ]

    -- such a state is one where it is told to move
    on_the_way_lem : (j : ℕ) → T (lower g block i P (p j)) → (T (P (p j)) → ⊥) → T (on_the_way (p j))
    on_the_way_lem j h n = and_intro (lower g block i P (p j)) (not (P (p j))) h (not_T (P (p j)) n)

    -- so the play comes to the prey within one move less than there are states
    pub hunted_down : T (lower g block i P (p 0)) → (m : ℕ) × (m ≤ g.size - 1) × T (P (p m))
    unfolding lower
    hunted_down h =
        let n = g.size in
        let F = inside_step g block i in
        let m = descent n F P p
        (λ j k b x. elim (dec_T (P (p j))) [
          | inl a ↦ inl a
          | inr o ↦ (let y = grow-le F P k n (p j) b x in inr (obey g i on_the_way earlier row guides p pl ob j (on_the_way_lem j y o) (forces j y o)))
        ])
        (pred n) 0 (omega arith) (soon g i F (inside_step_sound g block i) P live (inside_step_mono g block i) n (p 0) (pl.inside 0) h) in
        (m.0, omega arith, m.3)

    -- before it comes there it stays among the states surely brought in
    still_sure : T (lower g block i P (p 0)) → (k : ℕ) → ((j : ℕ) → j < k → T (P (p j)) → ⊥) → T (lower g block i P (p k))
    unfolding lower
    still_sure h zero n = h
    still_sure h (suc k) n =
        let F = inside_step g block i in
        let y = still_sure h k (λ j l. n j (omega arith)) in
        let o = n k (omega arith) in
        let step = obey g i on_the_way earlier row guides p pl ob k (on_the_way_lem k y o) (forces k y o) in
        let falls = ltb→lt (rank g.size F P (p (suc k))) (rank g.size F P (p k)) step in
        let low = (rank-le g.size F P g.size (p k) (le_refl g.size)).1 y in
        (rank-le g.size F P g.size (p (suc k)) (le_refl g.size)).0 (omega arith)

    -- and until then each of the hunter's own states on the play has a move in the row
    pub hunter_advised : T (lower g block i P (p 0)) → (k : ℕ) → ((j : ℕ) → j ≤ k → T (P (p j)) → ⊥)
        → T (mine g i (p k)) → Advised g (p k) (row (p k))
    hunter_advised h k n m =
        let y = still_sure h k (λ j l. n j (omega arith)) in
        let o = n k (le_refl k) in
        advised g i on_the_way earlier row guides p pl k (on_the_way_lem k y o) (forces k y o) m

-- ## The side that is hunted

module _ (g : Arena) (block : ℕ → ℕ) (i : Side) (P : Set) where
  -- the states to which the hunter cannot even perhaps bring the play
  abbrev pub safe : Set
  safe = compl (upper g block i P)

  module _ (row : ℕ → ℕ) (guides : Guides g (other i) safe (λ s. safe) row)
      (p : ℕ → ℕ) (pl : Play g p) (ob : Obeys g (other i) row p) (h : T (safe (p 0))) where
    -- the play stays safe for ever
    pub never-caught : (k : ℕ) → T (safe (p k))
    never-caught zero = h
    never-caught (suc k) =
        let x = never-caught k in
        obey g (other i) safe (λ s. safe) row guides p pl ob k x (never-closed g block i P (p k) (pl.inside k) x)

    -- each own state of the side that is hunted has a move in the row
    pub hunted_advised : (k : ℕ) → T (mine g (other i) (p k)) → Advised g (p k) (row (p k))
    hunted_advised k m =
        let x = never-caught k in
        advised g (other i) safe (λ s. safe) row guides p pl k x (never-closed g block i P (p k) (pl.inside k) x) m
