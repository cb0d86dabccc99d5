-- The lowest good move of a state, as a walk over the moves meets it.
use mathlib.Core.Path.{◌≡◌, refl, sym, ◌∙◌}
use mathlib.Core.Bool.{Bool, true, false, ◌&&◌, cond}
use mathlib.Core.Logic.{◌⊎◌, inl, inr, ⊎_elim}
use Prim.Native.Nat.{ℕ, zero, suc, ◌+◌, ◌≤◌, ◌<◌}
use native.Mathlib.Nat.{not-suc-le-zero}
use native.Mathlib.Numerals.{add-one}
use native.Mathlib.Omega.{arith}
use lib.Dec.{T, eqb, ltb, eqb→eq, ltb→lt, lt→ltb}
use borrow.Author.Tests.{eq-eqb, ne_eqb}
use Rattle.arena.specs.Sets.{Set, some, least}
use Rattle.arena.proofs.Tests.{dec_T, and_intro, and_l, and_r, cond_ind, cond_yes, cond_no}
use Rattle.arena.proofs.Sets.{lt_suc_cases, some_intro, some_elim, meets_in, meets-out}
use Rattle.arena.proofs.Loops.{le_or_lt}
use Rattle.arena.proofs.Least.{least_unique}
use Rattle.game.specs.Game.{turn_at, from_at, to_at, has_move}
use Rattle.game.specs.Ranged.{Ranged}
use Rattle.game.specs.declared.Game.{Game}
use Rattle.arena.specs.Plan.{no_move}
use Rattle.solver.specs.Rules.{successors}
use Rattle.solver.specs.Work.{good_move, lower_of, lowest_good}

module _ (side : ℕ) (chase : Bool) (turn from to row : ℕ → ℕ) where
  -- before the first move there is none
  pub good_none : (s : ℕ) → lowest_good side chase turn from to row 0 s ≡ no_move
  unfolding lowest_good
  good_none s = refl

  -- the state that move k leaves; best, good and v are what the code read and what a call gave
  pub good_more : (k best v : ℕ) (good : Bool) → best ≡ lowest_good side chase turn from to row k (from k)
      → good ≡ good_move chase (row (from k)) (row (to k))
      → v ≡ lower_of best (to k) (eqb (turn (from k)) side && good)
      → v ≡ lowest_good side chase turn from to row (k + 1) (from k)
  unfolding lowest_good
  good_more k best v good p q r = rw (add-one, eq-eqb (from k) (from k) refl) (r ∙ rw (p, q))

  -- every other state keeps what it has
  pub good_same : (k s : ℕ) → (s ≡ from k → ⊥) → lowest_good side chase turn from to row k s ≡ lowest_good side chase turn from to row (k + 1) s
  unfolding lowest_good
  good_same k s ne = rw (add-one, ne_eqb (from k) s (λ e. ne (sym e)))

  -- by rows that hold the same
  pub good_alike : (turn₁ from₁ to₁ : ℕ → ℕ) (m s : ℕ) → turn s ≡ turn₁ s → ((k : ℕ) → k < m → from k ≡ from₁ k) → ((k : ℕ) → k < m → to k ≡ to₁ k)
      → lowest_good side chase turn from to row m s ≡ lowest_good side chase turn₁ from₁ to₁ row m s
  unfolding lowest_good
  good_alike turn₁ from₁ to₁ zero s a b c = refl
  good_alike turn₁ from₁ to₁ (suc m) s a b c =
      rw (good_alike turn₁ from₁ to₁ m s a (λ k l. b k (omega arith)) (λ k l. c k (omega arith)), a, b m (omega arith), c m (omega arith)) refl

-- ## The walk finds the lowest successor that is good

module _ (g : Game) (ok : Ranged g) (side : ℕ) (chase : Bool) (row : ℕ → ℕ) (s : ℕ) where
  -- move j is a good one of s, and s is the side's
  good : ℕ → Bool
  good j = eqb (from_at g j) s && (eqb (turn_at g s) side && good_move chase (row s) (row (to_at g j)))

  best : ℕ → ℕ
  best k = lowest_good side chase (turn_at g) (from_at g) (to_at g) row k s

  -- one move more, if it is good, is taken where it is lower
  best-more : (k : ℕ) → best (suc k) ≡ cond (good k) (cond (ltb (to_at g k) (best k)) (to_at g k) (best k)) (best k)
  unfolding best good lowest_good lower_of
  best-more k = go (eqb (from_at g k) s) (eqb (turn_at g s) side && good_move chase (row s) (row (to_at g k)))
    where
      go : (a b : Bool) → cond a (cond b (cond (ltb (to_at g k) (best k)) (to_at g k) (best k)) (best k)) (best k)
          ≡ cond (a && b) (cond (ltb (to_at g k) (best k)) (to_at g k) (best k)) (best k)
      go true b = refl
      go false b = refl

  -- what is found after k moves is not above any good one of them, and is one of them, if there is one
  Found : ℕ → ℕ → Type 0
  Found k v = ((j : ℕ) → j < k → T (good j) → v ≤ to_at g j) × ((v ≡ no_move) ⊎ ((j : ℕ) × (j < k) × T (good j) × (v ≡ to_at g j)))

  found : (k : ℕ) → Found k (best k)
  unfolding best Found lowest_good
  found zero = ((λ j l x. absurd (not-suc-le-zero l)), inl refl)
  found (suc k) = rw (best-more k) (cond_ind (Found (suc k)) (good k) _ _ (λ fine. taken fine (found k)) (λ bad. passed bad (found k)))
    where
      -- a move that is no good changes nothing
      passed : (T (good k) → ⊥) → Found k (best k) → Found (suc k) (best k)
      passed bad f = (
        (λ j l x. elim (lt_suc_cases j k l) [ inl e ↦ absurd (bad (rw e at x)) | inr b ↦ f.0 j b x ]),
        elim f.1 [ inl e ↦ inl e | inr w ↦ inr (w.0, omega (arith, w.1), w.2, w.3) ],
      )

      taken : T (good k) → Found k (best k) → Found (suc k) (cond (ltb (to_at g k) (best k)) (to_at g k) (best k))
      taken fine f =
          cond_ind (Found (suc k)) (ltb (to_at g k) (best k)) _ _
          (λ lower. let under = ltb→lt (to_at g k) (best k) lower in (
            (λ j l x. elim (lt_suc_cases j k l) [ inl e ↦ rw e (omega arith) | inr b ↦ omega (arith, f.0 j b x) ]),
            inr (k, omega arith, fine, refl),
          ))
          (λ above. let b = not-below (to_at g k) (best k) above in (
            (λ j l x. elim (lt_suc_cases j k l) [ inl e ↦ rw e b | inr b ↦ f.0 j b x ]),
            elim f.1 [ inl e ↦ inl e | inr w ↦ inr (w.0, omega (arith, w.1), w.2, w.3) ],
          ))
        where
          not-below : (a b : ℕ) → (T (ltb a b) → ⊥) → b ≤ a
          not-below a b above = ⊎_elim (λ (h : b ≤ a). h) (λ (h : a < b). absurd (above (lt→ltb a b h))) (le_or_lt b a)

  -- a good move leads to a good successor, and each good successor has such a move
  good_out : (Y : Set) → ((t : ℕ) → Y t ≡ good_move chase (row s) (row t)) → (j : ℕ) → j < g.moves → T (good j)
      → T (eqb (turn_at g s) side) × T (successors g s Y (to_at g j))
  unfolding good has_move
  good_out Y y j l x =
      let from = and_l (eqb (from_at g j) s) (eqb (turn_at g s) side && good_move chase (row s) (row (to_at g j))) x in
      let rest = and_r (eqb (from_at g j) s) (eqb (turn_at g s) side && good_move chase (row s) (row (to_at g j))) x in (
        and_l (eqb (turn_at g s) side) (good_move chase (row s) (row (to_at g j))) rest,
        and_intro (has_move g s (to_at g j)) (Y (to_at g j))
            (meets_in g.moves (λ k. eqb (from_at g k) s) (λ k. eqb (to_at g k) (to_at g j)) j l from (rw (eq-eqb (to_at g j) (to_at g j) refl) tt))
            (rw (y (to_at g j)) (and_r (eqb (turn_at g s) side) (good_move chase (row s) (row (to_at g j))) rest)),
      )

  good_in : (Y : Set) → ((t : ℕ) → Y t ≡ good_move chase (row s) (row t)) → T (eqb (turn_at g s) side) → (t : ℕ) → T (successors g s Y t)
      → (j : ℕ) × (j < g.moves) × T (good j) × (to_at g j ≡ t)
  unfolding good has_move
  good_in Y y turn t x =
      let w = meets-out g.moves (λ k. eqb (from_at g k) s) (λ k. eqb (to_at g k) t) (and_l (has_move g s t) (Y t) x) in
      let e = eqb→eq (to_at g w.0) t w.3 in (
        w.0,
        w.1,
        and_intro (eqb (from_at g w.0) s) (eqb (turn_at g s) side && good_move chase (row s) (row (to_at g w.0))) w.2
            (and_intro (eqb (turn_at g s) side) (good_move chase (row s) (row (to_at g w.0))) turn
            (rw e (rw (y t) at (and_r (has_move g s t) (Y t) x)))),
        e,
      )

  -- what the walk leaves at s: its lowest-numbered good successor, if it is the side's and has one
  pub walked : (Y : Set) → ((t : ℕ) → Y t ≡ good_move chase (row s) (row t)) → lowest_good side chase (turn_at g) (from_at g) (to_at g) row g.moves s
      ≡ cond (eqb (turn_at g s) side && some g.states (successors g s Y)) (least g.states (successors g s Y)) no_move
  unfolding best Found
  walked Y y = elim (dec_T (eqb (turn_at g s) side && some g.states (successors g s Y))) [
    | inl fine ↦ rw (cond_yes (eqb (turn_at g s) side && some g.states (successors g s Y)) (least g.states (successors g s Y)) no_move fine)
        (here (and_l (eqb (turn_at g s) side) (some g.states (successors g s Y)) fine) (and_r (eqb (turn_at g s) side) (some g.states (successors g s Y)) fine) (found g.moves))
    | inr none ↦ rw (cond_no (eqb (turn_at g s) side && some g.states (successors g s Y)) (least g.states (successors g s Y)) no_move none)
        (nowhere none (found g.moves))
  ]
    where
      v : ℕ
      v = lowest_good side chase (turn_at g) (from_at g) (to_at g) row g.moves s

      nowhere : (T (eqb (turn_at g s) side && some g.states (successors g s Y)) → ⊥) → Found g.moves v → v ≡ no_move
      nowhere none f = elim f.1 [
        | inl e ↦ e
        | inr w ↦ absurd (let o = good_out Y y w.0 w.1 w.2 in
            none (and_intro (eqb (turn_at g s) side) (some g.states (successors g s Y)) o.0
            (some_intro g.states (successors g s Y) (to_at g w.0) (ok.to-state w.0 w.1) o.1)))
      ]

      here : T (eqb (turn_at g s) side) → T (some g.states (successors g s Y)) → Found g.moves v → v ≡ least g.states (successors g s Y)
      here turn fine f =
          let w = some_elim g.states (successors g s Y) fine in
          let j = good_in Y y turn w.0 w.2 in
          let few = ok.few-states in
          let small : v < no_move = omega (arith, f.0 j.0 j.1 j.2, ok.to-state j.0 j.1) in
          elim f.1 [
            | inl e ↦ absurd (omega arith)
            | inr u ↦ sym (least_unique g.states (successors g s Y) v
                (rw u.3 (ok.to-state u.0 u.1))
                (rw u.3 (good_out Y y u.0 u.1 u.2).1)
                (λ t l x. let i = good_in Y y turn t x in rw i.3 at (f.0 i.0 i.1 i.2)))
          ]
