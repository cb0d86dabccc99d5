-- Laws of the split: names stay the lowest members, new blocks lie in old ones, and there is one block more.
use Prim.Native.Nat.{ℕ, zero, suc, ◌+◌, ◌≤◌, ◌<◌}
use mathlib.Core.Path.{◌≡◌, refl, sym, ap, ap₂, ◌∙◌}
use mathlib.Core.Bool.{not, ◌&&◌, beq, Bool-discrete}
use mathlib.Core.Logic.{◌⊎◌, inl, inr}
use native.Mathlib.Nat.{le_antisymm, lt-suc_self, not-suc-le-zero}
use native.Mathlib.Omega.{arith}
use lib.Dec.{T, T_not, eqb, eqb→eq, eqb_refl}
use borrow.Author.Tests.{eq-eqb, ne_eqb}
use Rattle.arena.specs.Sets.{Set, bit, count, least}
use Rattle.arena.proofs.Tests.{dec_T, is_true, is_false, beq_refl, beq→eq, opposite, and_intro, and_l, and_r}
use Rattle.arena.proofs.Sets.{lt_suc_cases, least_in, least-le, count-le}
use Rattle.blocks.specs.Blocks.{part, is_block, block_count, split}
use Rattle.blocks.proofs.Blocks.{Named}

-- ## Names and members of the new blocks

module _ (n : ℕ) (block : ℕ → ℕ) (b : ℕ) (C : Set) where
  -- the lowest member of a part is no higher than s, lies in block b, and lies in C alike with s
  part-name : (s : ℕ) → s < n → block s ≡ b
      → (least n (part block b C s) ≤ s) × (block (least n (part block b C s)) ≡ b) × (C (least n (part block b C s)) ≡ C s)
  part-name s l e =
      let m : T (part block b C s s) = and_intro (eqb (block s) b) (beq (C s) (C s)) (rw e (eqb_refl b)) (beq_refl (C s)) in
      let r = least n (part block b C s) in
      let h = least_in n (part block b C s) s l m in (
        least-le n (part block b C s) s m,
        eqb→eq (block r) b (and_l (eqb (block r) b) (beq (C r) (C s)) h),
        beq→eq (C r) (C s) (and_r (eqb (block r) b) (beq (C r) (C s)) h),
      )

  -- a state of block b gets the name of its part
  pub split_in : (s : ℕ) → block s ≡ b → split n block b C s ≡ least n (part block b C s)
  unfolding split
  split_in s e = rw (eq-eqb (block s) b e)

  -- a state of another block keeps its block
  pub split-out : (s : ℕ) → (block s ≡ b → ⊥) → split n block b C s ≡ block s
  unfolding split
  split-out s o = rw (ne_eqb (block s) b o)

  -- a state is in block b or in another one
  in_or_out : (s : ℕ) → (block s ≡ b) ⊎ (block s ≡ b → ⊥)
  in_or_out s = elim (dec_T (eqb (block s) b)) [ inl h ↦ inl (eqb→eq (block s) b h) | inr o ↦ inr (λ e. o (rw e (eqb_refl b))) ]

  module _ (ok : Named n block) where
    -- the name of a new block lies in the old block of its members
    pub split_mate : (s : ℕ) → s < n → block (split n block b C s) ≡ block s
    split_mate s l = elim (in_or_out s) [
      | inl e ↦ rw (split_in s e) ((part-name s l e).1 ∙ sym e)
      | inr o ↦ rw (split-out s o) (ok.own s l)
    ]

    -- states of one new block were in one old block
    pub split_finer : (s t : ℕ) → s < n → t < n → split n block b C s ≡ split n block b C t → block s ≡ block t
    split_finer s t ls lt e = sym (split_mate s ls) ∙ ap block e ∙ split_mate t lt

    -- the new blocks are named by their lowest members
    pub split-named : Named n (split n block b C)
    split-named = record {
      down = λ s l. elim (in_or_out s) [
        | inl e ↦ rw (split_in s e) (part-name s l e).0
        | inr o ↦ rw (split-out s o) (ok.down s l)
      ];
      own = λ s l. elim (in_or_out s) [
        | inl e ↦ (let h = part-name s l e in
            rw (split_in s e) (split_in (least n (part block b C s)) h.1 ∙ ap (λ c. least n (λ t. eqb (block t) b && beq (C t) c)) h.2))
        | inr o ↦ rw (split-out s o) (split-out (block s) (λ e. o (sym (ok.own s l) ∙ e)) ∙ ok.own s l)
      ];
    }

-- ## One block more

-- sets that agree below n have as many members there
pub count_cong : (n : ℕ) (X Y : Set) → ((s : ℕ) → s < n → X s ≡ Y s) → count n X ≡ count n Y
unfolding count
count_cong zero X Y h = refl
count_cong (suc n) X Y h = ap₂ (λ a c. c + bit a) (h n (lt-suc_self n)) (count_cong n X Y (λ s l. h s (omega arith)))

-- a set that has just one member more has one more
pub count-one-more : (n : ℕ) (X Y : Set) (r : ℕ) → r < n → T (not (X r)) → T (Y r)
    → ((s : ℕ) → s < n → (s ≡ r → ⊥) → X s ≡ Y s) → count n Y ≡ suc (count n X)
unfolding count
count-one-more zero X Y r l x y h = absurd (not-suc-le-zero l)
count-one-more (suc n) X Y r l x y h = elim (lt_suc_cases r n l) [
  | inl e ↦ (let c = count_cong n X Y (λ s m. h s (omega arith) (λ q. omega arith)) in
      let a = ap bit (is_true (Y n) (rw e at y)) in
      let d = ap bit (is_false (X n) (T_not (X n) (rw e at x))) in omega arith)
  | inr m ↦ (let c = count-one-more n X Y r m x y (λ s k. h s (omega arith)) in
      let a = ap bit (h n (lt-suc_self n) (λ q. omega arith)) in omega arith)
]

module _ (n : ℕ) (block : ℕ → ℕ) (ok : Named n block) (b : ℕ) (C : Set) where
  -- a member that lies in C unlike the lowest one brings one block more
  parted : (t : ℕ) → t < n → block t ≡ b → (C t ≡ C b → ⊥) → block_count n (split n block b C) ≡ suc (block_count n block)
  unfolding block_count
  parted t l e d =
      count-one-more n (is_block block) (is_block (split n block b C)) r (omega (arith, h))
      (rw (ne_eqb (block r) r (λ q. r≢b (sym q ∙ h.1))) tt)
      (rw (split_in n block b C r h.1, same-part r h.2) (eqb_refl r))
      others
    where
      r : ℕ
      r = least n (part block b C t)

      h : (r ≤ t) × (block r ≡ b) × (C r ≡ C t)
      h = part-name n block b C t l e

      b_own : block b ≡ b
      b_own = rw e at (ok.own t l)

      r≢b : r ≡ b → ⊥
      r≢b q = d (sym h.2 ∙ ap C q)

      same-part : (s : ℕ) → C s ≡ C t → least n (part block b C s) ≡ r
      same-part s q = ap (λ c. least n (λ u. eqb (block u) b && beq (C u) c)) q

      to_b : (s : ℕ) → s < n → block s ≡ b → C s ≡ C b → least n (part block b C s) ≡ b
      to_b s k es c =
          let x = part-name n block b C s k es in
          let low = ok.down (least n (part block b C s)) (omega arith) in
          le_antisymm
          (least-le n (part block b C s) b (and_intro (eqb (block b) b) (beq (C b) (C s)) (rw b_own (eqb_refl b)) (rw c (beq_refl (C b)))))
          (rw x.1 at low)

      others : (s : ℕ) → s < n → (s ≡ r → ⊥) → is_block block s ≡ is_block (split n block b C) s
      others s k o = elim (in_or_out n block b C s) [
        | inr out ↦ rw (split-out n block b C s out)
        | inl es ↦ elim (Bool-discrete (C s) (C b)) [
          | yes like ↦ rw (split_in n block b C s es, to_b s k es like, es)
          | no un ↦ rw (split_in n block b C s es, same-part s (opposite (C s) (C b) un ∙ sym (opposite (C t) (C b) d)), es)
              (ne_eqb b s (λ q. un (ap C (sym q))) ∙ sym (ne_eqb r s (λ q. o (sym q))))
        ]
      ]

  -- where block b has members in C and outside it, the split makes one block more
  pub split-count : (s t : ℕ) → s < n → t < n → block s ≡ b → block t ≡ b → T (C s) → T (not (C t))
      → block_count n (split n block b C) ≡ suc (block_count n block)
  split-count s t ls lt es et cs ct = elim (dec_T (C b)) [
    | inl y ↦ parted t lt et (λ q. T_not (C t) ct (rw q y))
    | inr o ↦ parted s ls es (λ q. o (rw q at cs))
  ]

-- there are no more blocks than states
pub block_count-le : (n : ℕ) (block : ℕ → ℕ) → block_count n block ≤ n
unfolding block_count
block_count-le n block = count-le n (is_block block)
