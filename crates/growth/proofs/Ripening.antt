-- Blocks that are ripe join one after the other.
use mathlib.Core.Path.{◌≡◌, refl, sym, ap, ◌∙◌}
use mathlib.Core.Bool.{Bool, true, false, ◌&&◌, ◌||◌}
use mathlib.Core.List.{List}
use Prim.Native.Nat.{ℕ, ◌+◌, ◌≤◌, ◌<◌}
use native.Mathlib.Decide.{ℕ_discrete}
use native.Mathlib.Omega.{arith}
use lib.ListN.{length, get_or}
use lib.Dec.{eqb, ltb, lt→ltb, ltb→lt}
use borrow.Author.Tests.{eq-eqb, ne_eqb}
use Rattle.arena.specs.Sets.{Set}
use Rattle.arena.proofs.Tests.{T_ext, is_true, is_false}
use Rattle.growth.specs.Stamp.{pass_at, pass_no}
use Rattle.growth.specs.Queue.{Listed, Joined}
use Rattle.chains.proofs.Counts.{holds_cong}
use Rattle.growth.proofs.Queue.{pass_kept}
use Rattle.growth.proofs.Moving.{pass_twice}

-- ## States that join

module _ {n number : ℕ} where
  -- none
  pub joined-none : {J : Set} {row queue : List ℕ} {tail : ℕ} → n ≤ length row → Listed n row queue tail → ((s : ℕ) → s < n → J s ≡ false) → Joined n J number row queue tail row queue tail
  joined-none {J} {row} long listed none = record {
    stamped = record { long = long; cell = λ s l. rw (none s l) (pass_kept (pass_at row s) number) };
    listed = listed;
    more = omega arith;
    alike = λ i _. refl;
  }

  module _ {J : Set} {row₀ queue₀ : List ℕ} {tail₀ : ℕ} {row₁ queue₁ : List ℕ} {tail₁ : ℕ} (first : Joined n J number row₀ queue₀ tail₀ row₁ queue₁ tail₁) where
    -- the same ones, by another test
    pub joined_same : {L : Set} → ((s : ℕ) → s < n → J s ≡ L s) → Joined n L number row₀ queue₀ tail₀ row₁ queue₁ tail₁
    joined_same same = record {
      stamped = holds_cong first.stamped (λ s l. ap (λ (x : Bool). pass_no (pass_at row₀ s) x number) (same s l));
      listed = first.listed;
      more = first.more;
      alike = first.alike;
    }

    -- and then others
    pub joined_then : {K L : Set} {row₂ queue₂ : List ℕ} {tail₂ : ℕ} → 1 ≤ number → Joined n K number row₁ queue₁ tail₁ row₂ queue₂ tail₂ → ((s : ℕ) → s < n → (J s || K s) ≡ L s)
        → Joined n L number row₀ queue₀ tail₀ row₂ queue₂ tail₂
    joined_then {K} Some-number second either = record {
      stamped = record {
        long = second.stamped.long;
        cell = λ s l. second.stamped.cell s l ∙ ap (λ (v : ℕ). pass_no v (K s) number) (first.stamped.cell s l)
            ∙ pass_twice (pass_at row₀ s) (J s) (K s) number Some-number ∙ ap (λ (x : Bool). pass_no (pass_at row₀ s) x number) (either s l);
      };
      listed = second.listed;
      more = omega (arith, first.more, second.more);
      alike = λ i l. second.alike i (omega (arith, first.more)) ∙ first.alike i l;
    }

-- ## One block after the other

-- the states of ripe blocks whose number is below b
abbrev pub ripe_below : Set → List ℕ → ℕ → Set
ripe_below R block b s = R (get_or block s 0) && ltb (get_or block s 0) b

module _ (R : Set) (block : List ℕ) where
  and_no : (x : Bool) → (x && false) ≡ false
  and_no true = refl
  and_no false = refl

  -- the first and the next
  pub below_none : (s : ℕ) → ripe_below R block 0 s ≡ false
  below_none s = rw (is_false (ltb (get_or block s 0) 0) (λ h. let z = ltb→lt (get_or block s 0) 0 h in absurd (omega arith))) (and_no (R (get_or block s 0)))

  others : (b c : ℕ) → (c ≡ b → ⊥) → ltb c b ≡ ltb c (b + 1)
  others b c ne = T_ext _ _ (λ h. lt→ltb c (b + 1) (let z = ltb→lt c b h in omega arith)) (λ h. lt→ltb c b (close (ltb→lt c (b + 1) h)))
    where
      close : c < b + 1 → c < b
      close z = elim (ℕ_discrete c b) [ yes e ↦ absurd (ne e) | no o ↦ omega arith ]

  not-below : (b : ℕ) → ltb b b ≡ false
  not-below b = is_false (ltb b b) (λ h. let z = ltb→lt b b h in absurd (omega arith))

  below_now : (b : ℕ) → ltb b (b + 1) ≡ true
  below_now b = is_true (ltb b (b + 1)) (lt→ltb b (b + 1) (omega arith))

  pub below_more : (b s : ℕ) → R b ≡ true → (ripe_below R block b s || eqb b (get_or block s 0)) ≡ ripe_below R block (b + 1) s
  below_more b s ripe = go (get_or block s 0)
    where
      or_no : (x : Bool) → (x || false) ≡ x
      or_no true = refl
      or_no false = refl

      go : (c : ℕ) → ((R c && ltb c b) || eqb b c) ≡ (R c && ltb c (b + 1))
      go c = elim (ℕ_discrete c b) [
        | yes e ↦ rw e (rw (ripe, not-below b, below_now b, eq-eqb b b refl) refl)
        | no ne ↦ rw (ne_eqb b c (λ z. ne (sym z)), ← others b c ne) (or_no (R c && ltb c b))
      ]

  pub below-same : (b s : ℕ) → R b ≡ false → ripe_below R block b s ≡ ripe_below R block (b + 1) s
  below-same b s raw = go (get_or block s 0)
    where
      go : (c : ℕ) → (R c && ltb c b) ≡ (R c && ltb c (b + 1))
      go c = elim (ℕ_discrete c b) [
        | yes e ↦ rw e (rw raw refl)
        | no ne ↦ rw (others b c ne) refl
      ]
