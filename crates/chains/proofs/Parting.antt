-- The members of one block, linked anew.
use mathlib.Core.Path.{◌≡◌, refl, sym, ◌∙◌}
use mathlib.Core.Bool.{Bool, true, false, ◌&&◌}
use mathlib.Core.List.{List}
use Prim.Native.Nat.{ℕ, zero, suc, ◌+◌, ◌≤◌, ◌<◌}
use native.Mathlib.Nat.{add-zero, lt-suc_self}
use native.Mathlib.Decide.{ℕ_discrete}
use native.Mathlib.Numerals.{add-one}
use native.Mathlib.Omega.{arith}
use lib.ListN.{length, get_or, set}
use lib.Dec.{eqb, ltb, ltb→lt, lt→ltb}
use borrow.Author.Tests.{eq-eqb, ne_eqb}
use Rattle.arena.specs.Sets.{count, bit}
use Rattle.arena.proofs.Tests.{T_ext, is_true, is_false}
use Rattle.arena.proofs.Sets.{count-le}
use Rattle.chains.specs.Lent.{Holds, many_of, cell_at, last_below, rechained}
use Rattle.chains.proofs.Counts.{count_none, holds_store, holds_cong}
use Rattle.chains.proofs.Chains.{last-zero, last-here, last-other}

-- no place below has the key
pub last_absent : (key : List ℕ) (c j : ℕ) → ((k : ℕ) → k < j → get_or key k 0 ≡ c → ⊥) → last_below key j c ≡ 0
last_absent key c zero none = last-zero (cell_at key) c
last_absent key c (suc j) none =
    rw (← add-one) (sym (last-other (cell_at key) j c (λ e. none j (lt-suc_self j) (sym e))) ∙ last_absent key c j (λ k l. none k (omega arith)))

-- the first j places say so far, of which those of c were linked anew
pub record Chained (key : List ℕ) (c : ℕ) (before₀ : List ℕ) (n j last size : ℕ) (before : List ℕ) : Type 0 where
  pub last_is : last ≡ last_below key j c
  pub size_is : size ≡ many_of j key c
  pub before_is : Holds n before (rechained key c before₀ j)

module _ (key : List ℕ) (c : ℕ) (before₀ : List ℕ) where
  and_no : (x : Bool) → (x && false) ≡ false
  and_no true = refl
  and_no false = refl

  -- none yet
  pub chain_none : {n j : ℕ} → n ≤ length before₀ → ((k : ℕ) → k < j → get_or key k 0 ≡ c → ⊥) → Chained key c before₀ n j 0 0 before₀
  unfolding many_of rechained
  chain_none {n} {j} long none = record {
    last_is = sym (last_absent key c j none);
    size_is = sym (count_none j _ (λ k l. ne_eqb (get_or key k 0) c (none k l)));
    before_is = record { long = long; cell = λ k l. sym (rw (is_false (eqb (get_or key k 0) c && ltb k j) (λ h. none k (ltb→lt k j (Rattle.arena.proofs.Tests.and_r (eqb (get_or key k 0) c) (ltb k j) h)) (lib.Dec.eqb→eq (get_or key k 0) c (Rattle.arena.proofs.Tests.and_l (eqb (get_or key k 0) c) (ltb k j) h)))) refl) };
  }

  module _ {n j last size : ℕ} {before : List ℕ} (was : Chained key c before₀ n j last size before) where
    others : (k : ℕ) → (k ≡ j → ⊥) → ltb k j ≡ ltb k (j + 1)
    others k ne = T_ext _ _ (λ h. lt→ltb k (j + 1) (let z = ltb→lt k j h in omega arith)) (λ h. lt→ltb k j (close (ltb→lt k (j + 1) h)))
      where
        close : k < j + 1 → k < j
        close z = elim (ℕ_discrete k j) [ yes e ↦ absurd (ne e) | no o ↦ omega arith ]

    one_more : many_of (j + 1) key c ≡ many_of j key c + bit (eqb (get_or key j 0) c)
    unfolding many_of count
    one_more = rw add-one refl

    -- a member more
    pub chain_member : j < n → get_or key j 0 ≡ c → {before' : List ℕ} {last' size' : ℕ} → before' ≡ set before j last → last' ≡ j + 1 → size' ≡ size + 1 → Chained key c before₀ n (j + 1) last' size' before'
    unfolding rechained
    chain_member l e {before'} stored at more = rw (stored, at, more) (record {
      last_is = last-here (cell_at key) j c e;
      size_is = rw (was.size_is, one_more, eq-eqb (get_or key j 0) c e) refl;
      before_is = holds_store j last was.before_is l (rw (eq-eqb (get_or key j 0) c e, is_true (ltb j (j + 1)) (lt→ltb j (j + 1) (omega arith))) was.last_is)
          (λ k _ ne. rw (others k ne) refl);
    })

    -- a state more that is no member
    pub chain_other : (get_or key j 0 ≡ c → ⊥) → {before' : List ℕ} {last' size' : ℕ} → before' ≡ before → last' ≡ last → size' ≡ size → Chained key c before₀ n (j + 1) last' size' before'
    unfolding rechained
    chain_other ne {before'} stored at more = rw (stored, at, more) (record {
      last_is = was.last_is ∙ last-other (cell_at key) j c (λ z. ne (sym z));
      size_is = rw (one_more, ne_eqb (get_or key j 0) c ne, add-zero) was.size_is;
      before_is = holds_cong was.before_is (λ k _. elim (ℕ_discrete k j) [
        | yes z ↦ rw z (rw (ne_eqb (get_or key j 0) c ne) refl)
        | no o ↦ rw (others k o) refl
      ]);
    })

    -- the size so far is at most the states so far
    pub chain_few : size ≤ j
    unfolding many_of
    chain_few = rw was.size_is (count-le j _)
