-- Laws of the queue that lists the states of a row.
use Prim.Native.Nat.{ℕ, ◌+◌, ◌≤◌, ◌<◌, zero-le}
use mathlib.Core.Path.{◌≡◌, refl, sym, ap, ap₂, ◌∙◌}
use mathlib.Core.Bool.{Bool, true, false, ◌||◌, or-true, or-false}
use mathlib.Core.List.{List}
use mathlib.Core.Logic.{inl, inr}
use native.Mathlib.Nat.{not-suc-le-zero, add-zero}
use native.Mathlib.Numerals.{add-one}
use native.Mathlib.Omega.{arith}
use lib.ListN.{length, get_or, set, length-set}
use lib.Seq.{get_or-set_same, get_or-set_other}
use lib.Dec.{eqb}
use borrow.Author.Tests.{eq-eqb, ne_eqb}
use Rattle.arena.specs.Sets.{Set, count, bit}
use Rattle.arena.proofs.Sets.{lt_suc_cases, count-le}
use Rattle.arena.proofs.Loops.{some_more, some-none, some_cong}
use Rattle.growth.specs.Stamp.{is_in}
use Rattle.growth.specs.Queue.{done, Listed}

-- one state more is counted, or not
count-more : (n : ℕ) (X : Set) → count (n + 1) X ≡ count n X + bit (X n)
unfolding count
count-more n X = rw add-one refl

-- no state yet
pub listed-none : (row queue : List ℕ) → Listed 0 row queue 0
unfolding count
listed-none row queue = record {
  room = zero-le;
  as_many = refl;
  states = λ i l. absurd (not-suc-le-zero l);
  all = λ c l. absurd (not-suc-le-zero l);
  fresh = λ i l. absurd (not-suc-le-zero l);
}

module _ {s tail : ℕ} {row queue : List ℕ} (listed : Listed s row queue tail) (long : s < length queue) where
  -- the queue is no longer than there are states
  tail_low : tail ≤ s
  tail_low = omega (arith, listed.as_many, count-le s (is_in row))

  -- the next state is not in the queue yet
  not_listed : done tail queue s ≡ false
  not_listed = some-none tail _ (λ i l. ne_eqb (get_or queue i 0) s (λ (e : get_or queue i 0 ≡ s). absurd (omega (arith, listed.states i l))))

  -- one state more, outside the row's set
  listed_still : is_in row s ≡ false → Listed (s + 1) row queue tail
  listed_still out = record {
    room = omega arith;
    as_many = listed.as_many ∙ sym (rw (count-more s (is_in row), out) (add-zero (count s (is_in row))));
    states = λ i l. omega (arith, listed.states i l);
    all = λ c l. elim (lt_suc_cases c s (omega arith)) [ inl e ↦ rw e (not_listed ∙ sym out) | inr m ↦ listed.all c m ];
    fresh = listed.fresh;
  }

  pub listed_same : is_in row s ≡ false → {after : List ℕ} {end : ℕ} → after ≡ queue → end ≡ tail → Listed (s + 1) row after end
  listed_same out q e = rw (q, e) (listed_still out)

  -- one state more, inside it
  abbrev more : List ℕ
  more = set queue tail s

  here : get_or more tail 0 ≡ s
  here = get_or-set_same queue tail s 0 (omega (arith, tail_low))

  there : (i : ℕ) → i < tail → get_or more i 0 ≡ get_or queue i 0
  there i l = get_or-set_other queue tail i s 0 (λ e. absurd (omega arith))

  -- the states before place i are the same
  done_there : (i c : ℕ) → i ≤ tail → done i more c ≡ done i queue c
  done_there i c l = some_cong i _ _ (λ j m. ap (λ (v : ℕ). eqb v c) (there j (omega arith)))

  done_more : (c : ℕ) → done (tail + 1) more c ≡ (done tail queue c || eqb s c)
  done_more c = some_more tail _ ∙ ap₂ (λ (x y : Bool). x || y) (done_there tail c (omega arith)) (ap (λ (v : ℕ). eqb v c) here)

  listed-set : is_in row s ≡ true → Listed (s + 1) row more (tail + 1)
  listed-set in_row = record {
    room = rw length-set (omega arith);
    as_many = ap (λ (v : ℕ). v + 1) listed.as_many ∙ sym (rw (count-more s (is_in row), in_row) refl);
    states = λ i l. elim (lt_suc_cases i tail (omega arith)) [
      | inl e ↦ rw (e, here) (omega arith)
      | inr m ↦ rw (there i m) (omega (arith, listed.states i m))
    ];
    all = λ c l. done_more c ∙ elim (lt_suc_cases c s (omega arith)) [
      | inl e ↦ rw (e, eq-eqb s s refl, or-true) (sym in_row)
      | inr m ↦ rw (ne_eqb s c (λ e. absurd (omega arith)), or-false) (listed.all c m)
    ];
    fresh = λ i l. elim (lt_suc_cases i tail (omega arith)) [
      | inl e ↦ rw (e, here) (done_there tail s (omega arith) ∙ not_listed)
      | inr m ↦ rw (there i m) (done_there i (get_or queue i 0) (omega arith) ∙ listed.fresh i m)
    ];
  }

  pub listed_more : is_in row s ≡ true → {after : List ℕ} {end : ℕ} → after ≡ set queue tail s → end ≡ tail + 1 → Listed (s + 1) row after end
  listed_more in_row q e = rw (q, e) (listed-set in_row)
