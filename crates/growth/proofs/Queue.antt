-- Laws of the queue, and of the members of a block that go to it.
use mathlib.Core.Path.{◌≡◌, refl, sym, ap, ◌∙◌}
use mathlib.Core.Bool.{Bool, true, false, not, ◌||◌, or-false}
use mathlib.Core.Logic.{inl, inr}
use mathlib.Core.List.{List}
use Prim.Native.Nat.{ℕ, zero, suc, ◌+◌, ◌-◌, ◌≤◌, ◌<◌}
use native.Mathlib.Decide.{ℕ_discrete}
use native.Mathlib.Omega.{arith}
use lib.ListN.{length, get_or, set, length-set}
use lib.Seq.{get_or-set_same, get_or-set_other}
use lib.Dec.{eqb, eqb-suc-zero}
use borrow.Author.Tests.{eq-eqb, ne_eqb}
use Rattle.arena.specs.Sets.{count}
use Rattle.arena.proofs.Sets.{lt_suc_cases, count-le}
use Rattle.arena.proofs.Loops.{some_more, some_cong}
use Rattle.growth.specs.Stamp.{pass_at, is_in, pass_no}
use Rattle.chains.specs.Lent.{cell_at, last_below, Linked}
use Rattle.growth.specs.Queue.{done, Listed, Alike, Joined}
use Rattle.chains.proofs.Counts.{count_add, holds_store, holds_cong}
use Rattle.chains.proofs.Chains.{last-le, last_is, onward, onward-first, onward_old, onward_new, onward-same}

-- ## The queue

-- the first q places are not touched by a store after them
pub done-set : (q : ℕ) (queue : List ℕ) (i v c : ℕ) → q ≤ i → done q (set queue i v) c ≡ done q queue c
done-set q queue i v c l = some_cong q _ _ (λ j m. ap (λ (x : ℕ). eqb x c) (get_or-set_other queue i j v 0 (λ p. absurd (omega arith))))

pub alike_store : (end : ℕ) (queue order : List ℕ) (tail v : ℕ) → Alike end queue order → end ≤ tail → Alike end (set queue tail v) order
alike_store end queue order tail v h l i m = get_or-set_other queue tail i v 0 (λ p. absurd (omega arith)) ∙ h i m

in_set_same : (row : List ℕ) (b v : ℕ) → b < length row → 1 ≤ v → is_in (set row b v) b ≡ true
in_set_same row b v l p = rw (get_or-set_same row b v 0 l, ne_eqb v 0 (λ e. absurd (omega arith))) refl

in_set_other : (row : List ℕ) (b v c : ℕ) → (c ≡ b → ⊥) → is_in row c ≡ is_in (set row b v) c
in_set_other row b v c ne = ap (λ (x : ℕ). not (eqb x 0)) (sym (get_or-set_other row b c v 0 ne))

-- a state that was outside enters
module _ (n : ℕ) (row queue : List ℕ) (tail b v : ℕ) (low : b < n) (long : n ≤ length row) (out : get_or row b 0 ≡ 0) (some-v : 1 ≤ v) (was : Listed n row queue tail) where
  not_in : is_in row b ≡ false
  not_in = rw out refl

  one_more : count n (is_in (set row b v)) ≡ count n (is_in row) + 1
  one_more = count_add n (is_in row) (is_in (set row b v)) b low not_in (in_set_same row b v (omega arith) some-v) (λ c _ ne. in_set_other row b v c ne)

  pub queue_room : tail < n
  queue_room = omega (arith, one_more, count-le n (is_in (set row b v)), was.as_many)

  pub queue_more : Listed n (set row b v) (set queue tail b) (tail + 1)
  queue_more = record {
    room = rw length-set was.room;
    as_many = rw one_more (ap (λ (x : ℕ). x + 1) was.as_many);
    states = λ i l. elim (lt_suc_cases i tail (omega arith)) [
      | inl e ↦ rw e (rw here low)
      | inr m ↦ rw (there i m) (was.states i m)
    ];
    all = λ c l. some_more tail (λ i. eqb (get_or (set queue tail b) i 0) c) ∙ rw (done-set tail queue tail b c (omega arith), here) (entry c l);
    fresh = λ i l. elim (lt_suc_cases i tail (omega arith)) [
      | inl e ↦ rw e (rw here (done-set tail queue tail b b (omega arith) ∙ was.all b low ∙ not_in))
      | inr m ↦ rw (there i m) (done-set i queue tail b (get_or queue i 0) (omega arith) ∙ was.fresh i m)
    ];
  }
    where
      here : get_or (set queue tail b) tail 0 ≡ b
      here = get_or-set_same queue tail b 0 (omega (arith, queue_room, was.room))

      there : (i : ℕ) → i < tail → get_or (set queue tail b) i 0 ≡ get_or queue i 0
      there i m = get_or-set_other queue tail i b 0 (λ p. absurd (omega arith))

      entry : (c : ℕ) → c < n → (done tail queue c || eqb b c) ≡ is_in (set row b v) c
      entry c l = elim (ℕ_discrete c b) [
        | yes p ↦ rw p (rw (was.all b low, not_in, eq-eqb b b refl, in_set_same row b v (omega arith) some-v) refl)
        | no p ↦ rw (was.all c l, ne_eqb b c (λ q. p (sym q)), or-false, in_set_other row b v c p) refl
      ]

-- ## Passes of a state

-- a state that does not join keeps its pass, and so does one that has one
pub pass_kept : (own number : ℕ) → own ≡ pass_no own false number
unfolding pass_no
pass_kept zero number = refl
pass_kept (suc own) number = rw (eqb-suc-zero own) refl

pub pass_had : (own : ℕ) (j : Bool) (number : ℕ) → (own ≡ 0 → ⊥) → own ≡ pass_no own j number
unfolding pass_no
pass_had zero j number ne = absurd (ne refl)
pass_had (suc own) j number ne = rw (eqb-suc-zero own) refl

-- one that has none and joins gets the number
pub pass_now : (own number : ℕ) → own ≡ 0 → number ≡ pass_no own true number
unfolding pass_no
pass_now own number e = rw e refl

-- ## The members of a block join

-- in the middle of the chain of block b's members, of which those from `at` on are handled (counted from 1: those above it)
pub record Joining (n : ℕ) (block : List ℕ) (b number : ℕ) (row₀ queue₀ : List ℕ) (tail₀ : ℕ) (row queue : List ℕ) (tail at : ℕ) : Type 0 where
  pub joined : Joined n (onward block b at) number row₀ queue₀ tail₀ row queue tail
  pub low : at ≤ n
  pub stands : (e : ℕ) → at ≡ suc e → get_or block e 0 ≡ b

module _ {n : ℕ} {block last before : List ℕ} (linked : Linked n n block last before) {b number : ℕ} where
  -- it begins at the last member
  pub join_begins : {row queue : List ℕ} {tail : ℕ} → b < n → n ≤ length row → Listed n row queue tail → Joining n block b number row queue tail row queue tail (get_or last b 0)
  join_begins {row} {queue} {tail} l long listed =
      let e : get_or last b 0 ≡ last_below block n b = linked.lasts.cell b l in
      record {
        joined = record {
          stamped = record { long = long; cell = λ s m. pass_kept (pass_at row s) number ∙ ap (λ (x : Bool). pass_no (pass_at row s) x number) (rw e (sym (onward-first block n b s m))) };
          listed = listed;
          more = omega arith;
          alike = λ i _. refl;
        };
        low = rw e (last-le (cell_at block) n b);
        stands = λ k z. last_is (cell_at block) n b k (sym e ∙ z);
      }

  module _ {row₀ queue₀ : List ℕ} {tail₀ : ℕ} {row queue : List ℕ} {tail at : ℕ} (joining : Joining n block b number row₀ queue₀ tail₀ row queue tail at) where
    module _ (some_left : 0 < at) where
      here : at ≡ suc (at - 1)
      here = omega arith

      member : at - 1 < n
      member = omega (arith, joining.low)

      is : get_or block (at - 1) 0 ≡ b
      is = joining.stands (at - 1) here

      next : get_or before (at - 1) 0 ≡ last_below block (at - 1) b
      next = linked.befores.cell (at - 1) member ∙ ap (λ (x : ℕ). last_below block (at - 1) x) is

      pub join_less : get_or before (at - 1) 0 < at
      join_less = rw next (omega (arith, last-le (cell_at block) (at - 1) b))

      -- the member at hand has the pass that it had
      own : get_or row (at - 1) 0 ≡ pass_at row₀ (at - 1)
      own = joining.joined.stamped.cell (at - 1) member ∙ ap (λ (x : Bool). pass_no (pass_at row₀ (at - 1)) x number) (ap (λ (x : ℕ). onward block b x (at - 1)) here ∙ onward_old block b (at - 1)) ∙ sym (pass_kept (pass_at row₀ (at - 1)) number)

      others : (s : ℕ) → (s ≡ at - 1 → ⊥) → pass_no (pass_at row₀ s) (onward block b at s) number ≡ pass_no (pass_at row₀ s) (onward block b (get_or before (at - 1) 0) s) number
      others s ne = ap (λ (x : Bool). pass_no (pass_at row₀ s) x number) (ap (λ (x : ℕ). onward block b x s) here ∙ onward-same block b (at - 1) s ne ∙ ap (λ (x : ℕ). onward block b x s) (sym next))

      now : onward block b (get_or before (at - 1) 0) (at - 1) ≡ true
      now = rw next (onward_new block b (at - 1) is)

      Next : List ℕ → List ℕ → ℕ → Type 0
      Next row' queue' tail' = Joining n block b number row₀ queue₀ tail₀ row' queue' tail' (get_or before (at - 1) 0)

      goes_on : {row' queue' : List ℕ} {tail' : ℕ} → Joined n (onward block b (get_or before (at - 1) 0)) number row₀ queue₀ tail₀ row' queue' tail' → Next row' queue' tail'
      unfolding Next
      goes_on joined = record { joined = joined; low = omega (arith, join_less, joining.low); stands = λ k z. last_is (cell_at block) (at - 1) b k (sym next ∙ z) }

      -- a member that is in already
      pub join_skip : {row' queue' : List ℕ} {tail' : ℕ} → row' ≡ row → queue' ≡ queue → tail' ≡ tail → (get_or row (at - 1) 0 ≡ 0 → ⊥) → Joining n block b number row₀ queue₀ tail₀ row' queue' tail' (get_or before (at - 1) 0)
      unfolding Next
      join_skip i j k ne = rw (i, j, k) (goes_on (record {
        stamped = holds_cong joining.joined.stamped (λ s m. elim (ℕ_discrete s (at - 1)) [
          | yes p ↦ rw p (sym (joining.joined.stamped.cell (at - 1) member) ∙ own ∙ pass_had (pass_at row₀ (at - 1)) _ number (λ z. ne (own ∙ z)))
          | no p ↦ others s p
        ]);
        listed = joining.joined.listed;
        more = joining.joined.more;
        alike = joining.joined.alike;
      }))

      -- a member that was outside
      pub join_take : {row' queue' : List ℕ} {tail' : ℕ} → 1 ≤ number → row' ≡ set row (at - 1) number → queue' ≡ set queue tail (at - 1) → tail' ≡ tail + 1 → get_or row (at - 1) 0 ≡ 0
          → Joining n block b number row₀ queue₀ tail₀ row' queue' tail' (get_or before (at - 1) 0)
      unfolding Next
      join_take Some-number i j k out = rw (i, j, k) (goes_on (record {
        stamped = holds_store (at - 1) number joining.joined.stamped member (rw now (pass_now (pass_at row₀ (at - 1)) number (sym own ∙ out))) (λ s _ ne. others s ne);
        listed = queue_more n row queue tail (at - 1) number member joining.joined.stamped.long out Some-number joining.joined.listed;
        more = omega (arith, joining.joined.more);
        alike = alike_store tail₀ queue queue₀ tail (at - 1) joining.joined.alike joining.joined.more;
      }))

-- ## Where the numbers lie

-- there is room for one more in the queue
pub record Room (queue : List ℕ) (tail : ℕ) : Type 0 where
  pub few : tail < 512
  pub in_queue : tail < length queue

module _ {n : ℕ} (few : n ≤ 512) {block : List ℕ} {b number : ℕ} {row₀ queue₀ : List ℕ} {tail₀ : ℕ} {row queue : List ℕ} {tail at : ℕ} (joining : Joining n block b number row₀ queue₀ tail₀ row queue tail at) where
  pub chain_room : 0 < at → get_or row (at - 1) 0 ≡ 0 → Room queue tail
  chain_room some_left out =
      let free = queue_room n row queue tail (at - 1) 1 (omega (arith, joining.low)) joining.joined.stamped.long out (omega arith) joining.joined.listed in
      record { few = omega arith; in_queue = omega (arith, joining.joined.listed.room) }
