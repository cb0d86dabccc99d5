-- The rows with which a growth begins: from nothing, and as copies.
use Prim.Native.Nat.{ℕ, ◌≤◌, ◌<◌}
use mathlib.Core.Path.{◌≡◌, sym, ap, ◌∙◌}
use mathlib.Core.Bool.{not}
use mathlib.Core.List.{List}
use native.Mathlib.Omega.{arith}
use lib.ListN.{length, get_or}
use lib.Dec.{eqb}
use Rattle.arena.proofs.Sets.{count-le}
use Rattle.arena.proofs.Loops.{some-zero}
use Rattle.arena.proofs.Choices.{second_not}
use Rattle.growth.specs.Stamp.{is_in}
use Rattle.chains.specs.Lent.{Holds}
use Rattle.growth.specs.Net.{tally}
use Rattle.growth.specs.Queue.{Alike, Listed, Counted}
use Rattle.chains.proofs.Counts.{count_cong, count_none, holds_cong}
use Rattle.growth.proofs.Walking.{done-alike, into-alike}

-- nothing is handled yet
pub counted_none : (n m : ℕ) (from to : List ℕ) {have row queue : List ℕ} {tail : ℕ} → Holds n have (λ _. 0) → Listed n row queue tail → n ≤ length row → Counted n m from to 0 have row queue tail
unfolding tally
counted_none n m from to none listed long = record {
  counts = holds_cong none (λ s _. sym (count_none m _ (λ k _. second_not (eqb (get_or from k 0) s) _ (some-zero _))));
  listed = listed;
  handled = omega arith;
  row-long = long;
}

-- copies of the rows are as good
pub counted_copy : (n m : ℕ) (from to : List ℕ) {q : ℕ} {have row queue have' row' queue' : List ℕ} {tail : ℕ} → Counted n m from to q have row queue tail
    → Holds n have' (λ s. get_or have s 0) → Holds n row' (λ s. get_or row s 0) → Holds n queue' (λ s. get_or queue s 0) → Counted n m from to q have' row' queue' tail
counted_copy n m from to {q} {have} {row} {queue} {have'} {row'} {queue'} {tail} was counts rows queues = record {
  counts = rw (into-alike to q queue' queue (λ i l. same i (omega (arith, was.handled)))) (holds_cong counts (λ s l. was.counts.cell s l));
  listed = record {
    room = queues.long;
    as_many = was.listed.as_many ∙ sym (count_cong n (is_in row') (is_in row) in_row);
    states = λ i l. rw (same i l) (was.listed.states i l);
    all = λ c l. done-alike tail queue' queue same c ∙ was.listed.all c l ∙ sym (in_row c l);
    fresh = λ i l. rw (same i l) (done-alike i queue' queue (λ j k. same j (omega arith)) (get_or queue i 0) ∙ was.listed.fresh i l);
  };
  handled = was.handled;
  row-long = rows.long;
}
  where
    few : tail ≤ n
    few = omega (arith, was.listed.as_many, count-le n (is_in row))

    same : Alike tail queue' queue
    same i l = queues.cell i (omega (arith, few))

    in_row : (s : ℕ) → s < n → is_in row' s ≡ is_in row s
    in_row s l = ap (λ (v : ℕ). not (eqb v 0)) (rows.cell s l)
