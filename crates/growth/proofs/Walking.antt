-- The moves into a state, from the last to the first.
use mathlib.Core.Path.{◌≡◌, refl, sym, ap, ◌∙◌, fun_ext}
use mathlib.Core.Bool.{Bool, true, false, ◌&&◌, ◌||◌, or-false}
use mathlib.Core.List.{List}
use Prim.Native.Nat.{ℕ, suc, ◌+◌, ◌-◌, ◌*◌, ◌≤◌, ◌<◌}
use native.Mathlib.Decide.{ℕ_discrete}
use native.Mathlib.Omega.{arith}
use lib.ListN.{length, get_or, set}
use mir.Syntax.{w16, w64}
use mir.Val.{Fits}
use lib.Dec.{eqb}
use borrow.Author.Tests.{eq-eqb, ne_eqb}
use Rattle.arena.specs.Sets.{Set}
use Rattle.arena.proofs.Tests.{and_intro, and_l, and_r, or_l}
use Rattle.arena.proofs.Sets.{count-le, count_mono}
use Rattle.arena.proofs.Loops.{some_more, some_cong}
use Rattle.growth.specs.Stamp.{is_in}
use Rattle.chains.specs.Lent.{cell_at, last_below, Linked}
use Rattle.growth.specs.Net.{Net, goal, Sound, tally, hits_of, hits}
use Rattle.growth.specs.Queue.{done, into, Alike, Joined, Work, Handled, partly, Walking}
use Rattle.chains.proofs.Counts.{count_cong, count_add}
use Rattle.chains.proofs.Chains.{last-le, last_is, onward-first, onward_old, onward_new, onward-same, onward-last}
use Rattle.growth.proofs.Moving.{bump, bump-other, bump-same, work_quiet, work_hit, work_join}

-- ## Counts of moves

-- of the same moves
pub tally_cong : (m : ℕ) (from : List ℕ) (M N : Set) → ((k : ℕ) → k < m → M k ≡ N k) → tally m from M ≡ tally m from N
unfolding tally
tally_cong m from M N h = fun_ext (λ s. count_cong m _ _ (λ k l. ap (λ (x : Bool). eqb (get_or from k 0) s && x) (h k l)))

-- of no fewer moves
pub tally_mono : (m : ℕ) (from : List ℕ) (M N : Set) → ((k : ℕ) → k < m → lib.Dec.T (M k) → lib.Dec.T (N k)) → (s : ℕ) → tally m from M s ≤ tally m from N s
unfolding tally
tally_mono m from M N h s = count_mono m _ _ (λ k l x. and_intro (eqb (get_or from k 0) s) (N k) (and_l (eqb (get_or from k 0) s) (M k) x) (h k l (and_r (eqb (get_or from k 0) s) (M k) x)))

-- of one move more
pub tally-add : (m : ℕ) (from : List ℕ) (M N : Set) (e : ℕ) → e < m → M e ≡ false → N e ≡ true → ((k : ℕ) → k < m → (k ≡ e → ⊥) → M k ≡ N k)
    → bump (tally m from M) (get_or from e 0) ≡ tally m from N
unfolding tally
tally-add m from M N e l p q h = fun_ext (λ s. elim (ℕ_discrete s (get_or from e 0)) [
  | yes i ↦ rw i (sym (bump-same (tally m from M) (get_or from e 0))
      ∙ sym (count_add m (λ k. eqb (get_or from k 0) (get_or from e 0) && M k) (λ k. eqb (get_or from k 0) (get_or from e 0) && N k) e l
      (rw (eq-eqb (get_or from e 0) _ refl) p) (rw (eq-eqb (get_or from e 0) _ refl) q)
      (λ k m ne. ap (λ (x : Bool). eqb (get_or from k 0) (get_or from e 0) && x) (h k m ne))))
  | no o ↦ sym (bump-other (tally m from M) (get_or from e 0) s o) ∙ count_cong m _ _ (λ k m. elim (ℕ_discrete k e) [
    | yes i ↦ rw i (rw (ne_eqb (get_or from e 0) s (λ z. o (sym z))) refl)
    | no ne ↦ ap (λ (x : Bool). eqb (get_or from k 0) s && x) (h k m ne)
  ])
])

pub tally-le : (m : ℕ) (from : List ℕ) (M : Set) (s : ℕ) → tally m from M s ≤ m
unfolding tally
tally-le m from M s = count-le m _

hits-le : (w : Net) (t : ℕ → ℕ) (b : ℕ) → hits w t b ≤ w.states
unfolding hits_of
hits-le w t b = count-le w.states _

-- ## The queue

-- queues that are alike name the same states and moves
pub done-alike : (q : ℕ) (a b : List ℕ) → Alike q a b → (c : ℕ) → done q a c ≡ done q b c
done-alike q a b h c = some_cong q _ _ (λ i l. ap (λ (x : ℕ). eqb x c) (h i l))

pub into-alike : (to : List ℕ) (q : ℕ) (a b : List ℕ) → Alike q a b → into to q a ≡ into to q b
into-alike to q a b h = fun_ext (λ k. done-alike q a b h (get_or to k 0))

-- one state more
pub into_more : (to : List ℕ) (q : ℕ) (order : List ℕ) (k : ℕ) → lib.Dec.T (into to q order k) → lib.Dec.T (into to (q + 1) order k)
into_more to q order k h = rw (some_more q (λ i. eqb (get_or order i 0) (get_or to k 0))) (or_l (into to q order k) (eqb (get_or order q 0) (get_or to k 0)) h)

-- ## The walk

module _ (m : ℕ) (from to : List ℕ) (q : ℕ) (order : List ℕ) (c : ℕ) where
  -- before it
  walk_first : tally m from (into to q order) ≡ tally m from (partly to q order c (last_below to m c))
  walk_first = tally_cong m from _ _ (λ k l. sym (rw (onward-first to m c k l) (or-false (into to q order k))))

  -- one move more
  walk_more : (e : ℕ) → e < m → get_or to e 0 ≡ c → done q order c ≡ false
      → bump (tally m from (partly to q order c (suc e))) (get_or from e 0) ≡ tally m from (partly to q order c (last_below to e c))
  walk_more e l is fresh = tally-add m from _ _ e l
      (rw (onward_old to c e, is, fresh) refl)
      (rw (onward_new to c e is, is, fresh) refl)
      (λ k _ ne. ap (λ (x : Bool). into to q order k || x) (onward-same to c e k ne))

  -- after it
  walk-last : get_or order q 0 ≡ c → tally m from (partly to q order c 0) ≡ tally m from (into to (q + 1) order)
  walk-last is = tally_cong m from _ _ (λ k l. sym (some_more q (λ i. eqb (get_or order i 0) (get_or to k 0)) ∙ rw is (ap (λ (x : Bool). into to q order k || x) (sym (onward-last to c k)))))

-- ## The numbers of a turn

-- the walk's first reads
pub record Begin (queue : List ℕ) (q : ℕ) : Type 0 where
  pub place_offset : Fits w64 (q * 2)
  pub place : q < length queue

-- move `at - 1` into the state, the state that it leaves, and that one's block
pub record Turn (w : Net) (before have hit : List ℕ) (at : ℕ) : Type 0 where
  pub some_left : 1 ≤ at
  pub move_offset : Fits w64 ((at - 1) * 2)
  pub in_from : at - 1 < length w.from
  pub in_before : at - 1 < length before
  pub before_less : get_or before (at - 1) 0 < at
  pub before_fits : Fits w64 (get_or before (at - 1) 0)
  pub state : get_or w.from (at - 1) 0 < w.states
  pub state_fits : Fits w64 (get_or w.from (at - 1) 0)
  pub state_offset : Fits w64 (get_or w.from (at - 1) 0 * 2)
  pub in_have : get_or w.from (at - 1) 0 < length have
  pub have_fits : Fits w16 (get_or have (get_or w.from (at - 1) 0) 0 + 1)
  pub in_need : get_or w.from (at - 1) 0 < length w.need
  pub in_block : get_or w.from (at - 1) 0 < length w.block
  pub block-state : get_or w.block (get_or w.from (at - 1) 0) 0 < w.states
  pub block_fits : Fits w64 (get_or w.block (get_or w.from (at - 1) 0) 0)
  pub block_offset : Fits w64 (get_or w.block (get_or w.from (at - 1) 0) 0 * 2)
  pub in_hit : get_or w.block (get_or w.from (at - 1) 0) 0 < length hit
  pub hit_fits : Fits w16 (get_or hit (get_or w.block (get_or w.from (at - 1) 0) 0) 0 + 1)
  pub in_size : get_or w.block (get_or w.from (at - 1) 0) 0 < length w.size

module _ {w : Net} (sound : Sound w) {last before : List ℕ} (linked : Linked w.states w.moves w.to last before) {old : ℕ → ℕ} {number : ℕ} where
  pub beginning : (q : ℕ) {have hit row queue : List ℕ} {tail : ℕ} → q < tail → Handled w old number q queue have hit row queue tail → Begin queue q
  beginning q {row = row} {queue = queue} {tail = tail} l work =
      let few = count-le w.states (is_in row) in
      record {
        place_offset = omega (arith, work.listed.as_many, sound.few-states);
        place = omega (arith, work.listed.room, work.listed.as_many);
      }

  -- it begins at the last move into the state
  pub walk_begins : (q : ℕ) {have hit row queue : List ℕ} {tail : ℕ} → q < tail → Handled w old number q queue have hit row queue tail
      → Walking w old number q tail queue (get_or queue q 0) have hit row queue tail (get_or last (get_or queue q 0) 0)
  walk_begins q {queue = queue} {tail = tail} l work =
      let e : get_or last (get_or queue q 0) 0 ≡ last_below w.to w.moves (get_or queue q 0) = linked.lasts.cell (get_or queue q 0) (work.listed.states q l) in
      record {
        work = rw (e, ← walk_first w.moves w.from w.to q queue (get_or queue q 0)) work;
        low = rw e (last-le (cell_at w.to) w.moves (get_or queue q 0));
        stands = λ k z. last_is (cell_at w.to) w.moves (get_or queue q 0) k (sym e ∙ z);
        fresh = work.listed.fresh q l;
        more = omega arith;
        alike = λ i _. refl;
      }

  module _ {q end : ℕ} {order : List ℕ} {c : ℕ} {have hit row queue : List ℕ} {tail at : ℕ} (walking : Walking w old number q end order c have hit row queue tail at) where
    module _ (some_left : 0 < at) where
      here : at ≡ suc (at - 1)
      here = omega arith

      move : at - 1 < w.moves
      move = omega (arith, walking.low)

      names : get_or w.to (at - 1) 0 ≡ c
      names = walking.stands (at - 1) here

      next : get_or before (at - 1) 0 ≡ last_below w.to (at - 1) c
      next = linked.befores.cell (at - 1) move ∙ ap (λ (x : ℕ). last_below w.to (at - 1) x) names

      less : get_or before (at - 1) 0 < at
      less = rw next (omega (arith, last-le (cell_at w.to) (at - 1) c))

      turn : Turn w before have hit at
      turn =
          let state = sound.froms.below (at - 1) move in
          let block-state = sound.blocks.below (get_or w.from (at - 1) 0) state in
          let counts = walking.work.counts in
          let struck = walking.work.hit_is in
          record {
            some_left = some_left;
            move_offset = omega (arith, walking.low, sound.few-moves);
            in_from = omega (arith, move, sound.froms.long);
            in_before = omega (arith, move, linked.befores.long);
            before_less = less;
            before_fits = omega (arith, less, walking.low, sound.few-moves);
            state = state;
            state_fits = omega (arith, sound.few-states);
            state_offset = omega (arith, sound.few-states);
            in_have = omega (arith, counts.long);
            have_fits = omega (arith, counts.cell (get_or w.from (at - 1) 0) state, tally-le w.moves w.from (partly w.to q order c at) (get_or w.from (at - 1) 0), sound.few-moves);
            in_need = omega (arith, sound.need-long);
            in_block = omega (arith, sound.blocks.long);
            block-state = block-state;
            block_fits = omega (arith, sound.few-states);
            block_offset = omega (arith, sound.few-states);
            in_hit = omega (arith, struck.long);
            hit_fits = omega (arith, struck.cell (get_or w.block (get_or w.from (at - 1) 0) 0) block-state, hits-le w (tally w.moves w.from (partly w.to q order c at)) (get_or w.block (get_or w.from (at - 1) 0) 0), sound.few-states);
            in_size = omega (arith, sound.size-long);
          }

      abbrev f : ℕ
      f = get_or w.from (at - 1) 0

      abbrev own : ℕ
      own = get_or w.block f 0

      Next : List ℕ → List ℕ → List ℕ → List ℕ → ℕ → Type 0
      Next have' hit' row' queue' tail' = Walking w old number q end order c have' hit' row' queue' tail' (get_or before (at - 1) 0)

      goes_on : {have' hit' row' queue' : List ℕ} {tail' : ℕ}
          → Work w old number (bump (tally w.moves w.from (partly w.to q order c at)) f) have' hit' row' queue' tail' → end ≤ tail' → Alike end queue' order → Next have' hit' row' queue' tail'
      unfolding Next
      goes_on work more alike =
          let grown = walk_more w.moves w.from w.to q order c (at - 1) move names walking.fresh in
          record {
            work = rw (next, ← grown, ← here) work;
            low = omega (arith, less, walking.low);
            stands = λ k z. last_is (cell_at w.to) (at - 1) c k (sym next ∙ z);
            fresh = walking.fresh;
            more = more;
            alike = alike;
          }

      module _ {have' hit' row' queue' : List ℕ} {tail' : ℕ} (stored : have' ≡ set have f (get_or have f 0 + 1)) where
        -- the state has not enough, or had before
        pub step_quiet : hit' ≡ hit → row' ≡ row → queue' ≡ queue → tail' ≡ tail → (get_or have f 0 + 1 ≡ get_or w.need f 0 → ⊥) → Walking w old number q end order c have' hit' row' queue' tail' (get_or before (at - 1) 0)
        unfolding Next
        step_quiet i j k l ne = rw (stored, i, j, k, l) (goes_on (work_quiet sound walking.work f turn.state ne) walking.more walking.alike)

        module _ (struck : hit' ≡ set hit own (get_or hit own 0 + 1)) (enough : get_or have f 0 + 1 ≡ get_or w.need f 0) where
          -- its block is hit, and does not become ripe now
          pub step_hit : row' ≡ row → queue' ≡ queue → tail' ≡ tail → (get_or hit own 0 + 1 ≡ goal w own → ⊥) → Walking w old number q end order c have' hit' row' queue' tail' (get_or before (at - 1) 0)
          unfolding Next
          step_hit j k l ne = rw (stored, struck, j, k, l) (goes_on (work_hit sound walking.work f turn.state enough ne) walking.more walking.alike)

          -- its block joins
          pub step_join : 1 ≤ number → get_or hit own 0 + 1 ≡ goal w own → Joined w.states (λ s. eqb own (get_or w.block s 0)) number row queue tail row' queue' tail'
              → Walking w old number q end order c have' hit' row' queue' tail' (get_or before (at - 1) 0)
          unfolding Next
          step_join Some-number ready joined = rw (stored, struck)
              (goes_on (work_join sound walking.work f turn.state enough Some-number ready joined)
              (omega (arith, walking.more, joined.more)) (λ i l. joined.alike i (omega (arith, walking.more)) ∙ walking.alike i l))

    -- the walk is over
    pub walk_ends : get_or order q 0 ≡ c → at ≤ 0 → Handled w old number (q + 1) order have hit row queue tail
    walk_ends e none =
        let z : at ≡ 0 = omega arith in
        rw (← walk-last w.moves w.from w.to q order c e) (rw z at walking.work)

    -- and, beside it, the numbers of its next turn
    pub turning : Walking w old number q end order c have hit row queue tail at × (0 < at → Turn w before have hit at)
    turning = (walking, turn)
