-- The passes over the queue: the end of a pass, the next one, and the last one.
use mathlib.Core.Path.{◌≡◌, refl, sym, ap, ◌∙◌}
use mathlib.Core.Bool.{Bool, true, false, not}
use mathlib.Core.List.{List}
use Prim.Native.Nat.{ℕ, zero, suc, ◌+◌, ◌-◌, ◌≤◌, ◌<◌}
use native.Mathlib.Numerals.{add-one}
use native.Mathlib.Omega.{arith}
use mir.Syntax.{w16, w64}
use mir.Val.{Fits}
use lib.ListN.{get_or}
use lib.Dec.{T, eqb, eqb-suc-zero}
use Rattle.arena.proofs.Tests.{fails}
use Rattle.arena.proofs.Sets.{count-le}
use Rattle.arena.proofs.Passes.{Mono}
use Rattle.growth.specs.Stamp.{pass_at, is_in, entered, pass_no, stamp_from}
use Rattle.chains.specs.Lent.{Holds}
use Rattle.growth.specs.Net.{Net, Sound, tally, hits_of, hits, ripe, ripe_by, joined, pass_of}
use Rattle.growth.specs.Queue.{into, Counted, Alike, Joined, Handled, Passing, Grown}
use Rattle.growth.proofs.Stamp.{stamp_stop}
use Rattle.chains.proofs.Counts.{count_cong, holds_cong}
use Rattle.growth.proofs.Queue.{pass_had}
use Rattle.growth.proofs.Moving.{ripe_mono, work_anew, work_since}
use Rattle.growth.proofs.Walking.{tally_cong, tally_mono, done-alike, into-alike, into_more}

-- by a larger set no fewer blocks join
pub joined_mono : (w : Net) → Sound w → Mono w.states (joined w)
unfolding joined
joined_mono w sound X Y h s l x =
    ripe_mono w _ _ (λ t _. tally_mono w.moves w.from _ _ (λ k m z. h (get_or w.to k 0) (sound.tos.below k m) z) t) (get_or w.block s 0) x

-- a state that has joined joins with no other number
pass_again : (own : ℕ) (r : Bool) (k m : ℕ) → pass_no own r (suc k) ≡ pass_no (pass_no own r (suc k)) r m
unfolding pass_no
pass_again zero true k m = rw (eqb-suc-zero k) refl
pass_again zero false k m = refl
pass_again (suc own) r k m = rw (eqb-suc-zero own) (rw (eqb-suc-zero own) refl)

-- one that is in exactly where it was has the pass that it had
pass_still : (own : ℕ) (r : Bool) (k : ℕ) → not (eqb (pass_no own r (suc k)) 0) ≡ not (eqb own 0) → pass_no own r (suc k) ≡ own
unfolding pass_no
pass_still zero true k e = absurd (fails true (rw (eqb-suc-zero k) at e) tt)
pass_still zero false k e = refl
pass_still (suc own) r k e = rw (eqb-suc-zero own) refl

-- a state that joins is in
ripe_in : (own : ℕ) (r : Bool) (number : ℕ) → 1 ≤ number → T r → pass_no own r number ≡ 0 → ⊥
unfolding pass_no
ripe_in zero true number l h v = omega arith
ripe_in (suc own) r number l h v = let z : suc own ≡ 0 = rw (eqb-suc-zero own) at v in omega arith
ripe_in zero false number l h v = elim h [ ]

module _ {w : Net} (sound : Sound w) (f : ℕ → ℕ) {pass end q : ℕ} {have hit row queue : List ℕ} {tail : ℕ} (was : Passing w f pass end q have hit row queue tail) where
  -- what a state more needs, and what it leaves
  pub pass_work : Handled w (pass_at row) (pass + 2) q queue have hit row queue tail
  pass_work = work_anew (omega arith) was.work

  pub pass_on : {have' hit' row' queue' : List ℕ} {tail' : ℕ} → q < end → Handled w (pass_at row) (pass + 2) (q + 1) queue have' hit' row' queue' tail' → tail ≤ tail' → Alike tail queue' queue
      → Passing w f pass end (q + 1) have' hit' row' queue' tail'
  pass_on {have'} {hit'} {row'} {queue'} {tail'} l since more alike = record {
    work = rw (into-alike w.to (q + 1) queue' queue (λ i m. alike i (omega (arith, was.some))))
        (work_since (omega arith) was.work (λ s _. tally_mono w.moves w.from _ _ (λ k _. into_more w.to q queue k) s) since);
    low = omega arith;
    some = omega (arith, was.some);
    steps = was.steps;
    known = λ c m. done-alike end queue' queue (λ i m. alike i (omega (arith, was.some))) c ∙ was.known c m;
  }

  module _ (over : end ≤ q) where
    here : q ≡ end
    here = omega (arith, was.low)

    -- what is counted is what the definition counts
    ripe_is : (s : ℕ) → ripe w (tally w.moves w.from (into w.to q queue)) (get_or w.block s 0) ≡ joined w (entered (pass_of w f pass)) s
    unfolding joined
    ripe_is s = ap (λ (t : ℕ → ℕ). ripe w t (get_or w.block s 0)) (tally_cong w.moves w.from _ _ (λ k l. rw here (was.known (get_or w.to k 0) (sound.tos.below k l))))

    two : pass + 2 ≡ suc (suc pass)
    two = omega arith

    -- the row is that of one pass more
    pass_over : Holds w.states row (pass_of w f (pass + 1))
    unfolding stamp_from
    pass_over = rw add-one (holds_cong was.work.stamped (λ s l. rw (ripe_is s, two) refl))

    -- the next pass begins
    next : end < tail → Passing w f (pass + 1) tail q have hit row queue tail
    unfolding stamp_from
    next more = record {
      work = record {
        counts = was.work.counts;
        hit_is = was.work.hit_is;
        stamped = holds_cong was.work.stamped (λ s l. rw (add-one, two, ripe_is s) (pass_again (pass_of w f pass s) (joined w (entered (pass_of w f pass)) s) (suc pass) (suc pass + 2)));
        listed = was.work.listed;
      };
      low = omega arith;
      some = omega arith;
      steps = omega (arith, was.steps);
      known = λ c l. was.work.listed.all c l ∙ ap (λ (x : ℕ). not (eqb x 0)) (pass_over.cell c l);
    }

    pub pass_next : end < tail → Passing w f (pass + 1) tail end have hit row queue tail
    pass_next more = rw here at next more

    -- no state has entered in this pass: the row of all passes
    pub pass_last : end ≡ tail → Holds w.states row (pass_of w f w.states)
    unfolding stamp_from
    pass_last e = record {
      long = was.work.stamped.long;
      cell = λ s l. still s l ∙ sym (stamp_stop w.states (joined w) (joined_mono w sound) f pass (λ t m. sym (more t m) ∙ still t m) w.states few s l);
    }
      where
        few : pass ≤ w.states
        few = omega (arith, was.steps, was.work.listed.as_many, count-le w.states (is_in row))

        more : (s : ℕ) → s < w.states → get_or row s 0 ≡ stamp_from (joined w) f (suc pass) s
        more s l = (rw add-one at pass_over).cell s l

        still : (s : ℕ) → s < w.states → get_or row s 0 ≡ pass_of w f pass s
        still s l = more s l ∙ pass_still (pass_of w f pass s) (joined w (entered (pass_of w f pass)) s) (suc pass)
            (rw (← more s l) (sym (was.work.listed.all s l) ∙ rw (← e) (was.known s l)))

    -- and all its states are handled
    pub pass_grown : end ≡ tail → Grown w have hit row queue tail
    pass_grown e =
        let z : q ≡ tail = omega (arith, here) in
        record {
          counted = record { counts = rw z at was.work.counts; listed = was.work.listed; handled = omega arith; row-long = was.work.stamped.long };
          hit_is = rw z at was.work.hit_is;
          closed = λ s l ripe_now out. ripe_in (pass_of w f pass s) (ripe w (tally w.moves w.from (into w.to q queue)) (get_or w.block s 0)) (pass + 2) (omega arith)
              (rw z ripe_now) (sym (was.work.stamped.cell s l) ∙ out);
        }

-- ## The first pass

module _ (w : Net) {q : ℕ} {have row₀ queue₀ : List ℕ} {tail₀ : ℕ} (counted : Counted w.states w.moves w.from w.to q have row₀ queue₀ tail₀)
    {hit : List ℕ} (struck : Holds w.states hit (hits w (tally w.moves w.from (into w.to q queue₀))))
    {J : ℕ → Bool} (due : (s : ℕ) → s < w.states → pass_at row₀ s ≡ 0 → J s ≡ ripe w (tally w.moves w.from (into w.to q queue₀)) (get_or w.block s 0))
    {row queue : List ℕ} {tail : ℕ} (joined-now : Joined w.states J 2 row₀ queue₀ tail₀ row queue tail) where
  same : into w.to q queue ≡ into w.to q queue₀
  same = into-alike w.to q queue queue₀ (λ i l. joined-now.alike i (omega (arith, counted.handled)))

  -- the blocks that are ripe by what is counted have joined
  pub pass_first : Passing w (pass_at row₀) 0 tail₀ q have hit row queue tail
  unfolding stamp_from
  pass_first = record {
    work = record {
      counts = rw same counted.counts;
      hit_is = rw same struck;
      stamped = rw same (holds_cong joined-now.stamped (λ s l. joins s l (pass_at row₀ s) refl));
      listed = joined-now.listed;
    };
    low = counted.handled;
    some = joined-now.more;
    steps = omega arith;
    known = λ c l. done-alike tail₀ queue queue₀ joined-now.alike c ∙ counted.listed.all c l;
  }
    where
      joins : (s : ℕ) → s < w.states → (v : ℕ) → pass_at row₀ s ≡ v
          → pass_no (pass_at row₀ s) (J s) 2 ≡ pass_no (pass_at row₀ s) (ripe w (tally w.moves w.from (into w.to q queue₀)) (get_or w.block s 0)) 2
      joins s l zero e = ap (λ (x : Bool). pass_no (pass_at row₀ s) x 2) (due s l e)
      joins s l (suc v) e = sym (pass_had (pass_at row₀ s) (J s) 2 (λ z. absurd (omega arith))) ∙ pass_had (pass_at row₀ s) _ 2 (λ z. absurd (omega arith))

-- the numbers of a pass, as its loops ask for them
pub record Within (w : Net) (pass end q tail : ℕ) : Type 0 where
  pub number_fits : Fits w64 (pass + 2)
  pub number_short : Fits w16 (pass + 2)
  pub number_some : 1 ≤ pass + 2
  pub in_queue : q < end → q < tail
  pub all_in : tail ≤ end → end ≡ tail
  pub pass_less : end < tail → w.states - tail < w.states - end

module _ {w : Net} (sound : Sound w) {pass end q : ℕ} {have hit row queue : List ℕ} {tail : ℕ} where
  pub pass_within : {f : ℕ → ℕ} → Passing w f pass end q have hit row queue tail → Within w pass end q tail
  pass_within was =
      let low = was.steps in
      let some = was.some in
      let few = sound.few-states in
      let tails : tail ≤ w.states = omega (arith, was.work.listed.as_many, count-le w.states (is_in row)) in
      record {
        number_fits = omega arith;
        number_short = omega arith;
        number_some = omega arith;
        in_queue = λ l. omega arith;
        all_in = λ l. omega arith;
        pass_less = λ l. omega arith;
      }

  -- what holds within a pass, of some passes before it and of those that P tells, holds after one state more
  pub turn_on : {P : (ℕ → ℕ) → Type 0} → (f : ℕ → ℕ) × Passing w f pass end q have hit row queue tail → ((f : ℕ → ℕ) → P f → Passing w f pass end q have hit row queue tail)
      → {have' hit' row' queue' : List ℕ} {tail' : ℕ} → q < end → Handled w (pass_at row) (pass + 2) (q + 1) queue have' hit' row' queue' tail' → tail ≤ tail' → Alike tail queue' queue
      → ((f : ℕ → ℕ) × Passing w f pass end (q + 1) have' hit' row' queue' tail') × ((f : ℕ → ℕ) → P f → Passing w f pass end (q + 1) have' hit' row' queue' tail')
  turn_on was all l since more alike = ((was.0, pass_on sound was.0 was.1 l since more alike), λ f p. pass_on sound f (all f p) l since more alike)

-- ripe by the rows is ripe by the counts
pub ripe-rows : (w : Net) (t : ℕ → ℕ) (hit : List ℕ) (b : ℕ) → get_or hit b 0 ≡ hits w t b → ripe_by w.whole w.size hit b ≡ ripe w t b
unfolding ripe
ripe-rows w t hit b e = rw e refl

-- hits counted by the row of what each state has
pub hits-rows : (n : ℕ) (block need : List ℕ) {have hit : List ℕ} {t : ℕ → ℕ} → Holds n have t → Holds n hit (hits_of n block need (λ s. get_or have s 0)) → Holds n hit (hits_of n block need t)
unfolding hits_of
hits-rows n block need {have} {hit} {t} counts struck = holds_cong struck (λ b _. count_cong n _ _ (λ s l. rw (counts.cell s l) refl))

-- a growth begins: the hits are counted, and the ripe blocks have joined
pub grow_first : (w : Net) → Sound w → {q : ℕ} {have row₀ queue₀ : List ℕ} {tail₀ : ℕ} → Counted w.states w.moves w.from w.to q have row₀ queue₀ tail₀
    → {hit : List ℕ} → Holds w.states hit (hits_of w.states w.block w.need (λ s. get_or have s 0))
    → {row queue : List ℕ} {tail : ℕ} → Joined w.states (λ s. ripe_by w.whole w.size hit (get_or w.block s 0)) 2 row₀ queue₀ tail₀ row queue tail
    → Passing w (pass_at row₀) 0 tail₀ q have hit row queue tail
grow_first w sound {q} {have} {row₀} {queue₀} {tail₀} counted {hit} struck joined-now =
    let struck-by = hits-rows w.states w.block w.need counted.counts struck in
    pass_first w counted struck-by
    (λ s l _. ripe-rows w (tally w.moves w.from (into w.to q queue₀)) hit (get_or w.block s 0) (struck-by.cell (get_or w.block s 0) (sound.blocks.below s l)))
    joined-now
