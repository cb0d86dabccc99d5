-- One move more: what it does to the counts, and to the rows at work.
use mathlib.Core.Path.{◌≡◌, refl, sym, ap, ◌∙◌, fun_ext}
use mathlib.Core.Bool.{Bool, true, false, ◌&&◌, ◌||◌}
use mathlib.Core.List.{List}
use Prim.Native.Nat.{ℕ, zero, suc, ◌+◌, ◌≤◌, ◌<◌}
use native.Mathlib.Nat.{add-zero}
use native.Mathlib.Decide.{ℕ_discrete}
use native.Mathlib.Omega.{arith}
use lib.ListN.{get_or, set}
use lib.Dec.{T, eqb, leb, leb→le, le→leb, eqb-suc-zero}
use borrow.Author.Tests.{eq-eqb, ne_eqb}
use Rattle.arena.specs.Sets.{bit}
use Rattle.arena.proofs.Tests.{T_ext, is_true, is_false, and_intro, and_l, and_r}
use Rattle.arena.proofs.Sets.{count_mono}
use Rattle.growth.specs.Stamp.{pass_at, pass_no}
use Rattle.chains.specs.Lent.{Holds}
use Rattle.growth.specs.Net.{Net, goal, Sound, hits_of, hits, ripe}
use Rattle.growth.specs.Queue.{Joined, Work}
use Rattle.chains.proofs.Counts.{count_cong, count_add, holds_store, holds_cong}

-- ## Passes of a state

-- who joins twice with one number joins by either
pub pass_twice : (own : ℕ) (j k : Bool) (number : ℕ) → 1 ≤ number → pass_no (pass_no own j number) k number ≡ pass_no own (j || k) number
unfolding pass_no
pass_twice zero true k (suc number) l = rw (eqb-suc-zero number) refl
pass_twice zero false k number l = refl
pass_twice (suc own) j k number l = rw (eqb-suc-zero own) (rw (eqb-suc-zero own) refl)
pass_twice zero true k zero l = absurd (omega arith)

-- ## Counts

-- one move more from f
abbrev pub bump : (ℕ → ℕ) → ℕ → ℕ → ℕ
bump t f s = t s + bit (eqb f s)

pub bump-other : (t : ℕ → ℕ) (f s : ℕ) → (s ≡ f → ⊥) → t s ≡ bump t f s
bump-other t f s ne = rw (ne_eqb f s (λ p. ne (sym p)), add-zero) refl

pub bump-same : (t : ℕ → ℕ) (f : ℕ) → t f + 1 ≡ bump t f f
bump-same t f = rw (eq-eqb f f refl) refl

-- s has as many moves as it needs
abbrev pub met : Net → (ℕ → ℕ) → ℕ → Bool
met w t s = leb (get_or w.need s 0) (t s)

module _ (w : Net) (t : ℕ → ℕ) (f : ℕ) where
  -- another state has enough as before
  met-other : (s : ℕ) → (s ≡ f → ⊥) → met w t s ≡ met w (bump t f) s
  met-other s ne = ap (λ (v : ℕ). leb (get_or w.need s 0) v) (bump-other t f s ne)

  -- f too, unless it has just enough now
  met-same : (t f + 1 ≡ get_or w.need f 0 → ⊥) → (s : ℕ) → met w t s ≡ met w (bump t f) s
  met-same ne s = elim (ℕ_discrete s f) [
    | yes p ↦ rw p (rw (← bump-same t f)
        (T_ext _ _
        (λ h. le→leb (get_or w.need f 0) (t f + 1) (let q = leb→le (get_or w.need f 0) (t f) h in omega arith))
        (λ h. le→leb (get_or w.need f 0) (t f) (let q = leb→le (get_or w.need f 0) (t f + 1) h in close q))))
    | no p ↦ met-other s p
  ]
    where
      close : get_or w.need f 0 ≤ t f + 1 → get_or w.need f 0 ≤ t f
      close q = elim (ℕ_discrete (t f + 1) (get_or w.need f 0)) [ yes e ↦ absurd (ne e) | no o ↦ omega arith ]

  -- so all blocks are hit as often
  hits-same : (t f + 1 ≡ get_or w.need f 0 → ⊥) → (b : ℕ) → hits w t b ≡ hits w (bump t f) b
  unfolding hits_of
  hits-same ne b = count_cong w.states _ _ (λ s l. ap (λ (x : Bool). eqb (get_or w.block s 0) b && x) (met-same ne s))

  -- a block is hit once more where f has just enough now
  module _ (now : t f + 1 ≡ get_or w.need f 0) where
    hits_more : f < w.states → (b : ℕ) → get_or w.block f 0 ≡ b → hits w (bump t f) b ≡ hits w t b + 1
    unfolding hits_of
    hits_more l b e = count_add w.states _ _ f l
        (rw (eq-eqb _ _ e) (is_false (met w t f) (λ h. let q = leb→le (get_or w.need f 0) (t f) h in omega arith)))
        (rw (eq-eqb _ _ e, ← bump-same t f) (is_true _ (le→leb (get_or w.need f 0) (t f + 1) (omega arith))))
        (λ s m ne. ap (λ (x : Bool). eqb (get_or w.block s 0) b && x) (met-other s ne))

    hits-other : (b : ℕ) → (b ≡ get_or w.block f 0 → ⊥) → hits w t b ≡ hits w (bump t f) b
    unfolding hits_of
    hits-other b ne = count_cong w.states _ _ (λ s l. elim (ℕ_discrete s f) [
      | yes p ↦ rw p (rw (ne_eqb (get_or w.block f 0) b (λ q. ne (sym q))) refl)
      | no p ↦ ap (λ (x : Bool). eqb (get_or w.block s 0) b && x) (met-other s p)
    ])

    ripe-other : (b : ℕ) → (b ≡ get_or w.block f 0 → ⊥) → ripe w t b ≡ ripe w (bump t f) b
    unfolding ripe
    ripe-other b ne = rw (hits-other b ne) refl

-- more moves counted, no fewer blocks that join
pub ripe_mono : (w : Net) (t t' : ℕ → ℕ) → ((s : ℕ) → s < w.states → t s ≤ t' s) → (b : ℕ) → T (ripe w t b) → T (ripe w t' b)
unfolding ripe hits_of
ripe_mono w t t' up b h = and_intro (leb 1 (hits w t' b)) (leb (goal w b) (hits w t' b))
    (le→leb 1 (hits w t' b) (let z = leb→le 1 (hits w t b) (and_l (leb 1 (hits w t b)) (leb (goal w b) (hits w t b)) h) in omega (arith, more)))
    (le→leb (goal w b) (hits w t' b) (let z = leb→le (goal w b) (hits w t b) (and_r (leb 1 (hits w t b)) (leb (goal w b) (hits w t b)) h) in omega (arith, more)))
  where
    more : hits w t b ≤ hits w t' b
    more = count_mono w.states _ _ (λ s l x. and_intro (eqb (get_or w.block s 0) b) (met w t' s) (and_l (eqb (get_or w.block s 0) b) (met w t s) x)
        (le→leb (get_or w.need s 0) (t' s) (let z = leb→le (get_or w.need s 0) (t s) (and_r (eqb (get_or w.block s 0) b) (met w t s) x) in omega (arith, up s l))))

-- a block is ripe by the count of its hits
ripe_by_lem : (w : Net) (t : ℕ → ℕ) (b v : ℕ) → hits w t b ≡ v → 1 ≤ goal w b → ripe w t b ≡ leb (goal w b) v
unfolding ripe
ripe_by_lem w t b v e some-goal = rw e (T_ext _ _ (λ h. and_r (leb 1 v) (leb (goal w b) v) h)
    (λ h. and_intro (leb 1 v) (leb (goal w b) v) (le→leb 1 v (let z = leb→le (goal w b) v h in omega arith)) h))

-- ## The rows at work

module _ {w : Net} (sound : Sound w) {old : ℕ → ℕ} {number : ℕ} {t : ℕ → ℕ} {have hit row queue : List ℕ} {tail : ℕ} (was : Work w old number t have hit row queue tail)
    (f : ℕ) (l : f < w.states) where
  have_more : Holds w.states (set have f (get_or have f 0 + 1)) (bump t f)
  have_more = holds_store f _ was.counts l (ap (λ (x : ℕ). x + 1) (was.counts.cell f l) ∙ bump-same t f) (λ s _. bump-other t f s)

  -- f has not enough yet, or had enough before
  pub work_quiet : (get_or have f 0 + 1 ≡ get_or w.need f 0 → ⊥) → Work w old number (bump t f) (set have f (get_or have f 0 + 1)) hit row queue tail
  unfolding ripe
  work_quiet ne =
      let e : hits w t ≡ hits w (bump t f) = fun_ext (hits-same w t f (λ q. ne (ap (λ (x : ℕ). x + 1) (was.counts.cell f l) ∙ q))) in
      record {
        counts = have_more;
        hit_is = rw (← e) was.hit_is;
        stamped = rw (← e) was.stamped;
        listed = was.listed;
      }

  module _ (enough : get_or have f 0 + 1 ≡ get_or w.need f 0) where
    now : t f + 1 ≡ get_or w.need f 0
    now = ap (λ (x : ℕ). x + 1) (sym (was.counts.cell f l)) ∙ enough

    abbrev b : ℕ
    b = get_or w.block f 0

    low : b < w.states
    low = sound.blocks.below f l

    was_hit : hits w t b ≡ get_or hit b 0
    was_hit = sym (was.hit_is.cell b low)

    hits_now : hits w (bump t f) b ≡ get_or hit b 0 + 1
    hits_now = rw (← was_hit) (hits_more w t f now l b refl)

    hit_more : Holds w.states (set hit b (get_or hit b 0 + 1)) (hits w (bump t f))
    hit_more = holds_store b _ was.hit_is low (sym hits_now) (λ c _. hits-other w t f now c)

    -- the block's ripeness before and now
    ripe_before : ripe w t b ≡ leb (goal w b) (get_or hit b 0)
    ripe_before = ripe_by_lem w t b (get_or hit b 0) was_hit (sound.goal-some f l)

    ripe_now : ripe w (bump t f) b ≡ leb (goal w b) (get_or hit b 0 + 1)
    ripe_now = ripe_by_lem w (bump t f) b (get_or hit b 0 + 1) hits_now (sound.goal-some f l)

    -- the block does not become ripe now
    pub work_hit : (get_or hit b 0 + 1 ≡ goal w b → ⊥) → Work w old number (bump t f) (set have f (get_or have f 0 + 1)) (set hit b (get_or hit b 0 + 1)) row queue tail
    work_hit ne = record {
      counts = have_more;
      hit_is = hit_more;
      stamped = holds_cong was.stamped (λ s _. ap (λ (x : Bool). pass_no (old s) x number) (as_before (get_or w.block s 0)));
      listed = was.listed;
    }
      where
        close : goal w b ≤ get_or hit b 0 + 1 → goal w b ≤ get_or hit b 0
        close q = elim (ℕ_discrete (get_or hit b 0 + 1) (goal w b)) [ yes e ↦ absurd (ne e) | no o ↦ omega arith ]

        as_before : (c : ℕ) → ripe w t c ≡ ripe w (bump t f) c
        as_before c = elim (ℕ_discrete c b) [
          | yes p ↦ rw p (ripe_before ∙ T_ext _ _
              (λ h. le→leb (goal w b) (get_or hit b 0 + 1) (let q = leb→le (goal w b) (get_or hit b 0) h in omega arith))
              (λ h. le→leb (goal w b) (get_or hit b 0) (close (leb→le (goal w b) (get_or hit b 0 + 1) h)))
              ∙ sym ripe_now)
          | no p ↦ ripe-other w t f now c p
        ]

    -- the block becomes ripe, and its members have joined
    pub work_join : {row' queue' : List ℕ} {tail' : ℕ} → 1 ≤ number → get_or hit b 0 + 1 ≡ goal w b → Joined w.states (λ s. eqb b (get_or w.block s 0)) number row queue tail row' queue' tail'
        → Work w old number (bump t f) (set have f (get_or have f 0 + 1)) (set hit b (get_or hit b 0 + 1)) row' queue' tail'
    work_join {row'} Some-number ready joined = record {
      counts = have_more;
      hit_is = hit_more;
      stamped = record {
        long = joined.stamped.long;
        cell = λ s m. joined.stamped.cell s m
            ∙ ap (λ (v : ℕ). pass_no v (eqb b (get_or w.block s 0)) number) (was.stamped.cell s m)
            ∙ pass_twice (old s) (ripe w t (get_or w.block s 0)) (eqb b (get_or w.block s 0)) number Some-number
            ∙ ap (λ (x : Bool). pass_no (old s) x number) (either (get_or w.block s 0));
      };
      listed = joined.listed;
    }
      where
        or_no : (x : Bool) → (x || false) ≡ x
        or_no true = refl
        or_no false = refl

        either : (c : ℕ) → (ripe w t c || eqb b c) ≡ ripe w (bump t f) c
        either c = elim (ℕ_discrete c b) [
          | yes p ↦ rw p (rw (ripe_before, eq-eqb b b refl, ripe_now)
              (rw (
                is_false (leb (goal w b) (get_or hit b 0)) (λ h. let q = leb→le (goal w b) (get_or hit b 0) h in absurd (omega arith)),
                is_true (leb (goal w b) (get_or hit b 0 + 1)) (le→leb (goal w b) (get_or hit b 0 + 1) (omega arith)),
              ) refl))
          | no p ↦ rw (ne_eqb b c (λ q. p (sym q))) (or_no (ripe w t c) ∙ ripe-other w t f now c p)
        ]

-- ## Rows at work, seen from the row at hand

module _ {w : Net} {old : ℕ → ℕ} {number : ℕ} {t : ℕ → ℕ} {have hit row queue : List ℕ} {tail : ℕ} (Some-number : 1 ≤ number) (was : Work w old number t have hit row queue tail) where
  -- what has joined so far is there already
  pub work_anew : Work w (pass_at row) number t have hit row queue tail
  work_anew = record {
    counts = was.counts;
    hit_is = was.hit_is;
    stamped = record {
      long = was.stamped.long;
      cell = λ s m. was.stamped.cell s m
          ∙ sym (ap (λ (x : Bool). pass_no (old s) x number) (twice (ripe w t (get_or w.block s 0))))
          ∙ sym (pass_twice (old s) (ripe w t (get_or w.block s 0)) (ripe w t (get_or w.block s 0)) number Some-number)
          ∙ ap (λ (v : ℕ). pass_no v (ripe w t (get_or w.block s 0)) number) (sym (was.stamped.cell s m));
    };
    listed = was.listed;
  }
    where
      twice : (x : Bool) → (x || x) ≡ x
      twice true = refl
      twice false = refl

  -- what joins from here on has joined since the pass began
  pub work_since : {t' : ℕ → ℕ} {have' hit' row' queue' : List ℕ} {tail' : ℕ} → ((s : ℕ) → s < w.states → t s ≤ t' s)
      → Work w (pass_at row) number t' have' hit' row' queue' tail' → Work w old number t' have' hit' row' queue' tail'
  work_since {t'} up since = record {
    counts = since.counts;
    hit_is = since.hit_is;
    stamped = record {
      long = since.stamped.long;
      cell = λ s m. since.stamped.cell s m
          ∙ ap (λ (v : ℕ). pass_no v (ripe w t' (get_or w.block s 0)) number) (was.stamped.cell s m)
          ∙ pass_twice (old s) (ripe w t (get_or w.block s 0)) (ripe w t' (get_or w.block s 0)) number Some-number
          ∙ ap (λ (x : Bool). pass_no (old s) x number) (later (ripe w t (get_or w.block s 0)) (ripe w t' (get_or w.block s 0)) (ripe_mono w t t' up (get_or w.block s 0)));
    };
    listed = since.listed;
  }
    where
      later : (x y : Bool) → (T x → T y) → (x || y) ≡ y
      later true y h = sym (is_true y (h tt))
      later false y h = refl
