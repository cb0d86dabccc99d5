-- A block is split in two parts: the chains, the sizes and the hits of the parts.
use mathlib.Core.Path.{◌≡◌, refl, sym, ap, ◌∙◌}
use mathlib.Core.Bool.{Bool, true, false, not, ◌&&◌, cond, beq}
use mathlib.Core.List.{List}
use Prim.Native.Nat.{ℕ, ◌≤◌, ◌<◌}
use native.Mathlib.Decide.{ℕ_discrete}
use native.Mathlib.Omega.{arith}
use lib.ListN.{get_or, set}
use lib.Dec.{T, eqb, leb, ltb, eqb→eq, eqb_refl, le→leb, lt→ltb}
use borrow.Author.Tests.{eq-eqb, ne_eqb}
use Rattle.arena.specs.Sets.{Set, count, least}
use Rattle.arena.proofs.Tests.{T_ext, is_true, is_false, holds, fails, and_intro, and_l, and_r}
use Rattle.arena.proofs.Sets.{some_intro, count_pos, least_hit, least-le}
use Rattle.blocks.specs.Parts.{apart}
use Rattle.growth.specs.Stamp.{pass_at}
use Rattle.chains.specs.Lent.{Holds, Names, many_of, cell_at, last_below, rechained, Gathered}
use Rattle.growth.specs.Net.{net, hits_of, ripe, tally}
use Rattle.growth.specs.Queue.{into, Grown, Regrowing}
use Rattle.chains.proofs.Chains.{last_cong}
use Rattle.chains.proofs.Counts.{count_cong, count_none, holds_store}
use Rattle.growth.proofs.Passing.{hits-rows}

-- keys that are c at the same places
many_cong : (key key' : List ℕ) (c m : ℕ) → ((k : ℕ) → k < m → eqb (get_or key k 0) c ≡ eqb (get_or key' k 0) c) → many_of m key c ≡ many_of m key' c
unfolding many_of
many_cong key key' c m h = count_cong m _ _ h

-- two stores: f' has the two values there, and is f elsewhere
holds_two : {n : ℕ} {row : List ℕ} {f f' : ℕ → ℕ} (b c : ℕ) → b < n → c < n → (c ≡ b → ⊥) → Holds n row f → {v u : ℕ} → v ≡ f' b → u ≡ f' c
    → ((x : ℕ) → (x ≡ b → ⊥) → (x ≡ c → ⊥) → f x ≡ f' x) → Holds n (set (set row b v) c u) f'
holds_two {n} {row} {f} {f'} b c low some-c differ was {v} {u} p q keep =
    holds_store {f = λ x. cond (eqb x b) v (f x)} c u
    (holds_store b v was low (rw (eq-eqb b b refl) refl) (λ x _ ne. rw (ne_eqb x b ne) refl)) some-c q
    (λ x _ nc. elim (ℕ_discrete x b) [
      | yes e ↦ rw (e, eq-eqb b b refl) p
      | no nb ↦ rw (ne_eqb x b nb) (keep x nb nc)
    ])

module _ {n : ℕ} {block : List ℕ} (names : Names n block) {b : ℕ} (low : b < n) (name : get_or block b 0 ≡ b) (C : Set) where
  -- the part that leaves
  abbrev pub leaving : Set
  leaving = apart (cell_at block) b C

  same-side : (x : Bool) → not (beq x x) ≡ false
  same-side true = refl
  same-side false = refl

  b_stays : leaving b ≡ false
  b_stays = rw (name, eq-eqb b b refl) (same-side (C b))

  module _ {c : ℕ} (new : c ≡ least n leaving) (some-c : c < n) where
    c_leaves : T (leaving c)
    c_leaves = rw new (least_hit n leaving (rw (← new) some-c))

    in_b : get_or block c 0 ≡ b
    in_b = eqb→eq (get_or block c 0) b (and_l (eqb (get_or block c 0) b) (not (beq (C c) (C b))) c_leaves)

    pub differ : c ≡ b → ⊥
    differ e = fails (leaving b) b_stays (rw e at c_leaves)

    -- c was no block's name
    no_name : (s : ℕ) → s < n → get_or block s 0 ≡ c → ⊥
    no_name s l e = differ (sym (sym in_b ∙ ap (λ (x : ℕ). get_or block x 0) (sym e) ∙ names.own s l ∙ e))

    module _ {finer : List ℕ} (renamed : Holds n finer (λ s. cond (leaving s) c (get_or block s 0))) where
      -- who is in the one part, in the other, and in another block
      part-one : (s : ℕ) → s < n → eqb (get_or finer s 0) b ≡ (eqb (get_or block s 0) b && beq (C s) (C b))
      part-one s l = rw (renamed.cell s l) (go (eqb (get_or block s 0) b) refl (beq (C s) (C b)))
        where
          go : (x : Bool) → eqb (get_or block s 0) b ≡ x → (y : Bool) → eqb (cond (x && not y) c (get_or block s 0)) b ≡ (x && y)
          go true e true = e
          go true e false = ne_eqb c b differ
          go false e y = e

      part-two : (s : ℕ) → s < n → eqb (get_or finer s 0) c ≡ leaving s
      part-two s l = rw (renamed.cell s l) (go (leaving s))
        where
          go : (x : Bool) → eqb (cond x c (get_or block s 0)) c ≡ x
          go true = eq-eqb c c refl
          go false = ne_eqb (get_or block s 0) c (no_name s l)

      part_none : (x : ℕ) → (x ≡ b → ⊥) → (x ≡ c → ⊥) → (s : ℕ) → s < n → eqb (get_or block s 0) x ≡ eqb (get_or finer s 0) x
      part_none x nb nc s l = rw (renamed.cell s l) (go (eqb (get_or block s 0) b) refl (not (beq (C s) (C b))))
        where
          go : (e : Bool) → eqb (get_or block s 0) b ≡ e → (y : Bool) → eqb (get_or block s 0) x ≡ eqb (cond (e && y) c (get_or block s 0)) x
          go true q true = ne_eqb (get_or block s 0) x (λ z. nb (sym z ∙ eqb→eq (get_or block s 0) b (rw q tt))) ∙ sym (ne_eqb c x (λ z. nc (sym z)))
          go true q false = refl
          go false q y = refl

      -- each part is named by its lowest member
      pub none_below_one : (s : ℕ) → s < b → get_or finer s 0 ≡ b → ⊥
      none_below_one s l e =
          let in_block = and_l (eqb (get_or block s 0) b) (beq (C s) (C b)) (rw (← part-one s (omega arith), eq-eqb (get_or finer s 0) b e) tt) in
          let own = eqb→eq (get_or block s 0) b in_block in
          omega (arith, names.below s (omega arith))

      pub none-below-two : (s : ℕ) → s < c → get_or finer s 0 ≡ c → ⊥
      none-below-two s l e = let low' = least-le n leaving s (rw (← part-two s (omega arith), eq-eqb (get_or finer s 0) c e) tt) in omega (arith, new)

      -- ## Chains and sizes

      pub parted : {last before size : List ℕ} → Gathered n block last before size → {first second : List ℕ}
          → Holds n first (rechained finer b before n) → Holds n second (rechained finer c first n)
          → Gathered n finer (set (set last b (last_below finer n b)) c (last_below finer n c)) second (set (set size b (many_of n finer b)) c (many_of n finer c))
      unfolding rechained
      parted {last} {before} {size} was {first} {second} one two = record {
        chains = record {
          lasts = holds_two b c low some-c differ was.chains.lasts refl refl (λ x nb nc. last_cong (cell_at block) (cell_at finer) x n (part_none x nb nc));
          befores = record { long = two.long; cell = λ k l. two.cell k l ∙ chained k l };
        };
        sizes = holds_two b c low some-c differ was.sizes refl refl (λ x nb nc. many_cong block finer x n (part_none x nb nc));
      }
        where
          within : (k : ℕ) → k < n → ltb k n ≡ true
          within k l = is_true (ltb k n) (lt→ltb k n l)

          elsewhere : (k : ℕ) → k < n → (get_or finer k 0 ≡ b → ⊥) → (get_or finer k 0 ≡ c → ⊥) → last_below block k (get_or block k 0) ≡ last_below finer k (get_or finer k 0)
          elsewhere k l nb nc =
              let stays : get_or block k 0 ≡ get_or finer k 0 = eqb→eq (get_or block k 0) (get_or finer k 0) (rw (part_none (get_or finer k 0) nb nc k l) (eqb_refl (get_or finer k 0))) in
              ap (last_below block k) stays ∙ last_cong (cell_at block) (cell_at finer) (get_or finer k 0) k (λ j m. part_none (get_or finer k 0) nb nc j (omega arith))

          chained : (k : ℕ) → k < n → cond (eqb (get_or finer k 0) c && ltb k n) (last_below finer k c) (get_or first k 0) ≡ last_below finer k (get_or finer k 0)
          chained k l = elim (ℕ_discrete (get_or finer k 0) c) [
            | yes e ↦ rw (within k l, e, eq-eqb c c refl) refl
            | no nc ↦ rw (ne_eqb (get_or finer k 0) c nc) (one.cell k l ∙ (elim (ℕ_discrete (get_or finer k 0) b) [
              | yes e ↦ rw (within k l, e, eq-eqb b b refl) refl
              | no nb ↦ rw (ne_eqb (get_or finer k 0) b nb) (was.chains.befores.cell k l ∙ elsewhere k l nb nc)
            ]))
          ]

      -- ## Hits

      hits-none : (need : List ℕ) (t : ℕ → ℕ) (x : ℕ) → (x ≡ b → ⊥) → (x ≡ c → ⊥) → hits_of n block need t x ≡ hits_of n finer need t x
      unfolding hits_of
      hits-none need t x nb nc = count_cong n _ _ (λ s l. ap (λ (y : Bool). y && leb (get_or need s 0) (t s)) (part_none x nb nc s l))

      module _ (need : List ℕ) (t : ℕ → ℕ) (meant : (s : ℕ) → C s ≡ leb (get_or need s 0) (t s)) where
        -- one part has what it needs, the other has not
        hits-one : hits_of n finer need t b ≡ cond (C b) (many_of n finer b) 0
        unfolding hits_of many_of
        hits-one = go (C b) refl
          where
            alike : (s : ℕ) → s < n → T (eqb (get_or finer s 0) b) → C s ≡ C b
            alike s l h = same (C s) (C b) (and_r (eqb (get_or block s 0) b) (beq (C s) (C b)) (rw (part-one s l) at h))
              where
                same : (x y : Bool) → T (beq x y) → x ≡ y
                same true true h = refl
                same false false h = refl
                same false true h = elim h [ ]
                same true false h = elim h [ ]

            go : (x : Bool) → C b ≡ x → count n (λ s. eqb (get_or finer s 0) b && leb (get_or need s 0) (t s)) ≡ cond x (count n (λ s. eqb (get_or finer s 0) b)) 0
            go true e = count_cong n _ _ (λ s l. rw (← meant s) (T_ext _ _ (λ h. and_l (eqb (get_or finer s 0) b) (C s) h) (λ h. and_intro (eqb (get_or finer s 0) b) (C s) h (holds (C s) (alike s l h ∙ e)))))
            go false e = count_none n _ (λ s l. rw (← meant s) (is_false _ (λ h. fails (C s) (alike s l (and_l (eqb (get_or finer s 0) b) (C s) h) ∙ e) (and_r (eqb (get_or finer s 0) b) (C s) h))))

        hits-two : hits_of n finer need t c ≡ cond (C b) 0 (many_of n finer c)
        unfolding hits_of many_of
        hits-two = go (C b) refl
          where
            unlike : (s : ℕ) → s < n → T (eqb (get_or finer s 0) c) → C s ≡ not (C b)
            unlike s l h = other (C s) (C b) (and_r (eqb (get_or block s 0) b) (not (beq (C s) (C b))) (rw (part-two s l) at h))
              where
                other : (x y : Bool) → T (not (beq x y)) → x ≡ not y
                other true false h = refl
                other false true h = refl
                other false false h = elim h [ ]
                other true true h = elim h [ ]

            go : (x : Bool) → C b ≡ x → count n (λ s. eqb (get_or finer s 0) c && leb (get_or need s 0) (t s)) ≡ cond x 0 (count n (λ s. eqb (get_or finer s 0) c))
            go true e = count_none n _ (λ s l. rw (← meant s) (is_false _ (λ h. fails (C s) (unlike s l (and_l (eqb (get_or finer s 0) c) (C s) h) ∙ ap not e) (and_r (eqb (get_or finer s 0) c) (C s) h))))
            go false e = count_cong n _ _ (λ s l. rw (← meant s) (T_ext _ _ (λ h. and_l (eqb (get_or finer s 0) c) (C s) h) (λ h. and_intro (eqb (get_or finer s 0) c) (C s) h (holds (C s) (unlike s l h ∙ ap not e)))))

        pub hits_parted : {hit : List ℕ} → Holds n hit (hits_of n block need t)
            → Holds n (set (set hit b (cond (C b) (many_of n finer b) 0)) c (cond (C b) 0 (many_of n finer c))) (hits_of n finer need t)
        hits_parted was = holds_two b c low some-c differ was (sym hits-one) (sym hits-two) (hits-none need t)

-- ## The set that had grown before

-- how many members of a block have what they need, by the counts or by the row of them
hits-alike : (n : ℕ) (block need : List ℕ) {have : List ℕ} {t : ℕ → ℕ} → Holds n have t → (b : ℕ) → hits_of n block need t b ≡ hits_of n block need (λ s. get_or have s 0) b
unfolding hits_of
hits-alike n block need counts b = count_cong n _ _ (λ s l. rw (counts.cell s l) refl)

-- a block is ripe where all its members are hit, and not where none is; elsewhere it is as ripe as its hits and its size say
module _ (n m : ℕ) (from to need block size : List ℕ) (t : ℕ → ℕ) (x : ℕ) where
  ripe_full : (v : ℕ) → hits_of n block need t x ≡ v → get_or size x 0 ≡ v → 1 ≤ v → ripe (net n m true from to need block size) t x ≡ true
  unfolding ripe
  ripe_full v p q l = rw (p, q, is_true (leb 1 v) (le→leb 1 v l)) (is_true (leb v v) (le→leb v v (omega arith)))

  ripe-none : hits_of n block need t x ≡ 0 → ripe (net n m true from to need block size) t x ≡ false
  unfolding ripe
  ripe-none p = rw p refl

  ripe-same : (block' size' : List ℕ) → hits_of n block need t x ≡ hits_of n block' need t x → get_or size x 0 ≡ get_or size' x 0
      → ripe (net n m true from to need block size) t x ≡ ripe (net n m true from to need block' size') t x
  unfolding ripe
  ripe-same block' size' p q = rw (p, q) refl

module _ {n m : ℕ} {from to need block size have hit row queue : List ℕ} {tail : ℕ} (grown : Grown (net n m true from to need block size) have hit row queue tail)
    (names : Names n block) {last before : List ℕ} (gathered : Gathered n block last before size) {b : ℕ} (low : b < n) (name : get_or block b 0 ≡ b) where
  abbrev C : Set
  C s = leb (get_or need s 0) (get_or have s 0)

  abbrev t : ℕ → ℕ
  t = tally m from (into to tail queue)

  module _ {c : ℕ} (new : c ≡ least n (leaving names low name C)) (some-c : c < n) {finer : List ℕ} (renamed : Holds n finer (λ s. cond (leaving names low name C s) c (get_or block s 0)))
      {last' before' size' : List ℕ} (gathered' : Gathered n finer last' before' size') {hit' : List ℕ} (struck : Holds n hit' (hits_of n finer need (λ s. get_or have s 0))) where
    -- the part that has what it needs
    abbrev pub inner : ℕ
    inner = cond (C b) b c

    size_is : (x : ℕ) → x < n → get_or size' x 0 ≡ many_of n finer x
    size_is x l = gathered'.sizes.cell x l

    some_members : (s x : ℕ) → s < n → get_or finer s 0 ≡ x → 1 ≤ many_of n finer x
    unfolding many_of
    some_members s x l e = count_pos n (λ u. eqb (get_or finer u 0) x) (some_intro n (λ u. eqb (get_or finer u 0) x) s l (rw (eq-eqb (get_or finer s 0) x e) tt))

    hits_by : (x : ℕ) → hits_of n finer need t x ≡ hits_of n finer need (λ s. get_or have s 0) x
    hits_by = hits-alike n finer need grown.counted.counts

    -- each of the three kinds of blocks is due exactly if it is the inner part
    due-one : (s : ℕ) → s < n → get_or finer s 0 ≡ b → eqb inner b ≡ ripe (net n m true from to need finer size') t b
    due-one s l e = go (C b) (hits_by b ∙ hits-one names low name C new some-c renamed need (λ u. get_or have u 0) (λ _. refl))
      where
        go : (x : Bool) → hits_of n finer need t b ≡ cond x (many_of n finer b) 0 → eqb (cond x b c) b ≡ ripe (net n m true from to need finer size') t b
        go true h = eq-eqb b b refl ∙ sym (ripe_full n m from to need finer size' t b (many_of n finer b) h (size_is b low) (some_members s b l e))
        go false h = ne_eqb c b (differ names low name C new some-c) ∙ sym (ripe-none n m from to need finer size' t b h)

    due-two : (s : ℕ) → s < n → get_or finer s 0 ≡ c → eqb inner c ≡ ripe (net n m true from to need finer size') t c
    due-two s l e = go (C b) (hits_by c ∙ hits-two names low name C new some-c renamed need (λ u. get_or have u 0) (λ _. refl))
      where
        go : (x : Bool) → hits_of n finer need t c ≡ cond x 0 (many_of n finer c) → eqb (cond x b c) c ≡ ripe (net n m true from to need finer size') t c
        go true h = ne_eqb b c (λ z. differ names low name C new some-c (sym z)) ∙ sym (ripe-none n m from to need finer size' t c h)
        go false h = eq-eqb c c refl ∙ sym (ripe_full n m from to need finer size' t c (many_of n finer c) h (size_is c some-c) (some_members s c l e))

    due-none : (s : ℕ) → s < n → pass_at row s ≡ 0 → (get_or finer s 0 ≡ b → ⊥) → (get_or finer s 0 ≡ c → ⊥)
        → eqb inner (get_or finer s 0) ≡ ripe (net n m true from to need finer size') t (get_or finer s 0)
    due-none s l out nb nc =
        let x = get_or finer s 0 in
        let stays : get_or block s 0 ≡ get_or finer s 0 = eqb→eq (get_or block s 0) (get_or finer s 0) (rw (part_none names low name C new some-c renamed (get_or finer s 0) nb nc s l) (eqb_refl (get_or finer s 0))) in
        let small : get_or finer s 0 < n = rw (← stays) (omega (arith, names.below s l)) in
        not-inner (C b) x nb nc
        ∙ sym (sym (ripe-same n m from to need block size t x finer size'
        (hits-none names low name C new some-c renamed need t x nb nc)
        (gathered.sizes.cell x small ∙ many_cong block finer x n (part_none names low name C new some-c renamed x nb nc) ∙ sym (size_is x small)))
        ∙ is_false (ripe (net n m true from to need block size) t x) (λ h. grown.closed s l (rw stays h) out))
      where
        not-inner : (y : Bool) (x : ℕ) → (x ≡ b → ⊥) → (x ≡ c → ⊥) → eqb (cond y b c) x ≡ false
        not-inner true x nb nc = ne_eqb b x (λ z. nb (sym z))
        not-inner false x nb nc = ne_eqb c x (λ z. nc (sym z))

    -- the inner part is the only block that is ripe now and outside
    pub regrowing : Regrowing (net n m true from to need finer size') (λ s. eqb inner (get_or finer s 0)) have hit' row queue tail
    regrowing = record {
      counted = grown.counted;
      hit_is = hits-rows n finer need grown.counted.counts struck;
      due = λ s l out. elim (ℕ_discrete (get_or finer s 0) b) [
        | yes e ↦ rw e (due-one s l e)
        | no nb ↦ elim (ℕ_discrete (get_or finer s 0) c) [
          | yes e ↦ rw e (due-two s l e)
          | no nc ↦ due-none s l out nb nc
        ]
      ];
    }
