-- The loop of rounds: how it begins, goes on and stops.
use Prim.Native.Nat.{ℕ, suc, ◌+◌, ◌-◌, ◌*◌, ◌≤◌, ◌<◌}
use mathlib.Core.Path.{◌≡◌, refl, sym, ap, subst, ◌∙◌}
use mathlib.Core.Bool.{Bool, true, false, not, ◌||◌, true≢false}
use mathlib.Core.List.{List}
use native.Mathlib.Decide.{ℕ_discrete}
use native.Mathlib.Numerals.{add-one}
use native.Mathlib.Omega.{arith}
use mir.Syntax.{w16, w64}
use mir.Val.{Fits}
use lib.ListN.{length, get_or, set}
use lib.Dec.{eqb, eqb→eq}
use borrow.Author.Tests.{eq-eqb}
use Rattle.arena.specs.Sets.{least}
use Rattle.arena.proofs.Tests.{holds}
use Rattle.arena.proofs.Sets.{some_intro, count_pos}
use Rattle.game.specs.Limits.{max_states}
use Rattle.game.specs.Game.{marked, block_at}
use Rattle.game.specs.Published.{goal_of}
use Rattle.game.specs.Accepted.{AcceptedGame}
use Rattle.game.specs.declared.BlockNo.{BlockNo}
use Rattle.game.specs.declared.Game.{Game}
use Rattle.blocks.specs.Blocks.{block_count, is_block}
use Rattle.blocks.proofs.Split.{block_count-le}
use Rattle.growth.specs.Stamp.{is_in}
use Rattle.chains.specs.Lent.{Holds}
use Rattle.rounds.specs.Border.{bordering, border_answer}
use Rattle.rounds.specs.Renamed.{enough, row_apart}
use Rattle.std.specs.Prelude.{Option, Some, None}
use Rattle.runs.specs.Run.{into_known_states, lowest_first, split_game, round}
use Rattle.runs.specs.Hunting.{upper_states, has_way, caught, catchable}
use Rattle.runs.specs.First.{CatchableBefore}
use Rattle.play.specs.Found.{nothing_found, found_block}
use Rattle.rows.specs.RoundRows.{Present, Saying, Lowered, Underway, Next, Begun, Played, Stopped}
use Rattle.runs.proofs.Rounds.{lowest_found, split-one-more}
use Rattle.runs.proofs.Settled.{round-more, word_open}
use Rattle.blocks.specs.Parts.{apart}
use Rattle.runs.proofs.Undone.{round-states, log-none, log-split}
use Rattle.runs.proofs.First.{uncaught-none, uncaught-more, catchable-none, caught-run, open_run}
use Rattle.rows.proofs.Present.{few-states, present-split, way_is}
use Rattle.rows.proofs.Bordering.{nothing_next, next_found, new_name}

-- an accepted game has a block
some_block : (g : Game) → AcceptedGame g → 1 ≤ block_count g.states (block_at g)
unfolding block_count
some_block g ok =
    let lowest : block_at g 0 ≡ 0 = omega (arith, ok.block-below 0 ok.some-states) in
    count_pos g.states (is_block (block_at g)) (some_intro g.states (is_block (block_at g)) 0 ok.some-states (rw (eq-eqb (block_at g 0) 0 lowest) tt))

-- the first round
pub play-first : {side n m objective : ℕ} {turn starts from to last before need first prey block last' before' size have hit lower queue : List ℕ} {tail : ℕ} (parents names : List ℕ)
    → (v : Begun side n m objective turn starts from to last before need first prey block last' before' size have hit lower queue tail)
    → Played v.game side n m objective turn starts from to last before need first prey block last' before' size have hit lower queue parents names 0 0 tail
unfolding round
play-first {n = n} parents names v = record {
  present = v.present;
  lowered = v.lowered;
  log = log-none v.game n parents names;
  uncaught = uncaught-none v.game;
  hope = catchable-none v.game;
  low = omega arith;
  fewer = subst (λ (k : ℕ). 0 < block_count k (block_at v.game)) v.present.states_is (some_block v.game v.present.accepted);
}

module _ {g : Game} (ok : AcceptedGame g) {side n m objective : ℕ} {turn starts from to last before need first prey block last' before' size have hit lower queue parents names : List ℕ}
    {made clear tail : ℕ} (y : Played g side n m objective turn starts from to last before need first prey block last' before' size have hit lower queue parents names made clear tail) where
  -- the round, for the functions that work on it
  abbrev pub underway : Underway n m from to last before need block last' before' size have hit lower queue tail
  underway = record {
    game = round lowest_first made g;
    side = side;
    objective = objective;
    turn = turn;
    starts = starts;
    first = first;
    prey = prey;
    present = y.present;
    lowered = y.lowered;
  }

  -- there are fewer splits than states
  pub few-splits : made < n
  few-splits = omega (arith, y.fewer, block_count-le n (block_at (round lowest_first made g)))

  pub few_made : made < 512
  few_made = omega (arith, few-splits, few-states y.present)

  pub twice_fits : Fits w64 (2 * made)
  twice_fits = omega (arith, few_made)

  pub due_fits : Fits w64 (2 * made + 1)
  due_fits = omega (arith, few_made)

  pub more_fits : Fits w64 (made + 1)
  more_fits = omega (arith, few_made)

  pub in_log : {l k : ℕ} → max_states ≤ k → l ≡ k → made < l
  in_log h e = omega (arith, few_made)

  pub clear_on : clear ≤ made + 1
  clear_on = omega (arith, y.low)

  -- the hunting side surely has its way: the run ends here
  pub stop_caught : {allowance : ℕ} {lower₀ : List ℕ} {r : Bool} → made ≤ allowance → (made ≡ 0 → lower ≡ lower₀)
      → r ≡ has_way (goal_of objective) n (λ s. marked 1 (get_or starts s 0)) (is_in lower) → r ≡ true → Stopped g allowance lower₀ lower false made clear
  stop_caught {allowance} within kept way is = record {
    within = within;
    ended = λ _. caught-run g ok allowance made within y.uncaught (sym (way_is y.present y.lowered.lower_in way) ∙ is);
    settled = λ z. absurd (true≢false (sym z));
    kept = kept;
  }

  module _ {r : Bool} (way : r ≡ has_way (goal_of objective) n (λ s. marked 1 (get_or starts s 0)) (is_in lower)) (not_yet : r ≡ false) where
    -- it does not
    pub uncaught_now : caught (round lowest_first made g) ≡ false
    uncaught_now = sym (way_is y.present y.lowered.lower_in way) ∙ not_yet

    -- whether it may, by the row of what it may bring about
    pub open_now : {up : List ℕ} {open' : Bool} → Saying n up (upper_states (round lowest_first made g)) → open' ≡ has_way (goal_of objective) n (λ s. marked 1 (get_or starts s 0)) (is_in up) → open' ≡ catchable (round lowest_first made g)
    open_now says e = way_is y.present says e

    module _ {found : Option BlockNo} (answer : found ≡ border_answer n (bordering (round lowest_first made g) side lower)) (allowance : ℕ) {over : Bool} (over-is : over ≡ (nothing_found found || eqb made allowance)) where
      -- no further split, or it may not: the run ends here, or before
      pub stop_last : {lower₀ up : List ℕ} {open' last_one : Bool} → made ≤ allowance → (made ≡ 0 → lower ≡ lower₀) → Saying n up (upper_states (round lowest_first made g))
          → open' ≡ has_way (goal_of objective) n (λ s. marked 1 (get_or starts s 0)) (is_in up) → last_one ≡ (over || not open') → last_one ≡ true → Stopped g allowance lower₀ lower (not open') made clear
      stop_last {lower₀} {up} {open'} within kept says e last_is is = go open' refl
        where
          ends : (x : Option BlockNo) → found ≡ x → (nothing_found x || eqb made allowance) ≡ true → catchable (round lowest_first made g) ≡ true → made ≡ allowance
          ends (Some b) z h c = eqb→eq made allowance (holds _ h)
          ends None z h c = absurd (nothing_next y.present y.lowered found answer z (word_open (round lowest_first made g) uncaught_now c))

          go : (x : Bool) → open' ≡ x → Stopped g allowance lower₀ lower (not open') made clear
          go true z = record {
            within = within;
            ended = λ _. let c = sym (open_now says e) ∙ z in
                open_run g ok allowance made (ends found refl (sym over-is ∙ over_holds z) c) uncaught_now c;
            settled = λ w. absurd (true≢false (sym w ∙ ap not z));
            kept = kept;
          }
            where
              or_no : (a : Bool) → (a || false) ≡ a
              or_no true = refl
              or_no false = refl

              over_holds : open' ≡ true → over ≡ true
              over_holds z = sym (or_no over) ∙ sym (ap (λ (a : Bool). over || not a) z) ∙ sym last_is ∙ is
          go false z = record {
            within = within;
            ended = λ w. absurd (true≢false (sym (ap not z) ∙ w));
            settled = λ _. record { low = y.low; hope = y.hope; lost = sym (open_now says e) ∙ z };
            kept = kept;
          }

      -- a further split is to be made
      module _ (more : over ≡ false) where
        unfinished : (nothing_found found || eqb made allowance) ≡ false
        unfinished = sym over-is ∙ more

        pub allowed-more : made ≤ allowance → made < allowance
        allowed-more within = go found unfinished
          where
            go : (x : Option BlockNo) → (nothing_found x || eqb made allowance) ≡ false → made < allowance
            go (Some b) h = elim (ℕ_discrete made allowance) [ yes e ↦ absurd (true≢false (sym (eq-eqb made allowance e) ∙ h)) | no ne ↦ omega arith ]
            go None h = absurd (true≢false h)

        pub less_left : made ≤ allowance → allowance - (made + 1) < allowance - made
        less_left within = omega (arith, allowed-more within)

        pub allowed-next : made ≤ allowance → made + 1 ≤ allowance
        allowed-next within = omega (arith, allowed-more within)

        pub next_here : Next (round lowest_first made g) n block (found_block found)
        next_here = go found refl unfinished
          where
            go : (x : Option BlockNo) → found ≡ x → (nothing_found x || eqb made allowance) ≡ false → Next (round lowest_first made g) n block (found_block x)
            go (Some b) z h = next_found y.present y.lowered found b answer z
            go None z h = absurd (true≢false h)

        pub next_fits : {b : ℕ} → b ≡ found_block found → Fits w16 b
        next_fits e = omega (arith, next_here.state, few-states y.present)

  -- ## The next round

  module _ {b : ℕ} (next : Next (round lowest_first made g) n block b) {c : ℕ} (new : c ≡ least n (row_apart block b (enough need have))) where
    -- the split makes one block more
    one_more : block_count n (block_at (split_game lowest_first (round lowest_first made g))) ≡ suc (block_count n (block_at (round lowest_first made g)))
    unfolding split_game
    one_more =
        let h = round lowest_first made g in
        subst (λ (k : ℕ). block_count k (block_at (split_game lowest_first h)) ≡ suc (block_count k (block_at h))) y.present.states_is
        (split-one-more lowest_first h y.present.accepted
        (lowest_found h (subst (λ (c : ℕ). c < h.states) next.here (rw y.present.states_is next.state))))

    pub play-next : (clear' : ℕ) {finer last₁ before₁ size₁ have₁ hit₁ lower₁ queue₁ : List ℕ} {tail₁ : ℕ}
        → caught (round lowest_first made g) ≡ false → CatchableBefore g clear' → clear' ≤ made + 1 → made < length parents → made < length names
        → Holds n finer (block_at (split_game lowest_first (round lowest_first made g))) → Lowered (split_game lowest_first (round lowest_first made g)) n m from to need finer last₁ before₁ size₁ have₁ hit₁ lower₁ queue₁ tail₁
        → Played g side n m objective turn starts from to last before need first prey finer last₁ before₁ size₁ have₁ hit₁ lower₁ queue₁ (set parents made b) (set names made c) (made + 1) clear' tail₁
    play-next clear' {finer} {last₁} {before₁} {size₁} {have₁} {hit₁} {lower₁} {queue₁} {tail₁} uncaught hope low long-parents long-names blocks lowered = record {
      present = subst (λ (h : Game). Present h side n m objective turn starts from to last before need first prey finer) here (present-split y.present blocks);
      lowered = subst (λ (h : Game). Lowered h n m from to need finer last₁ before₁ size₁ have₁ hit₁ lower₁ queue₁ tail₁) here lowered;
      log = log-split y.log long-parents long-names b c ok states-here next.here next.state name-here;
      uncaught = uncaught-more g made uncaught;
      hope = hope;
      low = low;
      fewer = subst (λ (h : Game). made + 1 < block_count n (block_at h)) here (omega (arith, one_more, y.fewer));
    }
      where
        here : split_game lowest_first (round lowest_first made g) ≡ round lowest_first (made + 1) g
        here = sym (round-more lowest_first made g) ∙ ap (λ (k : ℕ). round lowest_first k g) (sym (add-one made))

        states-here : g.states ≡ n
        states-here = sym (round-states lowest_first made g) ∙ y.present.states_is

        name-here : c ≡ least n (apart (block_at (round lowest_first made g)) b (into_known_states (round lowest_first made g)))
        name-here = new_name y.present y.lowered next.state new ∙ ap (λ (k : ℕ). least k (apart (block_at (round lowest_first made g)) b (into_known_states (round lowest_first made g)))) y.present.states_is

-- a split was made
pub some_made : (k : ℕ) → k + 1 ≡ 0 → ⊥
some_made k e = omega arith

-- neither of two tests holds
pub neither : (a b : Bool) {r : Bool} → r ≡ (a || b) → r ≡ false → (a ≡ false) × (b ≡ false)
neither true b e z = absurd (true≢false (sym e ∙ z))
neither false b e z = (refl, sym e ∙ z)
