-- What the rows at work say in 01's words: the marks, and the decision.
use mathlib.Core.Path.{◌≡◌, refl, sym, ap, ap₂, subst, ◌∙◌}
use mathlib.Core.Bool.{Bool, true, false, not, ◌&&◌, cond, true≢false}
use mathlib.Core.List.{List}
use mathlib.Core.Logic.{⊎_elim}
use Prim.Native.Nat.{ℕ, ◌≤◌, ◌<◌}
use native.Mathlib.Nat.{le_refl}
use native.Mathlib.Omega.{arith}
use lib.ListN.{length, get_or, take}
use lib.Dec.{eqb, leb, ltb}
use borrow.Author.Tests.{eq-eqb, ne_eqb, lt-ltb}
use Rattle.arena.proofs.Loops.{le_or_lt}
use Rattle.std.specs.Prelude.{Some, None}
use Rattle.std.specs.Option.{is_some}
use Rattle.std.specs.List.{position, position_or_len, zip}
use Rattle.std.proofs.lemmas.List.{get_or-take, length-take-le}
use Rattle.std.proofs.lemmas.List.Recursion.{is_position_or_len}
use Rattle.std.proofs.lemmas.List.Quantifiers.{position-Some}
use Rattle.std.proofs.lemmas.List.Sums.{prefix_len-le-length}
use Rattle.std.proofs.lemmas.Slice.Zip.{get_or-zip, length-zip}
use Rattle.arena.specs.Sets.{Set, some, least}
use Rattle.arena.specs.Arena.{Arena}
use Rattle.arena.specs.Win.{Goal, to_reach, to_stay}
use Rattle.arena.proofs.Tests.{not-not, is_true, holds}
use Rattle.arena.proofs.Least.{least-none, least-done, least_cong}
use Rattle.game.specs.Game.{state_no, marked, marks_at, block_at, initials, targets}
use Rattle.game.specs.Published.{goal_of, arena_of}
use Rattle.game.specs.declared.StateNo.{StateNo}
use Rattle.game.specs.declared.Game.{Game}
use Rattle.blocks.specs.Round.{sure, possible, inside_step}
use Rattle.blocks.specs.Hunt.{hunter, prey, lower, upper}
use Rattle.blocks.proofs.Sound.{sure-possible}
use Rattle.blocks.proofs.Hunt.{lower-upper, sure-reach, possible-reach, sure_stay, possible_stay}
use Rattle.growth.specs.Stamp.{is_in}
use Rattle.growth.proofs.Stamp.{stamp-grow}
use Rattle.runs.specs.Run.{sure_states, possible_states, YES, NO, OPEN, word, named_start}
use Rattle.runs.specs.Hunting.{hunting_side, prey_states, lower_states, upper_states}
use Rattle.solver.specs.Rules.{mark}
use Rattle.solver.specs.Work.{mark_no, Worked, lowest_start, start_found, decision_by}
use Rattle.solver.specs.Solve.{decision_of}
use Rattle.solver.specs.declared.Decision.{Decision}
use Rattle.solver.specs.declared.Decision.TheVariants.{Yes, No, Open}

-- ## Marks

-- the mark of a state by the hunter's sets
mark_by : (g : Game) (s : ℕ) → s < g.states
    → cond (not (lower_states g s)) (cond (not (upper_states g s)) (cond (eqb g.objective 1) 0 2) 1) (cond (eqb g.objective 1) 2 0) ≡ mark g s
unfolding mark arena_of
mark_by g s l =
    go (eqb g.objective 1)
    (λ e. is_true (upper_states g s) (lower-upper G B (hunting_side g) (prey_states g) s l (holds (lower_states g s) e)))
  where
    G : Arena
    G = arena_of g

    B : ℕ → ℕ
    B = block_at g

    A : Set
    A = targets g

    one_way : (lo up : Bool) → ◌≡◌ {A = ℕ} (cond (not lo) (cond (not up) 0 1) 2) (cond lo 2 (cond up 1 0))
    one_way true up = refl
    one_way false true = refl
    one_way false false = refl

    other_way : (lo up : Bool) → (lo ≡ true → up ≡ true) → ◌≡◌ {A = ℕ} (cond (not lo) (cond (not up) 2 1) 0) (cond (not up) 2 (cond (not lo) 1 0))
    other_way true true h = refl
    other_way true false h = absurd (true≢false (sym (h refl)))
    other_way false true h = refl
    other_way false false h = refl

    -- by the goal of the game: reach where the objective is 1, and stay otherwise
    goal : Bool → Goal
    goal b = cond b to_reach to_stay

    low : Goal → Bool
    low o = lower G B (hunter o) (prey o A) s

    high : Goal → Bool
    high o = upper G B (hunter o) (prey o A) s

    go : (b : Bool) → (low (goal b) ≡ true → high (goal b) ≡ true)
        → ◌≡◌ {A = ℕ} (cond (not (low (goal b))) (cond (not (high (goal b))) (cond b 0 2) 1) (cond b 2 0)) (cond (sure G B (goal b) A s) 2 (cond (possible G B (goal b) A s) 1 0))
    go true h = rw (sure-reach G B A, possible-reach G B A) (one_way (low to_reach) (high to_reach))
    go false h = rw (sure_stay G B A, possible_stay G B A) (other_way (low to_stay) (high to_stay) h)

-- a place that is 0 is that of a state outside
zero-out : (v : ℕ) (b : Bool) → not (eqb v 0) ≡ b → eqb v 0 ≡ not b
zero-out v b e = sym (not-not (eqb v 0)) ∙ ap not e

module _ {g : Game} {low up : List ℕ} (w : Worked g low up) where
  -- the row of passes says what the hunter surely brings about
  in_lower : (s : ℕ) → s < g.states → is_in low s ≡ lower_states g s
  unfolding lower arena_of
  in_lower s l =
      ap (λ (v : ℕ). not (eqb v 0)) (w.lower_is s l)
      ∙ ap (λ (X : Set). X s) (stamp-grow (inside_step (arena_of g) (block_at g) (hunting_side g)) (prey_states g) g.states)

  -- no pass in the upper row: the hunter may not bring the play there
  pub out-upper : (s : ℕ) → s < g.states → eqb (get_or up s 0) 0 ≡ not (upper_states g s)
  out-upper s l = zero-out (get_or up s 0) (upper_states g s) (w.upper_in s l)

  -- the mark that the code works out is 01's
  pub mark_is : (objective : ℕ) → g.objective ≡ objective → (s : ℕ) → s < g.states → mark_no objective (get_or low s 0) (get_or up s 0) ≡ mark g s
  unfolding mark_no
  mark_is objective e s l =
      subst (λ (o : ℕ). cond (eqb (get_or low s 0) 0) (cond (eqb (get_or up s 0) 0) (cond (eqb o 1) 0 2) 1) (cond (eqb o 1) 2 0) ≡ mark g s) e
      (rw (zero-out (get_or low s 0) (lower_states g s) (in_lower s l), out-upper s l) (mark_by g s l))

-- ## The decision

module _ (g : Game) where
  -- at least open is possible
  mark-possible : (s : ℕ) → s < g.states → leb 1 (mark g s) ≡ possible_states g s
  unfolding mark arena_of
  mark-possible s l =
      go (sure_states g s) (possible_states g s)
      (λ e. is_true (possible_states g s) (sure-possible (arena_of g) (block_at g) (targets g) (goal_of g.objective) s l (holds (sure_states g s) e)))
    where
      go : (a b : Bool) → (a ≡ true → b ≡ true) → leb 1 (cond a 2 (cond b 1 0)) ≡ b
      go true true h = refl
      go true false h = absurd (true≢false (sym (h refl)))
      go false true h = refl
      go false false h = refl

  -- at least sure is sure
  mark-sure : (s : ℕ) → leb 2 (mark g s) ≡ sure_states g s
  unfolding mark
  mark-sure s = go (sure_states g s) (possible_states g s)
    where
      go : (a b : Bool) → leb 2 (cond a 2 (cond b 1 0)) ≡ a
      go true b = refl
      go false true = refl
      go false false = refl

-- the lowest member below n is n where there is none
least_told : (n : ℕ) (X : Set) → eqb (least n X) n ≡ not (some n X)
least_told n X = go (some n X) refl
  where
    go : (b : Bool) → some n X ≡ b → eqb (least n X) n ≡ not b
    go true e = ne_eqb (least n X) n (λ h. true≢false (sym e ∙ least-none n X h))
    go false e = eq-eqb (least n X) n (sym (least-done n n X e (le_refl n) (le_refl n)))

module _ (g : Game) (starts marks : List ℕ) (starts-are : (s : ℕ) → s < g.states → get_or starts s 0 ≡ marks_at g s)
    (marks_are : (s : ℕ) → s < g.states → get_or marks s 0 ≡ mark g s) where
  -- what a search by marks finds
  found_least : (k : ℕ) (X : Set) → ((s : ℕ) → s < g.states → leb k (mark g s) ≡ X s)
      → lowest_start g.states starts marks k ≡ least g.states (λ s. initials g s && X s)
  found_least k X h = least_cong g.states _ _ (λ s l. rw (starts-are s l, marks_are s l, h s l) refl)

  -- what a round says by its marks is what its word says
  pub decision_is : decision_by g.states starts marks ≡ decision_of (word g) g
  unfolding decision_by word named_start
  decision_is =
      rw (found_least 1 (possible_states g) (mark-possible g), found_least 2 (sure_states g) (λ s _. mark-sure g s))
      (rw (least_told g.states maybe, least_told g.states surely) (go (some g.states maybe) (some g.states surely)))
    where
      maybe : Set
      maybe s = initials g s && possible_states g s

      surely : Set
      surely s = initials g s && sure_states g s

      go : (a b : Bool) → cond (not a) No (cond (not b) Open (Yes (state_no (least g.states surely)))) ≡ decision_of (cond (not a) NO (cond b YES OPEN)) g
      go false b = refl
      go true true = refl
      go true false = refl

-- ## The start that a search gave

-- the lowest place of a list that passes is the lowest member of those that do
least_place : {A : Type 0} (p : A → Bool) (d : A) (xs : List A) → least (length xs) (λ s. p (get_or xs s d)) ≡ position_or_len p xs
unfolding least
least_place p d = is_position_or_len (λ xs. least (length xs) (λ s. p (get_or xs s d))) p refl (λ x xs. ap (cond (p x) 0) (omega arith))

module _ (n : ℕ) (starts marks : List ℕ) (wanted : ℕ) (l : n ≤ length starts) (m : n ≤ length marks) where
  abbrev fits : ℕ × ℕ → Bool
  fits p = marked 1 p.0 && leb wanted p.1

  abbrev pairs : List (ℕ × ℕ)
  pairs = zip (take n starts) (take n marks)

  places : length pairs ≡ n
  places = length-zip (take n starts) (take n marks) ∙ rw (length-take-le n starts l, length-take-le n marks m) (omega arith)

  place_is : position_or_len fits pairs ≡ lowest_start n starts marks wanted
  place_is =
      let one : length (take n starts) ≡ n = length-take-le n starts l in
      let two : length (take n marks) ≡ n = length-take-le n marks m in
      sym (least_place fits (0, 0) pairs)
      ∙ ap (λ (k : ℕ). least k (λ s. fits (get_or pairs s (0, 0)))) places
      ∙ least_cong n _ _ (λ s b. ap fits (get_or-zip (take n starts) (take n marks) s (0, 0) (omega arith) (omega arith) ∙ ap₂ (λ x y. (x, y)) (get_or-take n starts s 0 b) (get_or-take n marks s 0 b)))

  -- a search through both rows finds no place
  pub found-none : None ≡ position fits pairs → None ≡ start_found n starts marks wanted
  found-none = go (ltb (position_or_len fits pairs) (length pairs)) refl
    where
      go : (b : Bool) → ltb (position_or_len fits pairs) (length pairs) ≡ b → None ≡ cond b (Some (position_or_len fits pairs)) None → None ≡ start_found n starts marks wanted
      go true e q = let z : ◌≡◌ {A = ℕ} 0 1 = cc in absurd (omega arith)
      go false e q =
          let most = prefix_len-le-length (λ p. not (fits p)) pairs in
          let last : lowest_start n starts marks wanted ≡ n = omega (arith, place_is, places, most, not-below e) in
          rw (eq-eqb (lowest_start n starts marks wanted) n last) refl
        where
          not-below : ltb (position_or_len fits pairs) (length pairs) ≡ false → length pairs ≤ position_or_len fits pairs
          not-below e = ⊎_elim (λ (h : length pairs ≤ position_or_len fits pairs). h)
              (λ (h : position_or_len fits pairs < length pairs). absurd (true≢false (sym (lt-ltb _ _ h) ∙ e)))
              (le_or_lt (length pairs) (position_or_len fits pairs))

  -- it finds one
  pub found_start : (i : ℕ) → Some i ≡ position fits pairs → (i < n) × (Some (state_no i) ≡ start_found n starts marks wanted)
  found_start i q =
      let found = position-Some fits pairs i (0, 0) (sym q) in
      let is : i ≡ lowest_start n starts marks wanted = go (ltb (position_or_len fits pairs) (length pairs)) q ∙ place_is in (
        omega (arith, found.0, places),
        rw (ne_eqb (lowest_start n starts marks wanted) n (λ e. omega (arith, e, is, found.0, places)), is) refl,
      )
    where
      go : (b : Bool) → Some i ≡ cond b (Some (position_or_len fits pairs)) None → i ≡ position_or_len fits pairs
      go true q = cc
      go false q = let z : ◌≡◌ {A = ℕ} 0 1 = cc in absurd (omega arith)

-- ## The decision, from what two searches gave

module _ (n : ℕ) (starts marks : List ℕ) where
  -- no start is at least open
  pub decided_no : is_some (start_found n starts marks 1) ≡ false → No ≡ decision_by n starts marks
  unfolding decision_by
  decided_no = go (eqb (lowest_start n starts marks 1) n) _ _
    where
      go : (b : Bool) (v : StateNo) (d : Decision) → is_some (cond b None (Some v)) ≡ false → No ≡ cond b No d
      go true v d p = refl
      go false v d p = absurd (true≢false p)

  module _ (some-open : is_some (start_found n starts marks 1) ≡ true) where
    -- some start is open, and none is sure
    pub decided_open : None ≡ start_found n starts marks 2 → Open ≡ decision_by n starts marks
    unfolding decision_by
    decided_open = go (eqb (lowest_start n starts marks 1) n) (eqb (lowest_start n starts marks 2) n) _ _ some-open
      where
        go : (b d : Bool) (v s : StateNo) → is_some (cond b None (Some v)) ≡ true → None ≡ cond d None (Some s) → Open ≡ cond b No (cond d Open (Yes s))
        go true d v s p q = absurd (true≢false (sym p))
        go false true v s p q = refl
        go false false v s p q = let z : ◌≡◌ {A = ℕ} 0 1 = cc in absurd (omega arith)

    -- s is the lowest start that is sure
    pub decided_yes : (s : StateNo) → Some s ≡ start_found n starts marks 2 → Yes s ≡ decision_by n starts marks
    unfolding decision_by
    decided_yes s = go (eqb (lowest_start n starts marks 1) n) (eqb (lowest_start n starts marks 2) n) _ _ some-open
      where
        go : (b d : Bool) (v t : StateNo) → is_some (cond b None (Some v)) ≡ true → Some s ≡ cond d None (Some t) → Yes s ≡ cond b No (cond d Open (Yes t))
        go true d v t p q = absurd (true≢false (sym p))
        go false true v t p q = let z : ◌≡◌ {A = ℕ} 0 1 = cc in absurd (omega arith)
        go false false v t p q = cc
