-- What the rows of a run tell, and how they go on with a split.
use Prim.Native.Nat.{ℕ, zero, suc, ◌≤◌, ◌<◌, zero-le}
use mathlib.Core.Path.{◌≡◌, refl, sym, ap, subst, ◌∙◌, fun_ext}
use mathlib.Core.Bool.{Bool, true, false, not, ◌||◌}
use mathlib.Core.List.{List}
use native.Mathlib.Omega.{arith}
use lib.ListN.{get_or}
use lib.Dec.{eqb}
use Rattle.arena.specs.Sets.{Set, bit}
use Rattle.arena.specs.Arena.{Side}
use Rattle.arena.specs.Win.{Goal, to_reach, to_stay}
use Rattle.arena.specs.Passes.{grow}
use Rattle.arena.proofs.Loops.{some_cong, every_cong}
use Rattle.game.specs.Limits.{max_states, max_moves}
use Rattle.game.specs.Game.{marked, block_at, initials}
use Rattle.game.specs.Published.{side_of, goal_of, arena_of}
use Rattle.game.specs.declared.Game.{Game}
use Rattle.game.proofs.Ranged.{accepted-ranged}
use Rattle.blocks.specs.Round.{inside_step, meets_step}
use Rattle.blocks.specs.Hunt.{lower, upper}
use Rattle.growth.specs.Stamp.{is_in, entered, pass_at, stamp_from, stamp, joining}
use Rattle.chains.specs.Lent.{Holds, Names, need_of, Lent}
use Rattle.blocks.proofs.Hunt.{lower-upper}
use Rattle.growth.proofs.Stamp.{entered_no, stamp_cong}
use Rattle.growth.proofs.Says.{joining_mono}
use Rattle.arena.proofs.Sets.{Sub}
use Rattle.arena.proofs.Passes.{Mono, grow-le, grow_between}
use Rattle.runs.specs.Run.{lowest_first, split_game}
use Rattle.runs.specs.Hunting.{hunting_side, prey_states, lower_states, upper_states, has_way}
use Rattle.rows.specs.RoundRows.{Present, Saying}
use Rattle.runs.proofs.Rounds.{split-accepted}

module _ {g : Game} {side n m objective : ℕ} {turn starts from to last before need first prey block : List ℕ}
    (p : Present g side n m objective turn starts from to last before need first prey block) where
  -- the rows that growth works on
  pub lent : Lent g side n m from to need block
  lent = record {
    ranged = accepted-ranged p.accepted;
    known = p.known;
    states_is = p.states_is;
    moves_is = p.moves_is;
    from_is = p.from_is;
    to_is = p.to_is;
    need_is = p.need_is;
    block_is = p.block_is;
  }

  pub few-states : n ≤ max_states
  few-states = rw (← p.states_is) p.accepted.few-states

  pub few-moves : m ≤ max_moves
  few-moves = rw (← p.moves_is) p.accepted.few-moves

  pub names : Names n block
  names = record {
    below = λ s l. rw (p.block_is.cell s l) (p.accepted.block-below s (rw p.states_is l));
    own = λ s l.
        let small : block_at g s < n = omega (arith, p.accepted.block-below s (rw p.states_is l)) in
        rw (p.block_is.cell s l, p.block_is.cell (block_at g s) small) (p.accepted.block-own s (rw p.states_is l));
  }

  -- the same rows with other blocks, for the game with its border block split
  pub present-split : {finer : List ℕ} → Holds n finer (block_at (split_game lowest_first g)) → Present (split_game lowest_first g) side n m objective turn starts from to last before need first prey finer
  unfolding split_game need_of
  present-split blocks = record {
    accepted = split-accepted lowest_first g p.accepted;
    known = p.known;
    hunts = p.hunts;
    states_is = p.states_is;
    moves_is = p.moves_is;
    objective_is = p.objective_is;
    turn_is = p.turn_is;
    starts_is = p.starts_is;
    from_is = p.from_is;
    to_is = p.to_is;
    chains = p.chains;
    need_is = p.need_is;
    first_is = p.first_is;
    prey_is = p.prey_is;
    block_is = blocks;
  }

-- ## Rows that have grown

-- the set after k further passes
entered-grow : (step : Set → Set) (f : ℕ → ℕ) (k : ℕ) → entered (stamp_from step f k) ≡ grow step (entered f) k
unfolding stamp_from grow
entered-grow step f zero = refl
entered-grow step f (suc k) =
    fun_ext (λ s. entered_no (stamp_from step f k s) (step (entered (stamp_from step f k)) s) (suc k)
    ∙ ap (λ (X : Set). X s || step X s) (entered-grow step f k))

-- what the hunting side surely brings about, and what it may
abbrev pub brought_about : Bool → Game → Set
brought_about true g = lower_states g
brought_about false g = upper_states g

-- the test of the starts by sets that agree on the states
way_cong : (o : Goal) (n : ℕ) (I J X Y : Set) → ((s : ℕ) → s < n → I s ≡ J s) → ((s : ℕ) → s < n → X s ≡ Y s) → has_way o n I X ≡ has_way o n J Y
unfolding has_way
way_cong to_reach n I J X Y i x = some_cong n _ _ (λ s l. rw (i s l, x s l) refl)
way_cong to_stay n I J X Y i x = every_cong n _ _ (λ s l. rw (i s l, x s l) refl)

module _ {g : Game} {side n m objective : ℕ} {turn starts from to last before need first prey block : List ℕ}
    (p : Present g side n m objective turn starts from to last before need first prey block) where
  -- what grows from the prey
  all_grown : (whole : Bool) → grow (joining g side whole) (prey_states g) n ≡ brought_about whole g
  unfolding joining lower upper arena_of
  all_grown true = rw (← p.states_is) (ap (λ (i : Side). grow (inside_step (arena_of g) (block_at g) i) (prey_states g) g.states) p.hunts)
  all_grown false = rw (← p.states_is) (ap (λ (i : Side). grow (meets_step (arena_of g) (block_at g) i) (prey_states g) g.states) p.hunts)

  mono_here : (whole : Bool) → Mono n (joining g side whole)
  mono_here whole = subst (λ (k : ℕ). Mono k (joining g side whole)) p.states_is (joining_mono g side whole)

  -- a row that has grown from a set between the prey and all of it says all of it
  pub grown-set : (whole : Bool) (row₀ : List ℕ) {row : List ℕ} → Holds n row (stamp_from (joining g side whole) (pass_at row₀) n)
      → Sub n (prey_states g) (is_in row₀) → Sub n (is_in row₀) (brought_about whole g) → Saying n row (brought_about whole g)
  grown-set whole row₀ {row} held prey-in in_all = record {
    long = held.long;
    in_row = λ s l.
        ap (λ (v : ℕ). not (eqb v 0)) (held.cell s l)
        ∙ ap (λ (X : Set). X s) (entered-grow (joining g side whole) (pass_at row₀) n)
        ∙ grow_between n (joining g side whole) (mono_here whole) (prey_states g) (is_in row₀) prey-in (λ t m x. rw (all_grown whole) (in_all t m x)) s l
        ∙ ap (λ (X : Set). X s) (all_grown whole);
  }

  -- the prey as a row
  in_prey : (s : ℕ) → s < n → is_in prey s ≡ prey_states g s
  in_prey s l = rw (p.prey_is.cell s l) (go (prey_states g s))
    where
      go : (b : Bool) → not (eqb (bit b) 0) ≡ b
      go true = refl
      go false = refl

  pub prey-first : Sub n (prey_states g) (is_in prey)
  prey-first s l x = rw (in_prey s l) x

  pub prey_grows : (whole : Bool) → Sub n (is_in prey) (brought_about whole g)
  unfolding grow
  prey_grows whole s l x = rw (← all_grown whole) (grow-le (joining g side whole) (prey_states g) 0 n s zero-le (rw (in_prey s l) at x))

  -- what is surely brought about lies between the prey and what may be
  pub lower_between : {row : List ℕ} → Saying n row (lower_states g) → Sub n (prey_states g) (is_in row) × Sub n (is_in row) (upper_states g)
  unfolding arena_of
  lower_between {row} known = (
    (λ s l x. rw (known.in_row s l) (prey_grows true s l (prey-first s l x))),
    (λ s l x. lower-upper (arena_of g) (block_at g) (hunting_side g) (prey_states g) s (rw p.states_is l) (rw (known.in_row s l) at x)),
  )

  -- the passes of a row that has grown from the prey by whole blocks
  pub pass_numbers : {copy row : List ℕ} → Holds n copy (λ s. get_or prey s 0) → Holds n row (stamp_from (joining g side true) (pass_at copy) n)
      → (s : ℕ) → s < g.states → get_or row s 0 ≡ stamp (inside_step (arena_of g) (block_at g) (hunting_side g)) (prey_states g) g.states s
  unfolding joining
  pass_numbers {copy} {row} copied held s l =
      let here : s < n = rw (← p.states_is) l in
      held.cell s here
      ∙ stamp_cong n (joining g side true) (mono_here true) (pass_at copy) (λ t. bit (prey_states g t)) (λ t i. copied.cell t i ∙ p.prey_is.cell t i) n s here
      ∙ ap (λ (k : ℕ). stamp (inside_step (arena_of g) (block_at g) (side_of side)) (prey_states g) k s) (sym p.states_is)
      ∙ ap (λ (i : Side). stamp (inside_step (arena_of g) (block_at g) i) (prey_states g) g.states s) p.hunts

  -- what the test of the starts says by a row
  pub way_is : {X : Set} {row : List ℕ} {r : Bool} → Saying n row X
      → r ≡ has_way (goal_of objective) n (λ s. marked 1 (get_or starts s 0)) (is_in row) → r ≡ has_way (goal_of g.objective) g.states (initials g) X
  way_is {X} {row} known e = e
      ∙ way_cong (goal_of objective) n _ (initials g) (is_in row) X (λ s l. ap (marked 1) (p.starts_is.cell s l)) known.in_row
      ∙ ap (λ (k : ℕ). has_way (goal_of objective) k (initials g) X) (sym p.states_is)
      ∙ ap (λ (o : ℕ). has_way (goal_of o) g.states (initials g) X) (sym p.objective_is)

  -- a copy of the row of what is surely brought about, grown on by blocks that meet
  pub upper-grown : {low copy row : List ℕ} → Saying n low (lower_states g) → Holds n copy (λ s. get_or low s 0)
      → Holds n row (stamp_from (joining g side false) (pass_at copy) n) → Saying n row (upper_states g)
  upper-grown {low} {copy} known copied held =
      let between = lower_between {row = copy} (record { long = copied.long; in_row = λ s l. ap (λ (v : ℕ). not (eqb v 0)) (copied.cell s l) ∙ known.in_row s l }) in
      grown-set false copy held between.0 between.1

  -- a copy of the prey, grown
  pub grown_anew : (whole : Bool) {copy row : List ℕ} → Holds n copy (λ s. get_or prey s 0) → Holds n row (stamp_from (joining g side whole) (pass_at copy) n) → Saying n row (brought_about whole g)
  grown_anew whole {copy} copied held =
      let same : (s : ℕ) → s < n → is_in copy s ≡ is_in prey s = λ s l. ap (λ (v : ℕ). not (eqb v 0)) (copied.cell s l) in
      grown-set whole copy held (λ s l x. rw (same s l) (prey-first s l x)) (λ s l x. prey_grows whole s l (rw (same s l) at x))
