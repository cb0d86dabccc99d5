-- The search for a border block: what is known of a member, of a block, and when the search ends.
use mathlib.Core.Path.{◌≡◌, refl, sym, ap, ◌∙◌}
use mathlib.Core.Bool.{Bool, true, false, not, ◌&&◌, ◌||◌, cond, true≢false}
use mathlib.Core.List.{List}
use mathlib.Core.Logic.{⊎_elim}
use Prim.Native.Nat.{ℕ, zero, suc, ◌+◌, ◌≤◌, ◌<◌, zero-le}
use native.Mathlib.Decide.{le_ind, ℕ_discrete}
use native.Mathlib.Numerals.{add-one}
use native.Mathlib.Omega.{arith}
use lib.ListN.{get_or}
use lib.Dec.{T, eqb}
use borrow.Author.Tests.{eq-eqb, ne_eqb, eqb-true}
use Rattle.arena.specs.Sets.{Set, some, every}
use Rattle.arena.specs.Arena.{forced}
use Rattle.arena.proofs.Tests.{is_true, holds, and_l, and_r, not-not}
use Rattle.arena.proofs.Sets.{lt_suc_cases}
use Rattle.arena.proofs.Loops.{le_or_lt, some_found, some-done, some-none, some_more, every_more}
use Rattle.arena.proofs.Choices.{first-not, second_not, both}
use Rattle.arena.proofs.Least.{least_found}
use Rattle.game.specs.Game.{block_no, turn_at, block_at, from_at, to_at}
use Rattle.game.specs.Published.{side_of, arena_of}
use Rattle.game.specs.declared.Game.{Game}
use Rattle.game.proofs.Ranged.{accepted-ranged}
use Rattle.blocks.specs.Blocks.{meets}
use Rattle.growth.specs.Stamp.{is_in}
use Rattle.chains.specs.Lent.{cell_at, Linked}
use Rattle.chains.specs.declared.lent.Board.{Board}
use Rattle.chains.specs.declared.lent.Members.{Members}
use Rattle.chains.proofs.Chains.{last-le, last_is, last_none}
use Rattle.growth.proofs.Seen.{leads, keeps, seen, seen_none, seen_same, seen_all}
use Rattle.rounds.specs.Border.{bordering, border_answer}
use Rattle.rounds.specs.Search.{first_move, Search}
use Rattle.rounds.specs.Grouped.{SearchOn}
use Rattle.std.specs.Prelude.{Some, None}
use Rattle.rounds.proofs.FirstMoves.{before_first, between_first}

-- ## The members of a block, along its chain

-- in block b the members from state `at` on are passed, each with P; the next one, if `at` is not 0, is the state before it
pub record Passed (n : ℕ) (block : List ℕ) (b : ℕ) (P : ℕ → Type 0) (at : ℕ) : Type 0 where
  pub low : at ≤ n
  pub stands : (s : ℕ) → at ≡ suc s → get_or block s 0 ≡ b
  pub passed : (t : ℕ) → at ≤ t → t < n → get_or block t 0 ≡ b → P t

module _ {n : ℕ} {block last before : List ℕ} (chains : Linked n n block last before) {b : ℕ} {P : ℕ → Type 0} where
  -- before the walk
  pub members_none : b < n → Passed n block b P (get_or last b 0)
  members_none l = rw (chains.lasts.cell b l) (record {
    low = last-le (cell_at block) n b;
    stands = last_is (cell_at block) n b;
    passed = λ t low high e. absurd (last_none (cell_at block) n b t low high e);
  })

  -- one member more
  pub members_more : (at s : ℕ) → Passed n block b P at → at ≡ suc s → P s → Passed n block b P (get_or before s 0)
  members_more at s w e p =
      let own = w.stands s e in
      rw (chains.befores.cell s (omega (arith, w.low)), own) (record {
        low = omega (arith, last-le (cell_at block) s b, w.low);
        stands = last_is (cell_at block) s b;
        passed = λ t low high z. ⊎_elim
            (λ (le : at ≤ t). w.passed t le high z)
            (λ (lt : t < at). ⊎_elim
            (λ (same : t ≡ s). rw same p)
            (λ (lower : t < s). absurd (last_none (cell_at block) s b t low lower z))
            (lt_suc_cases t s (omega arith)))
            (le_or_lt at t);
      })

-- the next member is lower
pub members_less : {n : ℕ} {block last before : List ℕ} → Linked n n block last before → (s : ℕ) → s < n → get_or before s 0 ≤ s
members_less {n} {block} chains s l = rw (chains.befores.cell s l) (last-le (cell_at block) s (get_or block s 0))

-- what the first k moves tell of s, and what move k of s itself adds to it
seen_step : (g : Game) (side : ℕ) (X : Set) (k s : ℕ) → from_at g k ≡ s
    → cond (eqb (turn_at g s) side) (seen g side X k s || X (to_at g k)) (seen g side X k s && X (to_at g k)) ≡ seen g side X (k + 1) s
unfolding seen
seen_step g side X k s e = rw (some_more, every_more, eq-eqb _ _ e) (go (eqb (turn_at g s) side) (some k (leads g X s)) (every k (keeps g X s)) (X (to_at g k)))
  where
    go : (own a b x : Bool) → cond own (cond own a b || x) (cond own a b && x) ≡ cond own (a || x) (b && x)
    go true a b x = refl
    go false a b x = refl

module _ {g : Game} {side n m : ℕ} {turn first to block last before lower hit : List ℕ} (q : Search g side n m turn first to block last before lower hit) where
  -- ## Where the numbers lie

  -- the moves of a state begin among the moves
  pub first-low : (at : ℕ) → at ≤ n → get_or first at 0 ≤ m
  first-low at l = rw (q.first_is.cell at (omega arith)) (low at)
    where
      low : (at : ℕ) → first_move (from_at g) m at ≤ m
      low zero = zero-le
      low (suc s) = last-le (from_at g) m s

  -- and go to states
  pub to_low : (at : ℕ) → at ≤ n → (k : ℕ) → k < get_or first at 0 → get_or to k 0 < n
  to_low at l k h =
      let few = first-low at l in
      rw (q.to_is.cell k (omega arith)) (omega (arith, q.states_is, q.accepted.to-state k (omega (arith, q.moves_is))))

  -- ## A member, by its moves

  module _ (s at : ℕ) (l : s < n) (e : at ≡ suc s) where
    -- what the first k moves tell of s
    abbrev pub Told : ℕ → Bool → Type 0
    Told k known = known ≡ seen g side (is_in lower) k s

    -- moves that do not leave s tell nothing
    skip : (j k : ℕ) → j ≤ k → ((i : ℕ) → j ≤ i → i < k → from_at g i ≡ s → ⊥) → seen g side (is_in lower) j s ≡ seen g side (is_in lower) k s
    skip j k low = le_ind (λ k. ((i : ℕ) → j ≤ i → i < k → from_at g i ≡ s → ⊥) → seen g side (is_in lower) j s ≡ seen g side (is_in lower) k s) (λ _. refl)
        (λ k le same other. same (λ i a b. other i a (omega arith)) ∙ rw add-one at (seen_same g side (is_in lower) k s (other k le (omega arith)))) k low

    -- where its own moves begin and end
    begins : get_or first s 0 ≡ first_move (from_at g) g.moves s
    begins = rw q.moves_is (q.first_is.cell s (omega arith))

    ends : get_or first at 0 ≡ first_move (from_at g) g.moves (suc s)
    ends = rw (q.moves_is, e) (q.first_is.cell (suc s) (omega arith))

    -- none of its own moves yet
    pub told_none : Told (get_or first s 0) (not (eqb (get_or turn s 0) side))
    told_none = ap (λ (v : ℕ). not (eqb v side)) (q.turn_is.cell s l) ∙ seen_none g side (is_in lower) s
        ∙ skip 0 (get_or first s 0) zero-le (λ i _ b. before_first g q.accepted s i (rw begins at b))

    -- one move more
    pub told_more : (k : ℕ) {known next : Bool} → Told k known → get_or first s 0 ≤ k → k < get_or first at 0
        → next ≡ cond (eqb (get_or turn s 0) side) (known || is_in lower (get_or to k 0)) (known && is_in lower (get_or to k 0)) → Told (k + 1) next
    told_more k {known} z low high w =
        let own = between_first g q.accepted s k (omega (arith, q.states_is)) (rw begins at low) (rw ends at high) in
        let few = first-low at (omega arith) in
        rw (w, q.turn_is.cell s l, q.to_is.cell k (omega arith), z) (seen_step g side (is_in lower) k s own)

    -- all its moves: whether it is in the forced-step set
    pub told_all : (k : ℕ) {known : Bool} → Told k known → get_or first at 0 ≤ k → k ≤ m → known ≡ forced (arena_of g) (side_of side) (is_in lower) s
    told_all k z low high = z ∙ skip k g.moves (omega (arith, q.moves_is))
        (λ i a b. last_none (from_at g) g.moves s i (omega (arith, ends)) b)
        ∙ seen_all g (accepted-ranged q.accepted) side q.known (is_in lower) s (omega (arith, q.states_is))

  -- ## A block

  module _ (b : ℕ) (l : b < n) {r : Bool} (is : r ≡ (eqb (get_or block b 0) b && (eqb (get_or lower b 0) 0 && not (eqb (get_or hit b 0) 0)))) where
    -- the tests of the block, and that of its members
    tested : bordering g side lower b ≡ (eqb (get_or block b 0) b && (eqb (get_or lower b 0) 0 && meets g.states (block_at g) (forced (arena_of g) (side_of side) (is_in lower)) b))
    unfolding bordering
    tested = rw (not-not, q.block_is.cell b l) refl

    -- the members of block b in the forced-step set
    crossing : Set
    crossing t = eqb (block_at g t) (block_at g b) && forced (arena_of g) (side_of side) (is_in lower) t

    -- a block inside the lower row, or without a hit, or no block's number
    pub border-closed : r ≡ false → bordering g side lower b ≡ false
    border-closed e = tested ∙ go (eqb (get_or block b 0) b) refl (eqb (get_or lower b 0) 0) (eqb (get_or hit b 0) 0) refl (sym is ∙ e)
      where
        go : (x : Bool) → eqb (get_or block b 0) b ≡ x → (y h : Bool) → eqb (get_or hit b 0) 0 ≡ h → (x && (y && not h)) ≡ false
            → (x && (y && meets g.states (block_at g) (forced (arena_of g) (side_of side) (is_in lower)) b)) ≡ false
        go true w true true z e = q.unhit b l (sym (q.block_is.cell b l) ∙ eqb-true (get_or block b 0) b w) (eqb-true (get_or hit b 0) 0 z)
        go true w true false z e = absurd (true≢false e)
        go true w false h z e = refl
        go false w y h z e = refl

    module _ (e : r ≡ true) where
      -- both tests of the block hold, so its members decide
      opened : T (eqb (get_or block b 0) b && (eqb (get_or lower b 0) 0 && not (eqb (get_or hit b 0) 0)))
      opened = holds _ (sym is ∙ e)

      named : eqb (get_or block b 0) b ≡ true
      named = is_true _ (and_l (eqb (get_or block b 0) b) (eqb (get_or lower b 0) 0 && not (eqb (get_or hit b 0) 0)) opened)

      outside : eqb (get_or lower b 0) 0 ≡ true
      outside = is_true _ (and_l (eqb (get_or lower b 0) 0) (not (eqb (get_or hit b 0) 0)) (and_r (eqb (get_or block b 0) b) (eqb (get_or lower b 0) 0 && not (eqb (get_or hit b 0) 0)) opened))

      own_number : block_at g b ≡ b
      own_number = sym (q.block_is.cell b l) ∙ eqb-true (get_or block b 0) b named

      by_members : bordering g side lower b ≡ some g.states crossing
      unfolding meets crossing
      by_members = tested ∙ rw (named, outside) refl

      -- a block outside it with no such member
      pub border-none : ((t : ℕ) → t < n → get_or block t 0 ≡ b → forced (arena_of g) (side_of side) (is_in lower) t ≡ false) → bordering g side lower b ≡ false
      unfolding crossing
      border-none none = by_members ∙ some-none g.states crossing (λ t h. elim (ℕ_discrete (block_at g t) (block_at g b)) [
        | yes p ↦ second_not (eqb (block_at g t) (block_at g b)) _ (none t (omega (arith, q.states_is)) (q.block_is.cell t (omega (arith, q.states_is)) ∙ p ∙ own_number))
        | no p ↦ first-not _ _ (ne_eqb (block_at g t) (block_at g b) p)
      ])

      -- and one with such a member
      pub border-member : (s : ℕ) → s < n → get_or block s 0 ≡ b → forced (arena_of g) (side_of side) (is_in lower) s ≡ true → bordering g side lower b ≡ true
      unfolding crossing
      border-member s m w f = by_members ∙ some_found g.states crossing s (omega (arith, q.states_is)) (both _ _ (eq-eqb _ _ (sym (q.block_is.cell s m) ∙ w ∙ sym own_number)) f)

-- no game that the rows are of has state t in the side's forced-step set of the lower row
abbrev pub Outside : Board → List ℕ → Members → List ℕ → List ℕ → ℕ → Type 0
Outside board block members hit lower t =
    (g : Game) → SearchOn g board block members hit lower → forced (arena_of g) (side_of board.side) (is_in lower) t ≡ false

-- ## The answer

-- no block is a border block
pub answer-none : (k n : ℕ) (X : Set) → some k X ≡ false → k ≤ n → n ≤ k → None ≡ border_answer n X
unfolding border_answer
answer-none k n X e l h = rw (sym (some-done k n X e l h)) refl

-- b is the first one
pub answer_found : (n b : ℕ) (X : Set) → b < n → some b X ≡ false → X b ≡ true → Some (block_no b) ≡ border_answer n X
unfolding border_answer
answer_found n b X l none e = rw (some_found n X b l e, ← least_found n b X l none e) refl
