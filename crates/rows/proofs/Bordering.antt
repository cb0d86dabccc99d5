-- The border block of the present round, as the rows tell it, and its split.
use Prim.Native.Nat.{ℕ, ◌<◌}
use mathlib.Core.Path.{◌≡◌, refl, sym, ap, subst, ◌∙◌}
use mathlib.Core.Bool.{Bool, true, false, not, ◌&&◌}
use mathlib.Core.List.{List}
use native.Mathlib.Omega.{arith}
use lib.ListN.{get_or}
use lib.Dec.{T, eqb, leb, eqb→eq}
use Rattle.arena.specs.Sets.{Set, some, least}
use Rattle.arena.specs.Arena.{Side, forced}
use Rattle.arena.proofs.Tests.{holds, and_l}
use Rattle.arena.proofs.Sets.{least-some}
use Rattle.arena.proofs.Loops.{some_cong}
use Rattle.arena.proofs.Least.{least_cong}
use Rattle.arena.proofs.Passes.{mono_ext}
use Rattle.arena.proofs.Forced.{forced_mono}
use Rattle.game.specs.Game.{block_no, block_at, targets}
use Rattle.game.specs.Published.{side_of, goal_of, arena_of}
use Rattle.game.specs.declared.Game.{Game}
use Rattle.game.specs.declared.BlockNo.{BlockNo}
use Rattle.blocks.specs.Blocks.{meets, is_block}
use Rattle.blocks.proofs.Hunt.{known-hunter}
use Rattle.blocks.specs.Parts.{apart}
use Rattle.growth.specs.Stamp.{is_in}
use Rattle.chains.specs.Lent.{Holds}
use Rattle.growth.specs.Net.{tally, hits_of}
use Rattle.growth.specs.Queue.{into}
use Rattle.chains.proofs.Counts.{count-some, holds_cong}
use Rattle.growth.proofs.Walking.{tally_cong}
use Rattle.growth.proofs.Says.{met_is, own_numbers, tos}
use Rattle.rounds.specs.Border.{bordering, border_answer}
use Rattle.rounds.specs.Renamed.{enough, after_split, row_apart}
use Rattle.rounds.specs.Search.{Search}
use Rattle.std.specs.Prelude.{Option, Some, None}
use Rattle.rounds.proofs.RowSets.{bordering-set}
use Rattle.runs.specs.Run.{into_known_states, lowest_first, OPEN, word, split_game}
use Rattle.runs.specs.Hunting.{lower_states}
use Rattle.rows.specs.RoundRows.{Present, Lowered, Next}
use Rattle.runs.proofs.Settled.{next_blocks, next-block, no_next, block_after}
use Rattle.rows.proofs.Present.{lent}

-- what a search found, taken apart
answer_nothing : (n : ℕ) (X : Set) (found : Option BlockNo) → found ≡ border_answer n X → found ≡ None → some n X ≡ false
unfolding border_answer
answer_nothing n X found e none = go (some n X) refl
  where
    go : (x : Bool) → some n X ≡ x → some n X ≡ false
    go true z = let at : found ≡ Some (block_no (least n X)) = e ∙ rw z refl in let o : ◌≡◌ {A = ℕ} 0 1 = cc in absurd (omega arith)
    go false z = z

answer_at : (n : ℕ) (X : Set) (found : Option BlockNo) (b : BlockNo) → found ≡ border_answer n X → found ≡ Some b → (b.0 < n) × (b.0 ≡ least n X) × T (X b.0)
unfolding border_answer
answer_at n X found b e is = go (some n X) refl
  where
    go : (x : Bool) → some n X ≡ x → (b.0 < n) × (b.0 ≡ least n X) × T (X b.0)
    go true z =
        let at : found ≡ Some (block_no (least n X)) = e ∙ rw z refl in
        let same : b.0 ≡ least n X = cc in
        let w = least-some n X (holds (some n X) z) in
        rw same (w.0, refl, w.1)
    go false z = let none : found ≡ None = e ∙ rw z refl in let o : ◌≡◌ {A = ℕ} 0 1 = cc in absurd (omega arith)

module _ {g : Game} {side n m objective : ℕ} {turn starts from to last before need first prey block last' before' size have hit lower queue : List ℕ} {tail : ℕ}
    (p : Present g side n m objective turn starts from to last before need first prey block)
    (q : Lowered g n m from to need block last' before' size have hit lower queue tail) where
  -- the moves that a state has into the lower row, and those that it needs
  met-lower : (s : ℕ) → s < n → leb (get_or need s 0) (tally m from (into to tail queue) s) ≡ forced (arena_of g) (side_of side) (is_in lower) s
  met-lower s l =
      ap (λ (t : ℕ → ℕ). leb (get_or need s 0) (t s)) (tally_cong m from _ _ (λ k i. q.grown.counted.listed.all (get_or to k 0) ((tos (lent p)).below k i)))
      ∙ subst (λ (k : ℕ). leb (get_or need s 0) (tally k from (λ j. is_in lower (get_or to j 0)) s) ≡ forced (arena_of g) (side_of side) (is_in lower) s) p.moves_is
      (met_is (own_numbers (lent p)) (is_in lower) s (rw p.states_is l))

  pub enough_is : (s : ℕ) → s < n → enough need have s ≡ forced (arena_of g) (side_of side) (is_in lower) s
  enough_is s l = ap (leb (get_or need s 0)) (q.grown.counted.counts.cell s l) ∙ met-lower s l

  -- the rows that the search for a border block works on
  pub searched : Search g side n m turn first to block last' before' lower hit
  unfolding meets hits_of
  searched = record {
    accepted = p.accepted;
    known = p.known;
    states_is = p.states_is;
    moves_is = p.moves_is;
    turn_is = p.turn_is;
    first_is = p.first_is;
    to_is = p.to_is;
    block_is = p.block_is;
    chains = q.gathered.chains;
    unhit = λ b l own none. subst (λ (k : ℕ). some k (λ t. eqb (block_at g t) (block_at g b) && forced (arena_of g) (side_of side) (is_in lower) t) ≡ false) (sym p.states_is)
        (some_cong n _ (λ t. eqb (get_or block t 0) b && leb (get_or need t 0) (tally m from (into to tail queue) t)) (λ t i. rw (own, p.block_is.cell t i, met-lower t i) refl)
        ∙ sym (count-some n (λ t. eqb (get_or block t 0) b && leb (get_or need t 0) (tally m from (into to tail queue) t)))
        ∙ ap (leb 1) (sym (q.grown.hit_is.cell b l) ∙ none));
  }

  -- the forced-step set of the lower row is the known set
  pub known_is : (s : ℕ) → s < n → forced (arena_of g) (side_of side) (is_in lower) s ≡ into_known_states g s
  unfolding arena_of
  known_is s l =
      mono_ext g.states (forced (arena_of g) (side_of side)) (forced_mono (arena_of g) (side_of side)) (is_in lower) (lower_states g) (λ t i. q.lower_in.in_row t (rw (← p.states_is) i)) s (rw p.states_is l)
      ∙ ap (λ (i : Side). forced (arena_of g) i (lower_states g) s) p.hunts
      ∙ sym (ap (λ (X : Set). X s) (known-hunter (arena_of g) (block_at g) (targets g) (goal_of g.objective)))

  -- the blocks that the search looks for
  next_is : (b : ℕ) → b < g.states → bordering g side lower b ≡ next_blocks g b
  unfolding arena_of
  next_is b l =
      let known : forced (arena_of g) (side_of side) (lower_states g) ≡ into_known_states g =
      ap (λ (i : Side). forced (arena_of g) i (lower_states g)) p.hunts ∙ sym (known-hunter (arena_of g) (block_at g) (targets g) (goal_of g.objective)) in
      bordering-set g side lower (lower_states g) (λ s i. q.lower_in.in_row s (rw (← p.states_is) i)) b l
      ∙ ap (λ (X : Set). is_block (block_at g) b && (not (lower_states g b) && meets g.states (block_at g) X b)) known

  -- what the search found: nothing, and then the round is settled
  pub nothing_next : (found : Option BlockNo) → found ≡ border_answer n (bordering g side lower) → found ≡ None → word g ≡ OPEN → ⊥
  nothing_next found e none = no_next g p.accepted
      (sym (some_cong g.states _ _ next_is) ∙ subst (λ (k : ℕ). some k (bordering g side lower) ≡ false) (sym p.states_is) (answer_nothing n (bordering g side lower) found e none))

  -- or the lowest-numbered border block
  pub next_found : (found : Option BlockNo) (b : BlockNo) → found ≡ border_answer n (bordering g side lower) → found ≡ Some b → Next g n block b.0
  unfolding bordering
  next_found found b e is =
      let w = answer_at n (bordering g side lower) found b e is in
      let c = b.0 in
      record {
        state = w.0;
        here = w.1 ∙ subst (λ (k : ℕ). least k (bordering g side lower) ≡ least g.states (bordering g side lower)) p.states_is refl
            ∙ least_cong g.states _ _ next_is ∙ next-block g;
        name = p.block_is.cell c w.0
            ∙ eqb→eq (block_at g c) c (and_l (eqb (block_at g c) c) (not (is_in lower c) && meets g.states (block_at g) (forced (arena_of g) (side_of side) (is_in lower)) c) w.2);
      }

  -- ## The split

  -- the part that leaves, by the row of what each state has
  apart_is : (b : ℕ) → b < n → (s : ℕ) → s < n → row_apart block b (enough need have) s ≡ apart (block_at g) b (into_known_states g) s
  apart_is b l s i = rw (p.block_is.cell s i, enough_is s i, known_is s i, enough_is b l, known_is b l) refl

  pub new_name : {b c : ℕ} → b < n → c ≡ least n (row_apart block b (enough need have)) → c ≡ least g.states (apart (block_at g) b (into_known_states g))
  new_name {b} {c} l e = e ∙ least_cong n _ _ (apart_is b l) ∙ ap (λ (k : ℕ). least k (apart (block_at g) b (into_known_states g))) (sym p.states_is)

  -- the row of blocks after it
  pub split-blocks : {b c : ℕ} {finer : List ℕ} → b < n → b ≡ lowest_first g → c ≡ least n (row_apart block b (enough need have)) → Holds n finer (after_split c block b (enough need have))
      → Holds n finer (block_at (split_game lowest_first g))
  split-blocks {b} {c} l here new renamed = holds_cong renamed (λ s i.
      rw (apart_is b l s i, p.block_is.cell s i)
      (sym (block_after g p.accepted b here (rw p.states_is l) c (new_name l new) s (rw p.states_is i))))
