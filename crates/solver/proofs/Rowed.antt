-- A game taken apart into rows, and a run over them.
use Prim.Native.Nat.{ℕ, suc, ◌≤◌}
use mathlib.Core.Path.{◌≡◌, refl, sym, ap, ◌∙◌}
use mathlib.Core.Bool.{cond, not}
use mathlib.Core.List.{List}
use native.Mathlib.Omega.{arith}
use lib.ListN.{get_or}
use lib.Dec.{T, eqb}
use Rattle.arena.specs.Sets.{Set, bit}
use Rattle.game.specs.Limits.{max_states, max_moves}
use Rattle.game.specs.Game.{known_turn, marked, turn_at, from_at}
use Rattle.game.specs.Published.{side_of, goal_of}
use Rattle.file.specs.Layout.{states, moves, objective as objective_of, turn as turn_of, marks as marks_of, block as block_of, from as from_of, to as to_of}
use Rattle.file.specs.Refusals.{refusal}
use Rattle.file.proofs.Sound.{accepted_sound}
use Rattle.decoding.specs.Decode.{game_of}
use Rattle.decoding.proofs.GameRows.{turn_is, marks_is, block_is, from_is, to_is}
use Rattle.decoding.proofs.Accepted.{accepted-game}
use Rattle.game.proofs.Ranged.{accepted-ranged}
use Rattle.game.specs.declared.Game.{Game}
use Rattle.blocks.specs.Hunt.{hunter, prey}
use Rattle.arena.specs.Win.{Goal, to_reach, to_stay}
use Rattle.chains.specs.Lent.{Holds, Keys, many_of, Linked, need_of}
use Rattle.game.specs.Rows.{fill, zeros}
use Rattle.chains.proofs.Filling.{row_holds}
use Rattle.chains.proofs.Counts.{holds_cong}
use Rattle.rounds.specs.Search.{first_move}
use Rattle.rounds.proofs.FirstMoves.{first_held}
use Rattle.runs.specs.Run.{lowest_first, word, run}
use Rattle.rows.specs.RoundRows.{Present, Final}
use Rattle.solver.specs.Solve.{decision_of, said, Rows}
use Rattle.solver.specs.Work.{Finished, Apart, HandedBack}
use Rattle.solver.specs.declared.Verdict.{Verdict}

-- prey of two sets that agree on s
prey-same : (o : Goal) (X Y : Set) (s : ℕ) → X s ≡ Y s → prey o X s ≡ prey o Y s
prey-same to_reach X Y s e = e
prey-same to_stay X Y s e = ap not e

-- the rows of an accepted file's game, as they were read
pub read_apart : (f : List ℕ) → refusal f ≡ 0 → {side n m objective : ℕ} → n ≡ states f → m ≡ moves f → objective ≡ objective_of f
    → side_of side ≡ hunter (goal_of objective) → T (known_turn side) → {turn starts block from to first-row : List ℕ}
    → Holds n turn (turn_of f) → Holds n starts (marks_of f) → Holds n block (block_of f) → Holds m from (from_of f) → Holds m to (to_of f)
    → Holds n first-row (λ s. bit (prey (goal_of objective) (λ t. marked 2 (get_or starts t 0)) s))
    → Apart (game_of f) side n m objective turn starts from to first-row block
unfolding game_of
read_apart f e ns ms os hunts known turns marks blocks froms tos firsts = record {
  accepted = accepted-game f e;
  known = known;
  hunts = hunts ∙ ap (λ (k : ℕ). hunter (goal_of k)) os;
  states_is = sym ns;
  moves_is = sym ms;
  objective_is = sym os;
  turn_is = holds_cong turns (λ s l. sym (turn_is f s (omega arith)));
  starts_is = holds_cong marks (λ s l. sym (marks_is f s (omega arith)));
  from_is = holds_cong froms (λ k l. sym (from_is f k (omega arith)));
  to_is = holds_cong tos (λ k l. sym (to_is f k (omega arith)));
  prey_is = holds_cong firsts (λ s l. rw os (ap bit (prey-same (goal_of (objective_of f)) _ _ s (ap (marked 2) (marks.cell s l ∙ sym (marks_is f s (omega arith)))))));
  block_is = holds_cong blocks (λ s l. sym (block_is f s (omega arith)));
}

-- an accepted file has no more states and moves than there are places
pub few-states_of : (f : List ℕ) → refusal f ≡ 0 → {n : ℕ} → n ≡ states f → n ≤ max_states
few-states_of f e p = rw p (accepted_sound f 0 (sym e) refl).few-states

pub few-moves_of : (f : List ℕ) → refusal f ≡ 0 → {m : ℕ} → m ≡ moves f → m ≤ max_moves
few-moves_of f e p = rw p (accepted_sound f 0 (sym e) refl).few-moves

-- from what the calls that read them wrote
pub read_rows : (f : List ℕ) → refusal f ≡ 0 → {side n m objective : ℕ} → n ≡ states f → m ≡ moves f → objective ≡ objective_of f
    → (side_of side ≡ hunter (goal_of objective)) × T (known_turn side) → {turn starts block from to first-row : List ℕ}
    → turn ≡ fill n (turn_of f) (zeros max_states) → starts ≡ fill n (marks_of f) (zeros max_states) → block ≡ fill n (block_of f) (zeros max_states)
    → from ≡ fill m (from_of f) (zeros max_moves) → to ≡ fill m (to_of f) (zeros max_moves)
    → first-row ≡ fill n (λ s. bit (prey (goal_of objective) (λ t. marked 2 (get_or starts t 0)) s)) (zeros max_states)
    → Apart (game_of f) side n m objective turn starts from to first-row block
read_rows f e ns ms os hunts turns marks blocks froms tos firsts =
    let few = few-states_of f e ns in
    let short = few-moves_of f e ms in
    read_apart f e ns ms os hunts.0 hunts.1 (row_holds _ max_states few _ turns) (row_holds _ max_states few _ marks) (row_holds _ max_states few _ blocks)
    (row_holds _ max_moves short _ froms) (row_holds _ max_moves short _ tos) (row_holds _ max_states few _ firsts)

module _ {g : Game} {side n m objective : ℕ} {turn starts from to prey block : List ℕ} (a : Apart g side n m objective turn starts from to prey block) where
  pub few-states : n ≤ max_states
  few-states = rw (← a.states_is) a.accepted.few-states

  pub few-moves : m ≤ max_moves
  few-moves = rw (← a.moves_is) a.accepted.few-moves

  pub froms : Keys n m from
  froms = record { long = a.from_is.long; below = λ k l. rw (a.from_is.cell k l, ← a.states_is) (a.accepted.from-state k (rw a.moves_is l)) }

  pub tos : Keys n m to
  tos = record { long = a.to_is.long; below = λ k l. rw (a.to_is.cell k l, ← a.states_is) (a.accepted.to-state k (rw a.moves_is l)) }

  -- with the rows that are worked out of them
  pub presented : {last before counts need first : List ℕ} → Linked n m to last before → Holds n counts (many_of m from)
      → Holds n need (λ s. cond (eqb (get_or turn s 0) side) 1 (get_or counts s 0)) → Holds (suc n) first (first_move (λ k. get_or from k 0) m)
      → Present g side n m objective turn starts from to last before need first prey block
  unfolding need_of
  presented chains counts needs firsts = record {
    accepted = a.accepted;
    known = a.known;
    hunts = a.hunts;
    states_is = a.states_is;
    moves_is = a.moves_is;
    objective_is = a.objective_is;
    turn_is = a.turn_is;
    starts_is = a.starts_is;
    from_is = a.from_is;
    to_is = a.to_is;
    chains = chains;
    need_is = holds_cong needs (λ s l. rw (a.turn_is.cell s l, counts.cell s l) (ap (λ (k : ℕ). cond (eqb (turn_at g s) side) 1 (many_of k from s)) (sym a.moves_is)));
    first_is = first_held (from_at g) a.from_is firsts;
    prey_is = a.prey_is;
    block_is = a.block_is;
  }

-- what is left of a run is ready to be handed back
pub finished : {g : Game} {side n m objective allowance : ℕ} {turn starts from to last before need first prey block : List ℕ} {splits : ℕ} {lower upper : List ℕ}
    → Final g side n m objective allowance turn starts from to last before need first prey block splits lower upper
    → Finished (run lowest_first allowance g).last side n m objective turn starts from to block lower upper
finished {g} {n = n} {allowance = allowance} {lower = lower} {upper = upper} f = record {
  known = f.present.known;
  hunts = f.present.hunts;
  states_is = f.present.states_is;
  moves_is = f.present.moves_is;
  objective_is = f.present.objective_is;
  turn_is = f.present.turn_is;
  starts_is = f.present.starts_is;
  from_is = f.present.from_is;
  to_is = f.present.to_is;
  block_is = f.present.block_is;
  worked = record {
    ranged = accepted-ranged f.present.accepted;
    lower_long = omega (arith, f.numbered.long, f.present.states_is);
    upper_long = omega (arith, f.upper_in.long, f.present.states_is);
    lower_is = f.numbered.pass_is;
    upper_in = λ s l. f.upper_in.in_row s (omega (arith, f.present.states_is));
  };
}

-- what was handed back of the last game is what is to be handed back of the run
pub handed_back : {g : Game} {side n m objective allowance : ℕ} {turn starts from to last before need first prey block : List ℕ} {splits : ℕ} {lower upper : List ℕ}
    → Final g side n m objective allowance turn starts from to last before need first prey block splits lower upper
    → (lent : Rows) {verdict : Verdict} {rows : Rows} → HandedBack (record { splits = splits; last = (run lowest_first allowance g).last }) lent verdict rows
    → HandedBack (run lowest_first allowance g) lent verdict rows
handed_back {g} {allowance = allowance} f lent back =
    let h = (run lowest_first allowance g).last in (back.0 ∙ ap (said (decision_of (word h) h)) f.splits_is, back.1)
