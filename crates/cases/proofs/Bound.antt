-- The bound states minus 1 is the least: a game of three states in a row needs it.
use Prim.Native.Nat.{ℕ, zero, suc, ◌<◌}
use mathlib.Core.Path.{refl}
use mathlib.Core.List.{List}
use lib.ListN.{get_or}
use lib.Dec.{T}
use Rattle.arena.specs.Sets.{some, every, count, least}
use Rattle.arena.specs.Arena.{one, forced}
use Rattle.arena.specs.Plan.{Obeys}
use Rattle.arena.specs.Passes.{grow, shrink}
use Rattle.game.specs.Rows.{tabulate, fill, blank}
use Rattle.game.specs.Game.{targets, has_move}
use Rattle.game.specs.Published.{arena_of}
use Rattle.file.specs.Fault.{unless, ◌then◌, lowest}
use Rattle.encoding.specs.Encode.{two_bytes, framed, head_record, state_record, move_record}
use Rattle.file.specs.Layout.{number_at, move_at}
use Rattle.file.specs.Refusals.{frame, head_fields, head_fault, state_fields, state_fault, pair_below, ascends, move_fields, move_fault, moved, mixed, block_fault, whole_fault, refusal}
use Rattle.decoding.specs.Decode.{turn_row, marks_row, block_row, from_row, to_row, game_of}
use Rattle.blocks.specs.Blocks.{inside, meets, split}
use Rattle.blocks.specs.Round.{sure, possible, into_known, border, border_block, entered_sure, left_possible}
use Rattle.runs.specs.Run.{word, split_game, run, named_start}
use Rattle.solver.specs.Rules.{mark, advice, rule}
use Rattle.solver.specs.Solve.{Rows, answer_to, short_row, solve_fault, solved}
use Rattle.cases.specs.Files.{three_in_a_row}
use Rattle.cases.specs.Bound.{NeedsAll, along}
use native.Mathlib.Omega.{arith}

-- rows that are long enough
abbrev long : Rows
long = let row : List ℕ = blank 512 7 in record { marks = row; blocks = row; moves = row }

pub bound_needed : NeedsAll three_in_a_row 511 long 0 0 along
unfolding along three_in_a_row two_bytes framed head_record state_record move_record answer_to short_row solve_fault solved named_start mark advice rule word split_game run sure possible into_known border border_block entered_sure left_possible inside meets split turn_row marks_row block_row from_row to_row game_of frame head_fields head_fault state_fields state_fault pair_below ascends move_fields move_fault moved mixed block_fault whole_fault refusal number_at move_at unless ◌then◌ lowest arena_of has_move tabulate fill blank grow shrink forced some every count least
bound_needed = record {
  says_yes = refl;
  starts = refl;
  play = record { inside = inside; moves = moves };
  follows = follows;
  no_sooner = no_sooner;
}
  where
    inside : (k : ℕ) → along k < 3
    inside zero = omega arith
    inside (suc zero) = omega arith
    inside (suc (suc k)) = omega arith

    moves : (k : ℕ) → T (has_move (game_of three_in_a_row) (along k) (along (suc k)))
    moves zero = tt
    moves (suc zero) = tt
    moves (suc (suc k)) = tt

    follows : Obeys (arena_of (game_of three_in_a_row)) one (λ s. get_or (solved three_in_a_row 511 long).rows.moves s 0) along
    follows zero m n = refl
    follows (suc zero) m n = refl
    follows (suc (suc k)) m n = absurd (n refl)

    no_sooner : (m : ℕ) → m < 2 → T (targets (game_of three_in_a_row) (along m)) → ⊥
    no_sooner zero l h = h
    no_sooner (suc zero) l h = h
    no_sooner (suc (suc k)) l h = omega (arith, l)
