-- `read_game` meets its contract.
use mathlib.Core.Path.{◌≡◌, ◌∙◌}
use Rattle.std.proofs.Common.{rules}
use Rattle.game.specs.Limits.{max_states, max_moves}
use Rattle.game.specs.Rows.{blank}
use Rattle.game.specs.Game.{state_no, block_no}
use Rattle.file.specs.Layout.{states, moves, block, from, to}
use Rattle.decoding.specs.Decode.{turn_row, marks_row, block_row, from_row, to_row, game_of}
use Rattle.decoding.proofs.Mapped.{wrapped_first}
use Rattle.decoding.proofs.read_game.Goals as goal

pub returns : goal.returns
unfolding game_of turn_row marks_row block_row from_row to_row blank
returns c =
    let f = c.args.file.now in
    let n : c.from-states.result ≡ states f = c.from-states.ensures ∙ c.number_at.ensures in
    let m : c.from-moves.result ≡ moves f = c.from-moves.ensures ∙ c.number_at-2.ensures in
    let turns : c.plain_states.new.turn ≡ turn_row f = rw n at c.plain_states.ensures.turn in
    let all-marks : c.plain_states.new.marks ≡ marks_row f = rw n at c.plain_states.ensures.marks in
    let blocks : c.wrapped.result ≡ block_row f = wrapped_first block_no max_states (states f) (block f) c.requires.few-states _ _ (rw n at c.plain_states.ensures.block) c.wrapped.ensures.long (λ k l. let p = c.wrapped.ensures.said k (rw n l) in search (p, rules)) (λ k l. c.wrapped.ensures.after k (rw n l)) in
    let froms : c.wrapped-2.result ≡ from_row f = wrapped_first state_no max_moves (moves f) (from f) c.requires.few-moves _ _ (rw m at c.plain_moves.ensures.from) c.wrapped-2.ensures.long (λ k l. let p = c.wrapped-2.ensures.said k (rw m l) in search (p, rules)) (λ k l. c.wrapped-2.ensures.after k (rw m l)) in
    let tos : c.wrapped-3.result ≡ to_row f = wrapped_first state_no max_moves (moves f) (to f) c.requires.few-moves _ _ (rw m at c.plain_moves.ensures.to) c.wrapped-3.ensures.long (λ k l. let p = c.wrapped-3.ensures.said k (rw m l) in search (p, rules)) (λ k l. c.wrapped-3.ensures.after k (rw m l)) in
    rw (n, m, c.number_at-3.ensures, turns, all-marks, blocks, froms, tos)
