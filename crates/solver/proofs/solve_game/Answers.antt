-- `solve_game` meets its contract.
use mathlib.Core.Path.{sym, ◌∙◌}
use native.Mathlib.Omega.{arith}
use Rattle.game.specs.Rows.{blank}
use Rattle.file.proofs.Sound.{taken_sound}
use Rattle.solver.specs.Work.{Apart}
use Rattle.chains.proofs.Filling.{holds_zeros}
use Rattle.decoding.specs.Decode.{game_of}
use Rattle.solver.proofs.Rowed.{few-states_of, few-moves_of, read_rows, few-states, few-moves, froms, tos, presented}
use Rattle.solver.proofs.solve_game.Goals.{After-prey_row-prey}
use Rattle.solver.proofs.solve_game.Goals as goal

pub number_at-requires : goal.number_at-requires
number_at-requires c = omega (arith, (taken_sound _ (sym c.requires)).states-long)

pub number_at-requires-2 : goal.number_at-requires-2
number_at-requires-2 c = omega (arith, (taken_sound _ (sym c.requires)).states-long)

pub number_at-objective-requires : goal.number_at-objective-requires
number_at-objective-requires c = omega (arith, (taken_sound _ (sym c.requires)).states-long)

pub plain_states-requires : goal.plain_states-requires
unfolding blank
plain_states-requires c = (let few = few-states_of _ c.requires (c.from-n.ensures ∙ c.number_at.ensures) in ((c.from-n.ensures ∙ c.number_at.ensures), taken_sound _ (sym c.requires), few, few, few))

pub plain_moves-requires : goal.plain_moves-requires
unfolding blank
plain_moves-requires c = (let short = few-moves_of _ c.requires (c.from-m.ensures ∙ c.number_at-2.ensures) in ((c.from-n.ensures ∙ c.number_at.ensures), (c.from-m.ensures ∙ c.number_at-2.ensures), taken_sound _ (sym c.requires), short, short))

pub prey_row-prey-requires : goal.prey_row-prey-requires
unfolding blank
prey_row-prey-requires c = few-states_of _ c.requires (c.from-n.ensures ∙ c.number_at.ensures)

-- what the rows that were read say of the game
said : (c : After-prey_row-prey) → Apart (game_of c.args.file.now) c.hunting_side-side.result c.from-n.result c.from-m.result c.number_at-objective.result
    c.plain_states.new.turn c.plain_states.new.marks c.plain_moves.new.from c.plain_moves.new.to c.prey_row-prey.result c.plain_states.new.block
unfolding blank
said c =
    read_rows _ c.requires (c.from-n.ensures ∙ c.number_at.ensures) (c.from-m.ensures ∙ c.number_at-2.ensures) c.number_at-objective.ensures c.hunting_side-side.ensures
    c.plain_states.ensures.turn c.plain_states.ensures.marks c.plain_states.ensures.block c.plain_moves.ensures.from c.plain_moves.ensures.to c.prey_row-prey.ensures

pub link-requires : goal.link-requires
unfolding blank
link-requires c =
    let a = said (goal.at.link-requires c).After-prey_row-prey in
    (few-states a, few-moves a, tos a, few-moves a, holds_zeros (few-states a))

pub count_keys-requires : goal.count_keys-requires
unfolding blank
count_keys-requires c =
    let a = said (goal.at.count_keys-requires c).After-prey_row-prey in
    (few-states a, few-moves a, froms a, holds_zeros (few-states a))

pub need_row-requires : goal.need_row-requires
unfolding blank
need_row-requires c =
    let a = said (goal.at.need_row-requires c).After-prey_row-prey in
    (few-states a, a.turn_is.long, c.count_keys.ensures.long)

pub first_moves-requires : goal.first_moves-requires
unfolding blank
first_moves-requires c =
    let a = said (goal.at.first_moves-requires c).After-prey_row-prey in
    (few-states a, few-moves a, froms a, omega (arith, few-states a))

pub run_and_hand_back-requires : goal.run_and_hand_back-requires
unfolding blank
run_and_hand_back-requires c =
    let a = said (goal.at.run_and_hand_back-requires c).After-prey_row-prey in
    (_, presented a c.link.ensures c.count_keys.ensures c.need_row.ensures c.first_moves.ensures)

pub returns-clause-back : goal.returns-clause-back
unfolding blank
returns-clause-back c =
    let a = said (goal.at.returns-clause-back c).After-prey_row-prey in
    c.run_and_hand_back.ensures.back _ (presented a c.link.ensures c.count_keys.ensures c.need_row.ensures c.first_moves.ensures)
