-- The words in which demand 3 is stated: what trades places, and a single start.
use Rattle.std.specs.Prelude.{ℕ, ◌-◌, ◌<◌, ◌≡◌, T, Result, Ok, Err}
use Rattle.file.specs.declared.refusal.Refusal.{Refusal}
use Rattle.game.specs.Game.{state_no, initials}
use Rattle.game.specs.declared.Game.{Game}
use Rattle.exchange.specs.Exchange.{exchanged_game}
use Rattle.runs.specs.Run.{into_known_states, lowest_first, Run}
use Rattle.solver.specs.Rules.{mark}
use Rattle.solver.specs.declared.Verdict.{Verdict}
use Rattle.solver.specs.declared.Verdict.TheVariants.{Yes, No, Open}

-- demand 3, 'With a single start'
pub record SingleStart (g : Game) (start : ℕ) : Type 0 where
  pub state : start < g.states
  pub chosen : T (initials g start)
  pub only : (s : ℕ) → s < g.states → T (initials g s) → s ≡ start

-- demand 3, 'sure and never trade places; open stays open': marks are 0 never, 1 open, 2 sure
abbrev pub trade_mark : ℕ → ℕ
trade_mark m = 2 - m

-- demand 3, 'the exchanged run makes the same splits': as many, and it ends with the exchange of the last game
abbrev pub trade_run : Run → Run
trade_run r = record { splits = r.splits; last = exchanged_game r.last }

-- demand 3, 'YES and NO .. trade places; open stays open': the answer for the exchanged file of a game with a single start
abbrev pub trade_verdict : ℕ → Result Verdict Refusal → Result Verdict Refusal
trade_verdict start (Ok (Yes s n)) = Ok (No n)
trade_verdict start (Ok (No n)) = Ok (Yes (state_no start) n)
trade_verdict start (Ok (Open n)) = Ok (Open n)
trade_verdict start (Err r) = Err r

-- demand 3, 'the same splits in the same order': a round of h does what the same round of g does: the same blocks, the same border block parted by the same set, and traded marks
pub record SameRound (g h : Game) : Type 0 where
  pub blocks : h.block ≡ g.block
  pub border : lowest_first h ≡ lowest_first g
  pub parts : (s : ℕ) → s < g.states → into_known_states h s ≡ into_known_states g s
  pub marks : (s : ℕ) → s < g.states → mark h s ≡ trade_mark (mark g s)
