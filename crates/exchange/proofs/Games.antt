-- The exchanged game of an accepted game: accepted, tidy, and exchanged again the game itself.
use mathlib.Core.Path.{◌≡◌, refl, sym, ap, ◌∙◌}
use mathlib.Core.Bool.{Bool, not}
use Prim.Native.Nat.{ℕ, ◌≤◌, ◌<◌}
use Rattle.arena.specs.Sets.{Set}
use Rattle.arena.proofs.Tests.{is_true}
use Rattle.game.specs.Limits.{max_states}
use Rattle.game.specs.Game.{marked, turn_at, marks_at, initials, targets, has_move}
use Rattle.game.specs.Accepted.{AcceptedGame, Precise}
use Rattle.game.specs.Tidy.{Tidy}
use Rattle.game.specs.declared.Game.{Game}
use Rattle.game.proofs.Rows.{fill_at}
use Rattle.game.proofs.Padded.{fill_padded, tidy-same}
use Rattle.exchange.specs.Exchange.{other_turn, other_marks, exchanged_game}
use Rattle.exchange.proofs.Fields.{other-known, other-twice, marks-known, marks-twice, marks-initial, marks-target}

module _ (g : Game) where
  -- demand 3: flip whose turn each state is
  pub turn_changed : (s : ℕ) → s < g.states → turn_at (exchanged_game g) s ≡ other_turn (turn_at g s)
  unfolding exchanged_game
  turn_changed s l = fill_at g.states (λ s. other_turn (turn_at g s)) g.turn s l

  pub marks_changed : (s : ℕ) → s < g.states → marks_at (exchanged_game g) s ≡ other_marks (marks_at g s)
  unfolding exchanged_game
  marks_changed s l = fill_at g.states (λ s. other_marks (marks_at g s)) g.marks s l

  -- decoding's form is kept
  pub exchanged-tidy : g.states ≤ max_states → Tidy g → Tidy (exchanged_game g)
  unfolding exchanged_game
  exchanged-tidy few tidy =
      record {
        turns = fill_padded few _ tidy.turns;
        all-marks = fill_padded few _ tidy.all-marks;
        blocks = tidy.blocks;
        froms = tidy.froms;
        tos = tidy.tos;
      }

module _ (g : Game) (ok : AcceptedGame g) where
  -- 01, 'What is handed back': initial marks are equal
  pub exchanged-initials : (s : ℕ) → s < g.states → initials (exchanged_game g) s ≡ initials g s
  exchanged-initials s l = ap (marked 1) (marks_changed g s l) ∙ marks-initial (marks_at g s) (ok.marks_high s l)

  -- demand 3: take the other states as target
  pub exchanged-targets : (s : ℕ) → s < g.states → targets (exchanged_game g) s ≡ not (targets g s)
  exchanged-targets s l = ap (marked 2) (marks_changed g s l) ∙ marks-target (marks_at g s) (ok.marks_high s l)

  -- a set of whole blocks stays one, also as its complement
  precise : (X Y : Set) (t : Bool → Bool) → ((s : ℕ) → s < g.states → Y s ≡ t (X s)) → Precise g X → Precise (exchanged_game g) Y
  unfolding exchanged_game
  precise X Y t same apart a b la lb e = same a la ∙ ap t (apart a b la lb e) ∙ sym (same b lb)

  -- demand 3: the exchanged game is a game
  pub exchanged-game-accepted : AcceptedGame (exchanged_game g)
  unfolding exchanged_game has_move
  exchanged-game-accepted =
      record {
        some-states = ok.some-states;
        few-states = ok.few-states;
        some-moves = ok.some-moves;
        few-moves = ok.few-moves;
        objective-known = rw (other-known g.objective) tt;
        turn-known = λ s l. rw (turn_changed g s l, other-known (turn_at g s)) tt;
        marks_high = λ s l. rw (marks_changed g s l) (marks-known (marks_at g s) (ok.marks_high s l));
        block-below = ok.block-below;
        block-own = ok.block-own;
        from-state = ok.from-state;
        to-state = ok.to-state;
        ascending = ok.ascending;
        moving = ok.moving;
        start = (let w = ok.start in (w.0, w.1, rw (exchanged-initials w.0 w.1) w.2));
        precise_starts = precise (initials g) (initials (exchanged_game g)) (λ x. x) exchanged-initials ok.precise_starts;
        precise_target = precise (targets g) (targets (exchanged_game g)) not exchanged-targets ok.precise_target;
      }

-- 01, 'What is handed back': done twice, of games
pub exchanged-game-twice : (g : Game) → AcceptedGame g → Tidy g → exchanged_game (exchanged_game g) ≡ g
unfolding exchanged_game
exchanged-game-twice g ok tidy =
    tidy-same (exchanged_game (exchanged_game g)) g (exchanged-tidy (exchanged_game g) ok.few-states (exchanged-tidy g ok.few-states tidy)) tidy refl refl
    (other-twice g.objective (is_true _ ok.objective-known))
    (λ s l. (
      turn_changed (exchanged_game g) s l ∙ ap other_turn (turn_changed g s l) ∙ other-twice (turn_at g s) (is_true _ (ok.turn-known s l)),
      marks_changed (exchanged_game g) s l ∙ ap other_marks (marks_changed g s l) ∙ marks-twice (marks_at g s) (ok.marks_high s l),
      refl,
    ))
    (λ k l. (refl, refl))
