-- Strategies over histories, plays, and the play that two strategies make.
use Rattle.std.specs.Prelude.{ℕ, zero, suc, ◌<◌, ◌≡◌, cond, List, [], ◌∷◌, T}
use Rattle.arena.specs.Arena.{Side, other, Arena, mine}

-- 000, definition 4: a strategy, the legal move a side makes after a history (latest state first) at a state of its own
pub record Strategy (g : Arena) (i : Side) : Type 0 where
  pub next : List ℕ → ℕ → ℕ
  pub legal : (h : List ℕ) (s : ℕ) → s < g.size → T (mine g i s) → (next h s < g.size) × T (g.move s (next h s))

-- 000, section 2; 01, 'The game': a play, an endless sequence of states each of which moves to the one after it
pub record Play (g : Arena) (p : ℕ → ℕ) : Type 0 where
  pub inside : (k : ℕ) → p k < g.size
  pub moves : (k : ℕ) → T (g.move (p k) (p (suc k)))

-- 000, definition 5: the history of p before its state k, latest state first
unfoldable pub past : (ℕ → ℕ) → ℕ → List ℕ
past p zero = []
past p (suc k) = p k ∷ past p k

-- 000, definition 5: at the states of side i the sequence p goes where the strategy says
abbrev pub Follows : (g : Arena) (i : Side) → Strategy g i → (ℕ → ℕ) → Type 0
Follows g i σ p = (k : ℕ) → T (mine g i (p k)) → p (suc k) ≡ σ.next (past p k) (p k)

-- 000, definition 5: the history and the state after k moves from s, by side i's strategy and its opponent's
unfoldable pub trace : (g : Arena) (i : Side) → Strategy g i → Strategy g (other i) → ℕ → ℕ → List ℕ × ℕ
trace g i σ τ s zero = ([], s)
trace g i σ τ s (suc k) =
    let r = trace g i σ τ s k in
    (r.1 ∷ r.0, cond (mine g i r.1) (σ.next r.0 r.1) (τ.next r.0 r.1))

-- 000, definition 5: the outcome of a state and two strategies
unfoldable pub outcome : (g : Arena) (i : Side) → Strategy g i → Strategy g (other i) → ℕ → ℕ → ℕ
unfolding trace
outcome g i σ τ s k = (trace g i σ τ s k).1
