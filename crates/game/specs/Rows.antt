-- Rows of places, as lists.
use Rattle.std.specs.Prelude.{ℕ, zero, suc, ◌<◌, ◌≡◌, List, [], ◌∷◌, ◌++◌, length, get_or, replicate, drop}

module _ {A : Type 0} where
  -- the values of f at i, i + 1, and so on, n of them
  unfoldable pub tabulate : ℕ → ℕ → (ℕ → A) → List A
  tabulate i zero f = []
  tabulate i (suc n) f = f i ∷ tabulate (suc i) n f

  -- 01, 'What is handed back': the first n places hold f's values, the rest keep the content of `row`
  unfoldable pub fill : ℕ → (ℕ → A) → List A → List A
  fill n f row = tabulate 0 n f ++ drop n row

  -- n places that all hold a
  unfoldable pub blank : ℕ → A → List A
  blank n a = replicate n a

-- n places that all hold 0
abbrev pub zeros : ℕ → List ℕ
zeros n = blank n 0

-- the row has n places, and they hold f's values
pub record Cells (n : ℕ) (row : List ℕ) (f : ℕ → ℕ) : Type 0 where
  pub long : length row ≡ n
  pub cell : (s : ℕ) → s < n → get_or row s 0 ≡ f s
