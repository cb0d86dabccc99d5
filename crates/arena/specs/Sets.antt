-- Sets of states, as tests on their numbers, and the questions asked of such sets.
use Rattle.std.specs.Prelude.{ℕ, zero, suc, ◌+◌, Bool, true, false, not, ◌&&◌, ◌||◌, cond}

-- 000, definition 1; 01, 'The game': a set of states, which are numbered from 0
abbrev pub Set : Type 0
Set = ℕ → Bool

-- 000, section 4.2: the states outside X, written S \ X
abbrev pub compl : Set → Set
compl X = λ s. not (X s)

-- 000, definition 7: b wherever a, the test of one member of an inclusion
abbrev pub imp : Bool → Bool → Bool
imp true b = b
imp false b = true

-- 000, definition 7: some number below n lies in X
unfoldable pub some : ℕ → Set → Bool
some zero X = false
some (suc n) X = some n X || X n

-- 000, definition 7: every number below n lies in X
unfoldable pub every : ℕ → Set → Bool
every zero X = true
every (suc n) X = every n X && X n

-- what one test adds to a count
abbrev pub bit : Bool → ℕ
bit true = 1
bit false = 0

-- 01, 'Numbers and limits': how many numbers below n lie in X
unfoldable pub count : ℕ → Set → ℕ
count zero X = 0
count (suc n) X = count n X + bit (X n)

-- 01, 'What is handed back': the lowest member of X below n, or n where there is none
unfoldable pub least : ℕ → Set → ℕ
least zero X = zero
least (suc n) X = cond (X zero) zero (suc (least n (λ s. X (suc s))))
