-- The queue of the states that have entered, and the rows at work beside it.
use Rattle.std.specs.Prelude.{ℕ, suc, ◌+◌, ◌≤◌, ◌<◌, ◌≡◌, false, ◌&&◌, ◌||◌, List, length, get_or, T, eqb, leb}
use Rattle.arena.specs.Sets.{Set, some, count}
use Rattle.growth.specs.Stamp.{pass_at, is_in, entered, pass_no}
use Rattle.chains.specs.Lent.{Holds}
use Rattle.growth.specs.Net.{Net, tally, hits, ripe, pass_of}

-- the states at the first q places of the queue
abbrev pub done : ℕ → List ℕ → Set
done q queue c = some q (λ i. eqb (get_or queue i 0) c)

-- the queue holds the states of the row, each once
pub record Listed (n : ℕ) (row queue : List ℕ) (tail : ℕ) : Type 0 where
  pub room : n ≤ length queue
  pub as_many : tail ≡ count n (is_in row)
  pub states : (i : ℕ) → i < tail → get_or queue i 0 < n
  pub all : (c : ℕ) → c < n → done tail queue c ≡ is_in row c
  pub fresh : (i : ℕ) → i < tail → done i queue (get_or queue i 0) ≡ false

-- the moves into the states at the first q places of the queue
abbrev pub into : List ℕ → ℕ → List ℕ → Set
into to q queue k = done q queue (get_or to k 0)

-- the queue lists the row, and the moves into its first q states are counted
pub record Counted (n m : ℕ) (from to : List ℕ) (q : ℕ) (have row queue : List ℕ) (tail : ℕ) : Type 0 where
  pub counts : Holds n have (tally m from (into to q queue))
  pub listed : Listed n row queue tail
  pub handled : q ≤ tail
  pub row-long : n ≤ length row

-- the two queues are alike in the first k places
abbrev pub Alike : ℕ → List ℕ → List ℕ → Type 0
Alike k a b = (i : ℕ) → i < k → get_or a i 0 ≡ get_or b i 0

-- the states of J that were outside have joined with this number, and stand in the queue after the others
pub record Joined (n : ℕ) (J : Set) (number : ℕ) (row₀ queue₀ : List ℕ) (tail₀ : ℕ) (row queue : List ℕ) (tail : ℕ) : Type 0 where
  pub stamped : Holds n row (λ s. pass_no (pass_at row₀ s) (J s) number)
  pub listed : Listed n row queue tail
  pub more : tail₀ ≤ tail
  pub alike : Alike tail₀ queue queue₀

-- t says how many moves are handled, `old` the passes before this one
pub record Work (w : Net) (old : ℕ → ℕ) (number : ℕ) (t : ℕ → ℕ) (have hit row queue : List ℕ) (tail : ℕ) : Type 0 where
  pub counts : Holds w.states have t
  pub hit_is : Holds w.states hit (hits w t)
  pub stamped : Holds w.states row (λ s. pass_no (old s) (ripe w t (get_or w.block s 0)) number)
  pub listed : Listed w.states row queue tail

-- the rows once the first q states of the queue are handled
abbrev pub Handled : Net → (ℕ → ℕ) → ℕ → ℕ → List ℕ → List ℕ → List ℕ → List ℕ → List ℕ → ℕ → Type 0
Handled w old number q order have hit row queue tail = Work w old number (tally w.moves w.from (into w.to q order)) have hit row queue tail

-- the moves into the first q states, and those from move e on into state c
abbrev pub partly : List ℕ → ℕ → List ℕ → ℕ → ℕ → Set
partly to q queue c e k = into to q queue k || (eqb c (get_or to k 0) && leb e k)

-- in the middle of the walk over the moves into state c, of which those from `at` on are handled (counted from 1: those above it)
pub record Walking (w : Net) (old : ℕ → ℕ) (number q end : ℕ) (order : List ℕ) (c : ℕ) (have hit row queue : List ℕ) (tail at : ℕ) : Type 0 where
  pub work : Work w old number (tally w.moves w.from (partly w.to q order c at)) have hit row queue tail
  pub low : at ≤ w.moves
  pub stands : (e : ℕ) → at ≡ suc e → get_or w.to e 0 ≡ c
  pub fresh : done q order c ≡ false
  pub more : end ≤ tail
  pub alike : Alike end queue order

-- within a pass: the first q states are handled, and the first `end` ones are those that had entered before
pub record Passing (w : Net) (f : ℕ → ℕ) (pass end q : ℕ) (have hit row queue : List ℕ) (tail : ℕ) : Type 0 where
  pub work : Handled w (pass_of w f pass) (pass + 2) q queue have hit row queue tail
  pub low : q ≤ end
  pub some : end ≤ tail
  pub steps : pass ≤ end
  pub known : (c : ℕ) → c < w.states → done end queue c ≡ entered (pass_of w f pass) c

-- a set that has grown until nothing is added: all its states are handled, and no ripe block is outside
pub record Grown (w : Net) (have hit row queue : List ℕ) (tail : ℕ) : Type 0 where
  pub counted : Counted w.states w.moves w.from w.to tail have row queue tail
  pub hit_is : Holds w.states hit (hits w (tally w.moves w.from (into w.to tail queue)))
  pub closed : (s : ℕ) → s < w.states → T (ripe w (tally w.moves w.from (into w.to tail queue)) (get_or w.block s 0)) → pass_at row s ≡ 0 → ⊥

-- a set that had grown before a block was split: J are the states outside whose block is ripe now
pub record Regrowing (w : Net) (J : Set) (have hit row queue : List ℕ) (tail : ℕ) : Type 0 where
  pub counted : Counted w.states w.moves w.from w.to tail have row queue tail
  pub hit_is : Holds w.states hit (hits w (tally w.moves w.from (into w.to tail queue)))
  pub due : (s : ℕ) → s < w.states → pass_at row s ≡ 0 → J s ≡ ripe w (tally w.moves w.from (into w.to tail queue)) (get_or w.block s 0)
