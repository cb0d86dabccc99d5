-- The file of a game, byte by byte: where each record stands in it.
use mathlib.Core.Path.{◌≡◌, refl, ◌∙◌}
use mathlib.Core.Logic.{⊎_elim}
use mathlib.Core.List.{List, ◌++◌}
use Prim.Native.Nat.{ℕ, zero, suc, ◌+◌, ◌-◌, ◌*◌, ◌/◌, ◌%◌, ◌≤◌, ◌<◌}
use native.Mathlib.Nat.{zero-add, add-zero, suc-add, add-suc, not-suc-le-zero, le_of_suc-le-suc}
use native.Mathlib.Omega.{arith}
use lib.ListN.{length, length-append, get_or-append}
use lib.Seq.{get_or-append-add}
use Rattle.arena.proofs.Loops.{le_or_lt}
use Rattle.game.specs.Game.{turn_at, marks_at, block_at, from_at, to_at}
use Rattle.game.specs.declared.Game.{Game}
use Rattle.file.specs.Layout.{byte, number_at, state_at}
use Rattle.encoding.specs.Encode.{two_bytes, framed, head_record, state_record, move_record, records, file_of}

-- ## A rule for each of the first numbers

-- P of i and the numbers after it, n of them, two by two
infixr 20 ◌and◌
pub data Pairs (P : ℕ → Type 0) : ℕ → ℕ → Type 0 where
  done : {i : ℕ} → Pairs P i 0
  ◌and◌ : {i n : ℕ} → P i × P (suc i) → Pairs P (suc (suc i)) n → Pairs P i (suc (suc n))

-- what is told of the first n numbers holds of each
pub below : (P : ℕ → Type 0) (n : ℕ) → Pairs P 0 n → (j : ℕ) → j < n → P j
below P n e j l = rw add-zero at (go e j l)
  where
    go : {i n : ℕ} → Pairs P i n → (j : ℕ) → j < n → P (j + i)
    go done j l = absurd (not-suc-le-zero l)
    go (p and e) zero l = rw zero-add p.0
    go (p and e) (suc zero) l = rw (suc-add, zero-add) p.1
    go (p and e) (suc (suc j)) l = rw (suc-add, suc-add, ← add-suc, ← add-suc) (go e j (le_of_suc-le-suc (le_of_suc-le-suc l)))

-- ## Records of eight bytes

module _ (each : ℕ → List ℕ) (eight : (k : ℕ) → length (each k) ≡ 8) where
  records-length : (n : ℕ) → length (records n each) ≡ 8 * n
  unfolding records
  records-length zero = refl
  records-length (suc n) = omega (arith, length-append (records n each) (each n), records-length n, eight n)

  records-byte : (n k j : ℕ) → k < n → j < 8 → byte (records n each) (8 * k + j) ≡ byte (each k) j
  unfolding records
  records-byte zero k j l b = absurd (not-suc-le-zero l)
  records-byte (suc n) k j l b =
      ⊎_elim
      (λ (h : n ≤ k).
      let e : k ≡ n = omega arith in
      let p : 8 * n + j ≡ length (records n each) + j = omega (arith, records-length n) in
      rw (e, p) (get_or-append-add (records n each) (each n) j 0))
      (λ (h : k < n). get_or-append (records n each) (each n) 0 (8 * k + j) (omega (arith, records-length n)) ∙ records-byte n k j h b)
      (le_or_lt n k)

-- ## The records of the file of a game

-- the first n bytes of r stand in f, from place i on
pub record Stands (f : List ℕ) (i n : ℕ) (r : List ℕ) : Type 0 where
  pub byte_at : (j : ℕ) → j < n → byte f (i + j) ≡ byte r j

-- a number of r is read in f
pub number_read : {f : List ℕ} {i n : ℕ} {r : List ℕ} → Stands f i n r → (j : ℕ) → j + 1 < n → number_at f (i + j) ≡ number_at r j
unfolding number_at
number_read {f} {i} {n} {r} h j l =
    let e : i + j + 1 ≡ i + (j + 1) = omega arith in
    let low : byte f (i + j) ≡ byte r j = h.byte_at j (omega arith) in
    rw (e, low, h.byte_at (j + 1) l)

module _ (g : Game) where
  abbrev pub head_of : List ℕ
  head_of = head_record g.states g.moves g.objective

  abbrev pub state_of : ℕ → List ℕ
  state_of s = state_record (turn_at g s) (marks_at g s) (block_at g s)

  abbrev pub move_of : ℕ → List ℕ
  move_of k = move_record (from_at g k) (to_at g k)

  abbrev states_of : List ℕ
  states_of = records g.states state_of

  abbrev moves_of : List ℕ
  moves_of = records g.moves move_of

  states-length : length states_of ≡ 8 * g.states
  unfolding state_record framed two_bytes
  states-length = records-length state_of (λ s. refl) g.states

  -- 01, 'Game file': the file of a game is 10 + 8 × states + 8 × moves bytes long
  pub file-length : length (file_of g) ≡ 10 + 8 * g.states + 8 * g.moves
  unfolding file_of head_record move_record framed two_bytes
  file-length = omega (arith, length-append states_of moves_of, states-length, records-length move_of (λ k. refl) g.moves)

  -- the head stands first, then the states, then the moves
  pub head_in : Stands (file_of g) 0 10 head_of
  unfolding file_of head_record framed two_bytes
  head_in = record { byte_at = λ j l. rw zero-add (get_or-append head_of (states_of ++ moves_of) 0 j l) }

  pub state_in : (s : ℕ) → s < g.states → Stands (file_of g) (state_at s) 8 (state_of s)
  unfolding file_of head_record state_record framed two_bytes
  state_in s l =
      record {
        byte_at = λ j b.
            let e : state_at s + j ≡ 10 + (8 * s + j) = omega arith in
            rw e
            (get_or-append-add head_of (states_of ++ moves_of) (8 * s + j) 0 ∙ get_or-append states_of moves_of 0 (8 * s + j) (omega (arith, states-length)) ∙ records-byte state_of (λ s. refl) g.states s j l b);
      }

  pub move_in : (k : ℕ) → k < g.moves → Stands (file_of g) (10 + 8 * g.states + 8 * k) 8 (move_of k)
  unfolding file_of head_record move_record framed two_bytes
  move_in k l =
      record {
        byte_at = λ j b.
            let e : 10 + 8 * g.states + 8 * k + j ≡ 10 + (length states_of + (8 * k + j)) = omega (arith, states-length) in
            rw e (get_or-append-add head_of (states_of ++ moves_of) _ 0 ∙ get_or-append-add states_of moves_of (8 * k + j) 0 ∙ records-byte move_of (λ k. refl) g.moves k j l b);
      }

  -- what holds of the bytes of each record holds of each byte of the file
  module _ (P : ℕ → ℕ → Type 0)
      (head : (j : ℕ) → j < 10 → P j (byte head_of j))
      (state : (s : ℕ) → s < g.states → (j : ℕ) → j < 8 → P (state_at s + j) (byte (state_of s) j))
      (move : (k : ℕ) → k < g.moves → (j : ℕ) → j < 8 → P (10 + 8 * g.states + 8 * k + j) (byte (move_of k) j)) where
    pub each_byte : (i : ℕ) → i < length (file_of g) → P i (byte (file_of g) i)
    each_byte i l =
        ⊎_elim (λ (late : 10 ≤ i). in_records ((i - 10) / 8) ((i - 10) % 8) (omega arith) (omega arith) (omega (arith, file-length)))
        (λ (early : i < 10). rw zero-add at (rw (← head_in.byte_at i early) at (head i early)))
        (le_or_lt 10 i)
      where
        in_records : (q j : ℕ) → i ≡ 10 + 8 * q + j → j < 8 → q < g.states + g.moves → P i (byte (file_of g) i)
        in_records q j e b h =
            ⊎_elim
            (λ (after : g.states ≤ q).
            let k = q - g.states in
            let at : i ≡ 10 + 8 * g.states + 8 * k + j = omega arith in
            let l : k < g.moves = omega arith in
            rw (at, (move_in k l).byte_at j b) (move k l j b))
            (λ (inside : q < g.states). rw (e, (state_in q inside).byte_at j b) (state q inside j b))
            (le_or_lt g.states q)
