-- A row of plain numbers, place by place wrapped: a row of what wraps them.
use mathlib.Core.Path.{◌≡◌, sym, ap, ◌∙◌}
use mathlib.Core.List.{List}
use mathlib.Core.Logic.{⊎_elim}
use Prim.Native.Nat.{ℕ, ◌≤◌, ◌<◌}
use lib.ListN.{length, get_or}
use lib.Seq.{ext_get_or}
use Rattle.arena.proofs.Loops.{le_or_lt}
use Rattle.game.specs.Rows.{fill, blank, zeros}
use Rattle.game.proofs.Rows.{fill-cell, fill-past, fill-length, zeros_at, blank-cell, blank-length}

module _ {A : Type 0} (wrap : ℕ → A) (most n : ℕ) (f : ℕ → ℕ) (few : n ≤ most) where
  wrapped_fill : (k : ℕ) → wrap (get_or (fill n f (zeros most)) k 0) ≡ get_or (fill n (λ s. wrap (f s)) (blank most (wrap 0))) k (wrap 0)
  wrapped_fill k =
      ⊎_elim
      (λ (l : n ≤ k). ap wrap (fill-past n f (zeros most) k 0 l ∙ zeros_at most k) ∙ sym (fill-past n _ _ k (wrap 0) l ∙ blank-cell most k (wrap 0)))
      (λ (l : k < n). ap wrap (fill-cell n f (zeros most) k 0 l) ∙ sym (fill-cell n (λ s. wrap (f s)) _ k (wrap 0) l))
      (le_or_lt n k)

  pub wrapped : (row : List ℕ) (own : List A) → row ≡ fill n f (zeros most) → length own ≡ most → ((i : ℕ) → i < most → get_or own i (wrap 0) ≡ wrap (get_or row i 0)) → own ≡ fill n (λ s. wrap (f s)) (blank most (wrap 0))
  wrapped row own e long each =
      let size : length (fill n (λ s. wrap (f s)) (blank most (wrap 0))) ≡ most = fill-length n _ _ (rw blank-length few) ∙ blank-length most (wrap 0) in
      ext_get_or (wrap 0) own _ (long ∙ sym size) (λ k l. (rw e at (each k (rw long at l))) ∙ wrapped_fill k)

  -- a loop that wraps the first n places, and leaves in the others what wraps 0
  pub wrapped_first : (row : List ℕ) (own : List A) → row ≡ fill n f (zeros most) → length own ≡ most → ((k : ℕ) → k < n → get_or own k (wrap 0) ≡ wrap (get_or row k 0)) → ((k : ℕ) → n ≤ k → get_or own k (wrap 0) ≡ wrap 0) → own ≡ fill n (λ s. wrap (f s)) (blank most (wrap 0))
  wrapped_first row own e long said after =
      wrapped row own e long (λ i l. ⊎_elim (λ (late : n ≤ i). after i late ∙ sym (rw e (ap wrap (fill-past n f (zeros most) i 0 late ∙ zeros_at most i)))) (said i) (le_or_lt n i))
