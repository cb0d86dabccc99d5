-- Laws of tests. `T b` has an element exactly where the test b is true.
use mathlib.Core.Path.{◌≡◌, refl}
use mathlib.Core.Bool
use mathlib.Core.Bool.{Bool, true, false, not, ◌&&◌, ◌||◌, cond, beq, not-eq-not}
use mathlib.Core.Logic.{◌⊎◌, inl, inr}
use lib.Dec.{T, T_not, not_T}
use Rattle.arena.specs.Sets.{imp}

-- a test holds or fails
pub dec_T : (b : Bool) → T b ⊎ (T b → ⊥)
dec_T true = inl tt
dec_T false = inr (λ h. h)

-- a test that cannot fail holds
pub stable : (b : Bool) → ((T b → ⊥) → ⊥) → T b
stable true h = tt
stable false h = h (λ x. x)

-- two tests that imply each other are equal
pub T_ext : (a b : Bool) → (T a → T b) → (T b → T a) → a ≡ b
T_ext true true f g = refl
T_ext true false f g = absurd (f tt)
T_ext false true f g = absurd (g tt)
T_ext false false f g = refl

-- a test that holds is true
pub is_true : (b : Bool) → T b → b ≡ true
is_true true h = refl
is_true false h = elim h [ ]

-- a test that fails is false
pub is_false : (b : Bool) → (T b → ⊥) → b ≡ false
is_false true h = absurd (h tt)
is_false false h = refl

-- a true test holds
pub holds : (b : Bool) → b ≡ true → T b
holds b e = rw e tt

-- a false test fails
pub fails : (b : Bool) → b ≡ false → T b → ⊥
fails b e h = rw e at h

-- both hold, so their conjunction does
pub and_intro : (a b : Bool) → T a → T b → T (a && b)
and_intro true b p q = q
and_intro false b p q = elim p [ ]

-- a conjunction holds, so its first part does
pub and_l : (a b : Bool) → T (a && b) → T a
and_l true b p = tt
and_l false b p = elim p [ ]

-- a conjunction holds, so its second part does
pub and_r : (a b : Bool) → T (a && b) → T b
and_r true b p = p
and_r false b p = elim p [ ]

-- the first part of a disjunction holds, so the whole does
pub or_l : (a b : Bool) → T a → T (a || b)
or_l true b p = tt
or_l false b p = elim p [ ]

-- the second part of a disjunction holds, so the whole does
pub or_r : (a b : Bool) → T b → T (a || b)
or_r true b p = tt
or_r false b p = p

-- what follows from each part of a disjunction follows from it
pub or_elim {ℓ} : {A : Type ℓ} (a b : Bool) → (T a → A) → (T b → A) → T (a || b) → A
or_elim true b f g p = f tt
or_elim false b f g p = g p

-- parts that imply other parts: so do the disjunctions
pub or_mono : (a b c d : Bool) → (T a → T c) → (T b → T d) → T (a || b) → T (c || d)
or_mono a b c d f g = or_elim a b (λ x. or_l c d (f x)) (λ y. or_r c d (g y))

-- if a brings b, the implication holds
pub imp_intro : (a b : Bool) → (T a → T b) → T (imp a b)
imp_intro true b f = f tt
imp_intro false b f = tt

-- an implication and its premise give its conclusion
pub imp_elim : (a b : Bool) → T (imp a b) → T a → T b
imp_elim true b p q = p
imp_elim false b p q = elim q [ ]

-- an implication read backwards, between the negations
pub contra : (a b : Bool) → (T a → T b) → T (not b) → T (not a)
contra a b f y = not_T a (λ x. T_not b y (f x))

-- the negation of a negation is the test itself
pub not-not : (b : Bool) → not (not b) ≡ b
not-not = Bool.not-not

-- a test is like itself
pub beq_refl : (b : Bool) → T (beq b b)
beq_refl true = tt
beq_refl false = tt

-- tests that are alike are equal
pub beq→eq : (a b : Bool) → T (beq a b) → a ≡ b
beq→eq true true h = refl
beq→eq false false h = refl
beq→eq false true h = elim h [ ]
beq→eq true false h = elim h [ ]

-- tests that are not equal are opposite
pub opposite : (a b : Bool) → (a ≡ b → ⊥) → a ≡ not b
opposite a b h = (not-eq-not {a = a} {b = not b}).0 (rw not-not h)

-- neither of two: not one of them
pub nor : (a b : Bool) → not a && not b ≡ not (a || b)
nor true b = refl
nor false b = refl

-- a excludes b: not both
pub imp-not : (a b : Bool) → imp a (not b) ≡ not (a && b)
imp-not true b = refl
imp-not false b = refl

-- a without b: a does not imply b
pub and-not : (a b : Bool) → a && not b ≡ not (imp a b)
and-not true b = refl
and-not false b = refl

-- what holds of x where the test holds, and of y where it fails, holds of the choice between them
pub cond_ind {ℓ} : {A : Type 0} (P : A → Type ℓ) (b : Bool) (x y : A) → (T b → P x) → ((T b → ⊥) → P y) → P (cond b x y)
cond_ind P true x y f g = f tt
cond_ind P false x y f g = g (λ h. h)

-- tests that imply others: so does the choice between them
pub cond_mono : (b x y z w : Bool) → (T x → T z) → (T y → T w) → T (cond b x y) → T (cond b z w)
cond_mono true x y z w f g = f
cond_mono false x y z w f g = g

-- where the test holds, the first is chosen
pub cond_yes : {A : Type 0} (b : Bool) (x y : A) → T b → cond b x y ≡ x
cond_yes true x y h = refl
cond_yes {A = A} false x y h = elim h [ ]

-- where the test fails, the second is chosen
pub cond_no : {A : Type 0} (b : Bool) (x y : A) → (T b → ⊥) → cond b x y ≡ y
cond_no true x y h = absurd (h tt)
cond_no false x y h = refl
