-- 01, 'Refusals in their order': the refusals and their numbers. A fault is the number of a refusal, or 0 where there is none.
use Rattle.std.specs.Prelude.{ℕ, ◌-◌, List, [], ◌∷◌, get_or, Result, Ok, Err}
use Rattle.file.specs.declared.refusal.Refusal.{Refusal}
use Rattle.file.specs.declared.refusal.Refusal.TheVariants.{ShortRow, CutShort, OtherRecord, BadHead, BadState, BadMove, BytesAtEnd, NoStart, NoMove, MixedStarts, MixedTarget}

-- the number of a refusal
abbrev pub number : Refusal → ℕ
number ShortRow = 1
number CutShort = 2
number OtherRecord = 3
number BadHead = 4
number BadState = 5
number BadMove = 6
number BytesAtEnd = 7
number NoStart = 8
number NoMove = 9
number MixedStarts = 10
number MixedTarget = 11

-- the refusals in the order of their numbers
abbrev pub refusals : List Refusal
refusals = ShortRow ∷ CutShort ∷ OtherRecord ∷ BadHead ∷ BadState ∷ BadMove ∷ BytesAtEnd ∷ NoStart ∷ NoMove ∷ MixedStarts ∷ MixedTarget ∷ []

-- the refusal of a number from 1 to 11
abbrev pub refused : ℕ → Refusal
refused e = get_or refusals (e - 1) MixedTarget

-- the fault that an answer tells
abbrev pub fault_of : {A : Type 0} → Result A Refusal → ℕ
fault_of (Ok a) = 0
fault_of (Err r) = number r
