-- A refusal beside its number.
use Rattle.std.specs.Prelude.{ℕ, Result, Ok, Err}
use Rattle.file.specs.declared.refusal.Refusal.{Refusal}
use Rattle.file.specs.Number.{number}

-- 01, 'Refusals in their order': an answer, where a refusal says its number too
abbrev pub numbered : {A : Type 0} → Result A Refusal → Result A (Refusal × ℕ)
numbered (Ok answer) = Ok answer
numbered (Err refusal) = Err (refusal, number refusal)
