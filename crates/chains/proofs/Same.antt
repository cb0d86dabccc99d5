-- Rows that are still those that were lent.
use mathlib.Core.Path.{refl, ◌∙◌}
use mathlib.Core.List.{List}
use Prim.Native.Nat.{ℕ}
use denote.Ref.{MutBor}
use Rattle.chains.specs.Grouped.{SameRow, SameMembers}
use Rattle.chains.specs.declared.lent.MembersMut.{MembersMut}

pub same_row : (a : MutBor (List ℕ)) → SameRow a a
same_row a = record { name = refl; long = refl }

pub still-row : {a b c : MutBor (List ℕ)} → SameRow a b → SameRow b c → SameRow a c
still-row p q = record { name = q.name ∙ p.name; long = q.long ∙ p.long }

pub same_members : (a : MembersMut) → SameMembers a a
same_members a = (same_row a.last, same_row a.before, same_row a.size)

pub still-members : (a b c : MembersMut) → SameMembers a b → SameMembers b c → SameMembers a c
still-members a b c p q = (still-row p.0 q.0, still-row p.1 q.1, still-row p.2 q.2)
