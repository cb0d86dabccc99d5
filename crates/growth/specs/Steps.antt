-- What each step of a growth does to the rows that travel together.
use Rattle.std.specs.Prelude.{ℕ, ◌≡◌, List}
use Rattle.arena.specs.Sets.{Set}
use Rattle.chains.specs.declared.lent.Members.{Members}
use Rattle.chains.specs.Lent.{Linked}
use Rattle.growth.specs.declared.Growth.{Growth}
use Rattle.growth.specs.Net.{Net}
use Rattle.growth.specs.Queue.{Listed, Joined, Handled, Passing}

-- the members of each block are chained
abbrev pub Chains : ℕ → List ℕ → Members → Type 0
Chains n block members = Linked n n block members.last.now members.before.now

-- the queue lists the row
abbrev pub ListedIn : ℕ → Growth → List ℕ → Type 0
ListedIn n growth row = Listed n row growth.queue.now growth.tail

-- the states of J that were outside have joined with this number, and what was counted stands
abbrev pub JoinedBy : ℕ → Set → ℕ → Growth → List ℕ → Growth → List ℕ → Type 0
JoinedBy n J number was row₀ growth row =
    Joined n J number row₀ was.queue.now was.tail row growth.queue.now growth.tail × (growth.have.now ≡ was.have.now) × (growth.hit.now ≡ was.hit.now)

-- the moves into the first q states of the queue `order` are counted, and what became ripe has joined
abbrev pub HandledBy : Net → (ℕ → ℕ) → ℕ → ℕ → List ℕ → Growth → List ℕ → Type 0
HandledBy w old number q order growth row = Handled w old number q order growth.have.now growth.hit.now row growth.queue.now growth.tail

-- within a pass: the first q states are handled, and the first `end` ones are those that had entered before
abbrev pub PassingBy : Net → (ℕ → ℕ) → ℕ → ℕ → ℕ → Growth → List ℕ → Type 0
PassingBy w f pass end q growth row = Passing w f pass end q growth.have.now growth.hit.now row growth.queue.now growth.tail
