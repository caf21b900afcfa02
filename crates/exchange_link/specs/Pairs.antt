-- What holds of a copy and a link before and after a call, for all for which they may stand.
use Rattle.exchange_link.specs.Exchanges.{LinkState}
use Rattle.keeper_memory.specs.copy.Copies.{Copy}

-- for each copy for which the keeper stands there is one for which it stood before, and this holds of the two
abbrev pub CopyFrom : (Copy → Type 0) → (Copy → Type 0) → (Copy → Copy → Type 0) → Type 0
CopyFrom stood stands P = (after : Copy) → stands after → (before : Copy) × stood before × P before after

-- the same of what the link tells
abbrev pub LinkFrom : (LinkState → Type 0) → (LinkState → Type 0) → (LinkState → LinkState → Type 0) → Type 0
LinkFrom told tells P = (after : LinkState) → tells after → (before : LinkState) × told before × P before after

-- this holds of each copy for which the keeper stands with each state that the link tells
abbrev pub AtEach : (Copy → Type 0) → (LinkState → Type 0) → (Copy → LinkState → Type 0) → Type 0
AtEach stands tells P = (copy : Copy) (state : LinkState) → stands copy → tells state → P copy state

-- this holds of one of those copies and one of those states
abbrev pub AtSome : (Copy → Type 0) → (LinkState → Type 0) → (Copy → LinkState → Type 0) → Type 0
AtSome stands tells P = (copy : Copy) × (state : LinkState) × stands copy × tells state × P copy state
