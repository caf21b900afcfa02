-- Sets of scope words.
use Rattle.std.specs.Prelude.{if◌then◌else◌, ℕ, ◌^◌, nat_lt, Option, Some, None}

-- where the numbers of sets end: each of the seven words is one bit
abbrev pub scopes_end : ℕ
scopes_end = 2 ^ 7

-- the set of these bits, if there is no eighth
abbrev pub scopes_of : ℕ → Option ℕ
scopes_of bits = if nat_lt bits scopes_end then Some bits else None
