-- What a reader returns, against what its text means.
use Rattle.std.specs.Prelude.{◌≡◌, Result, Ok, Err}
use Rattle.roster_base.specs.declared.refusal.Refusal.{Refusal}
use Rattle.roster_base.specs.declared.refusal.Refusal.TheVariants as refusal

-- the meaning is this fault, unless memory ran out
abbrev pub Fails : {Y F : Type 0} → Refusal F → Result Y F → Type 0
Fails (refusal.Fault f) meaning = meaning ≡ Err f
Fails refusal.NoMemory meaning = Unit {0}

-- what a reader returned, seen by `view`, is what its text means: the value or the first fault, unless memory ran out
abbrev pub Gives : {X Y F : Type 0} → (X → Y) → Result X (Refusal F) → Result Y F → Type 0
Gives view (Ok x) meaning = meaning ≡ Ok (view x)
Gives view (Err e) meaning = Fails e meaning

-- from one reading to the next, where the first gave something
infixl 10 ◌>>=◌
abbrev pub ◌>>=◌ : {A B F : Type 0} → Result A F → (A → Result B F) → Result B F
(Ok x) >>= f = f x
(Err e) >>= f = Err e
