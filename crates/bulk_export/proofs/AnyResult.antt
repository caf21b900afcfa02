-- What holds whatever comes of a call.
use Rattle.std.proofs.Common.{Result, Ok, Err, OnOk}

pub on_ok : {T E : Type 0} (r : Result T E) (P : Type 0) → P → OnOk r P
on_ok (Ok x) P holds = holds
on_ok (Err e) P holds = tt
