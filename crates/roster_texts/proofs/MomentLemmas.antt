-- Moments read from texts.
use Rattle.std.proofs.Common.{◌≡◌, ℕ, ◌+◌, ◌-◌, ◌≤◌, List, length, take, drop, false, Some, refl, ap, ◌∙◌, arith, ℤ}
use Rattle.std.proofs.Common.{nat_lt, length-drop}
use Rattle.std.proofs.lemmas.List.{take_all}
use Rattle.std.proofs.lemmas.Bool.Decides.{nat_tests}
use Rattle.roster_texts.specs.Days.{day_of}
use Rattle.roster_texts.specs.Moments.{instant_of, milliseconds_at, milliseconds_of, moment_at, offset_of, seconds_of}
use Rattle.roster_texts.specs.Moments.{zone_len}

-- what `&t[k..]` is
rest_from : (t : List ℕ) (k : ℕ) → take (length t - k) (drop k t) ≡ drop k t
rest_from t k = take_all (length t - k) (drop k t) (omega (arith, length-drop k t))

pub instant_read : (t : List ℕ) (zone : ℕ) (day : ℤ) (seconds ms : ℕ) (offset z : ℤ)
    → zone ≡ zone_len t → 19 + zone ≤ length t
    → Some day ≡ day_of (take 10 t)
    → Some seconds ≡ seconds_of (take 9 (drop 10 t))
    → Some ms ≡ milliseconds_of (take (length t - zone - 19) (drop 19 t))
    → Some offset ≡ offset_of (take (length t - (length t - zone)) (drop (length t - zone) t))
    → z ≡ milliseconds_at day seconds ms offset
    → moment_at z ≡ instant_of t
unfolding instant_of
instant_read t zone day seconds ms offset z ez long ed es em eo e =
    let fits : nat_lt (length t) (19 + zone_len t) ≡ false = rw (← ez) (grind (arith, nat_tests)) in
    let em' : Some ms ≡ milliseconds_of (take (length t - zone_len t - 19) (drop 19 t)) = rw ez at em in
    let eo' : Some offset ≡ offset_of (drop (length t - zone_len t) t) = rw ez at (eo ∙ ap offset_of (rest_from t (length t - zone))) in
    rw (fits, ← ed, ← es, ← em', ← eo', e) refl
