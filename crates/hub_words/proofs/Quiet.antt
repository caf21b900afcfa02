-- Statuses that blame nothing outside the hub and the link.
use Rattle.std.proofs.Common.{◌≡◌, ◌≢◌, ◌==◌, ◌||◌, ◌∙◌, ℕ, Bool, true, false, ap, not, sym}
use Rattle.hub_words.specs.Statuses.{bad_words_status, copy_failed_status, folder_failed_status, hub_failed_status}

-- a status that is that of no bad words, and of no fault of the folder, the hub's keeper or the copy's
abbrev pub is_quiet : ℕ → Bool
is_quiet status =
    not (status == bad_words_status || (status == folder_failed_status || (status == hub_failed_status || status == copy_failed_status)))

-- such a status is no other
pub unlike : (status other : ℕ) → is_quiet status ≡ true → is_quiet other ≡ false → status ≢ other
unlike status other quiet blames same = let both : false ≡ true = sym blames ∙ ap is_quiet (sym same) ∙ quiet in cc both
