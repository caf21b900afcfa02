-- A mark whose entry is another's is that mark.
use Rattle.std.proofs.Common.{◌≡◌, ◌<◌, ◌^◌, ◌∷◌, refl, sym, ap, ◌∙◌, subst}
use Rattle.version_core.specs.Marks.{mark_key}
use Rattle.version_core.specs.declared.mark.MarkRow.{MarkRow}
use Rattle.hub_format.specs.Format.{Entry, FitsMark, mark_entry}
use Rattle.hub_format.specs.Pieces.{HasNoZero, IsSized, StaysBelowEnd, mark_body, mark_label, number}
use Rattle.hub_format.proofs.Marking.{same_parts}
use Rattle.hub_format.proofs.Unique.{same_mark_row}

pub mark_read : (found mark : MarkRow) (entry : Entry) → FitsMark mark → entry ≡ mark_entry mark → mark_label (mark_key found) ≡ entry.0 → mark_body found ≡ entry.1
    → found.number < 2 ^ 64 → IsSized found.write.id → IsSized found.write.body → found.kept.version < 2 ^ 64 → found ≡ mark
mark_read found mark entry fits same label body small id text version =
    let entries : mark_entry found ≡ mark_entry mark = (λ i. (label i, body i)) ∙ same in
    let callers = (same_parts found.caller mark.caller (0 ∷ number found.number) (0 ∷ number mark.number) refl (ap (λ (e : Entry). e.0) entries)).0 in
    let fits_found : FitsMark found = record { caller = subst HasNoZero (sym callers) fits.caller; below = subst StaysBelowEnd (sym callers) fits.below; number = small; id = id; body = text; version = version } in
    same_mark_row found mark fits_found fits entries
