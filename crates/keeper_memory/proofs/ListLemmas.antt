-- Lists of rows and of entries.
use Rattle.std.proofs.Common.{◌≡◌, ◌+◌, ◌-◌, ◌<◌, ℕ, zero, suc, Bool, true, List, [], ◌∷◌, ◌++◌, length, take, drop}
use Rattle.std.proofs.Common.{get_or, Option, Some, refl, sym, ◌∙◌, ap, arith}
use Rattle.std.specs.Prelude.{slice_get, is_none, is_some, not, if◌then◌else◌}
use Rattle.std.proofs.Math.Seq.{set-append_seam}
use Rattle.std.proofs.lemmas.List.{drop_more, length-take-le, take-append-drop}
use Rattle.std.proofs.Math.ListN.{set}
use Rattle.std.proofs.lemmas.Option.{same_Some}
use Rattle.keeper_memory.specs.copy.Changes.{settled_first}
use Rattle.keeper_memory.specs.copy.Lists.{last_from}
use Rattle.keeper_memory.specs.declared.copy.entry.OutEntry.{OutEntry}
use Rattle.keeper_memory.specs.declared.copy.entry.Settled.{Settled}
use Rattle.roster_types.specs.Records.{Record}

pub last_from-append : (d : Option (List ℕ)) (xs ys : List Record) → last_from d (xs ++ ys) ≡ last_from (last_from d xs) ys
last_from-append d [] ys = refl
last_from-append d (x ∷ xs) ys = last_from-append (Some x.id) xs ys

-- the last of some rows is their last
pub last_get : (last : Option (List ℕ)) (rows : List Record) (row : Record) → slice_get rows (length rows - 1) ≡ Some row → last_from last rows ≡ Some row.id
last_get last [] row e = cc
last_get last (x ∷ []) row e = ap (λ (r : Record). Some r.id) (same_Some _ _ e)
last_get last (x ∷ y ∷ rows) row e =
    let next : suc (length (y ∷ rows) - 1) ≡ length (x ∷ y ∷ rows) - 1 = omega arith in
    last_get (Some x.id) (y ∷ rows) row (ap (slice_get (x ∷ y ∷ rows)) next ∙ e)

front : (s : Settled) (x : OutEntry) (rest : List OutEntry) → is_none x.settled ≡ true → settled_first s (x ∷ rest) ≡ record x { settled = Some s } ∷ rest
front s x rest e = ap (λ b. if b then record x { settled = Some s } ∷ rest else x ∷ settled_first s rest) e

-- the first entry that isn't settled is set
pub settled_set : (s : Settled) (es : List OutEntry) (i : ℕ) (d : OutEntry) → i < length es → settled_first s es ≡ take i es ++ settled_first s (drop i es) → is_none (get_or es i d).settled ≡ true
    → set es i (record (get_or es i d) { settled = Some s }) ≡ settled_first s es
settled_set s es i d lt before none =
    let x : OutEntry = get_or es i d in
    let y : OutEntry = record x { settled = Some s } in
    let rest : List OutEntry = drop (i + 1) es in
    let at : drop i es ≡ x ∷ rest = drop_more es i d lt in
    let whole : es ≡ take i es ++ x ∷ rest = sym (take-append-drop i es) ∙ ap (λ r. take i es ++ r) at in
    let len : length (take i es) ≡ i = length-take-le i es (omega (arith, lt)) in
    ap (λ l. set l i y) whole ∙ ap (λ n. set (take i es ++ x ∷ rest) n y) (sym len) ∙ set-append_seam (take i es) x rest y
    ∙ ap (λ r. take i es ++ r) (sym (front s x rest none)) ∙ ap (λ r. take i es ++ settled_first s r) (sym at) ∙ sym before

get_same : (es : List OutEntry) (i : ℕ) (d e : OutEntry) → i < length es → get_or es i d ≡ get_or es i e
get_same [] i d e lt = absurd (omega (arith, lt))
get_same (x ∷ xs) zero d e lt = refl
get_same (x ∷ xs) (suc i) d e lt = get_same xs i d e (omega (arith, lt))

pub open_there : (es : List OutEntry) (i : ℕ) (d e : OutEntry) (r : Bool) → i < length es → is_some (get_or es i d).settled ≡ not r → r ≡ true → is_none (get_or es i e).settled ≡ true
open_there es i d e r lt s t = ap (λ (x : OutEntry). is_none x.settled) (get_same es i e d lt) ∙ ap not (s ∙ ap not t)
