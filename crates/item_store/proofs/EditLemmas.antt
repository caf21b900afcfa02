-- Edits made one after another.
use Rattle.sqlite.specs.State.{State}
use Rattle.sqlite.specs.declared.error.Error.{Error}
use Rattle.roster_base.specs.declared.keeper.KeeperError.{KeeperError}
use Rattle.roster_base.specs.declared.keeper.KeeperError.TheVariants.{Failed, NoMemory}
use Rattle.item_store.specs.Asked.{IsRefused}
use Rattle.item_store.specs.Stands.{StandsFor, GoesBackTo}
use Rattle.std.proofs.Common.{Result, Ok, Err, OnOk, OnErr, ◌≡◌, ◌≢◌, ◌<◌, ◌≤◌, ℕ, zero, suc, ◌+◌, List, [], ◌∷◌}
use Rattle.std.proofs.Common.{length, map, take, ◌++◌, ap₂, drop, get_or, refl, sym, ap, ◌∙◌, drop-cons, add-one, arith}
use Rattle.sqlite.specs.Order.{Row}
use Rattle.std.proofs.lemmas.List.{drop_all, length-map, map-append, take_more}
use Rattle.item_store.proofs.Range.{got_mapped}
use Rattle.item_maps.specs.Items.{Items}
use Rattle.item_store.specs.Items.{shown}
use Rattle.item_maps.specs.declared.item.Item.{Item}
use Rattle.item_maps.specs.Edits.{entry_of}
use Rattle.item_store.specs.Causes.{no_memory, IsFailed, IsCaused}
use Rattle.item_maps.specs.declared.item.Edit.{Edit}
use Rattle.item_maps.specs.Edits.{after, after_edit}

pub step_after : (es : List Edit) (i : ℕ) (e : Edit) (n : Items) → i < length es → e ≡ get_or es i e → after (drop (i + 1) es) (after_edit e n) ≡ after (drop i es) n
step_after es i e n h is =
    let split : after (drop i es) n ≡ after (drop (suc i) es) (after_edit (get_or es i e) n) = ap (λ (l : List Edit). after l n) (drop-cons es i e h) in
    let same : after (drop (suc i) es) (after_edit e n) ≡ after (drop (suc i) es) (after_edit (get_or es i e) n) = ap (λ (x : Edit). after (drop (suc i) es) (after_edit x n)) is in
    rw add-one (same ∙ sym split)

pub all_after : (es : List Edit) (i : ℕ) (n : Items) → length es ≤ i → after (drop i es) n ≡ n
all_after es i n h = ap (λ (l : List Edit). after l n) (drop_all i es h)

-- ---- results

pub ok_then : {T E : Type 0} (P Q : Type 0) (r : Result T E) → (P → Q) → OnOk r P → OnOk r Q
ok_then P Q (Ok x) f p = f p
ok_then P Q (Err e) f p = tt

pub err_then : {T E : Type 0} (P Q : Type 0) (r : Result T E) → (P → Q) → OnErr r P → OnErr r Q
err_then P Q (Ok x) f p = tt
err_then P Q (Err e) f p = f p

-- a failure's cause is the error for which it stands
pub caused : {H : Type 0} (view : H → State) (old new : H) (k : KeeperError) (error : Error) → IsFailed k error → (error ≢ no_memory → IsRefused view old new error) → IsCaused view old new k
caused view old new Failed error failed refused = (error, failed, refused failed)
caused view old new NoMemory error failed refused = tt

-- outside a transaction a rollback leads nowhere else
pub stands_back : (s : State) (m : Items) → StandsFor s m → GoesBackTo s m
stands_back s m h clean live =
    let it = h clean live in record { base_told = it.told; table = λ inside. absurd (let out = it.autocommit in cc); settled = λ _. it.same }

-- ---- rows read back

any_default : {A : Type 0} (xs : List A) (i : ℕ) (d e : A) → i < length xs → get_or xs i d ≡ get_or xs i e
any_default [] i d e h = absurd (omega arith)
any_default (x ∷ xs) zero d e h = refl
any_default (x ∷ xs) (suc i) d e h = any_default xs i d e (omega arith)

-- a row read back is what is shown of the item at its place
pub row_shown : (rows : List Row) (items : List (List ℕ × List ℕ)) (i : ℕ) (row : Row) → i < length rows → row ≡ get_or rows i row → rows ≡ map shown items → row ≡ shown (get_or items i ([], []))
row_shown rows items i row low is named =
    is ∙ any_default rows i row (shown ([], [])) low ∙ ap (λ (l : List Row). get_or l i (shown ([], []))) named ∙ got_mapped shown items i ([], [])

pub more_items : (rows : List Row) (items : List (List ℕ × List ℕ)) (i : ℕ) (row : Row) (got : List Item) (it : Item) → i < length rows → row ≡ get_or rows i row → rows ≡ map shown items
    → map entry_of got ≡ take i items → ((item : List ℕ × List ℕ) → row ≡ shown item → entry_of it ≡ item) → map entry_of (got ++ it ∷ []) ≡ take (i + 1) items
more_items rows items i row got it low is named so_far reads =
    let d : List ℕ × List ℕ = ([], []) in
    let within : i < length items = omega (arith, ap (λ (l : List Row). length l) named, length-map items shown) in
    map-append entry_of got (it ∷ []) ∙ ap₂ ◌++◌ so_far (ap (λ (x : List ℕ × List ℕ). x ∷ []) (reads (get_or items i d) (row_shown rows items i row low is named))) ∙ sym (take_more items i d within)
