-- What was written is found again.
use Rattle.std.proofs.Common.{◌≡◌, ℕ, List, [], ◌∷◌, ◌++◌, drop, Ok, Option, None, Some, Result, refl, sym, ap, ◌∙◌}
use Rattle.std.proofs.Common.{append_assoc, arith}
use Rattle.std.specs.Prelude.{IfSome, slice_index_or}
use Rattle.roster_values.proofs.KindLaws.{kind_from_place}
use Rattle.keeper_memory.specs.copy.Copies.{IsOutWrite}
use Rattle.keeper_memory.specs.declared.copy.entry.OutEntry.{OutEntry}
use Rattle.keeper_memory.specs.declared.copy.entry.Settled.{Settled}
use Rattle.keeper_memory.specs.declared.copy.state.StageState.{StageState}
use Rattle.hub_format.proofs.Decoding.{number_back, sized_back}
use Rattle.hub_format.proofs.Orders.{same_number}
use Rattle.hub_format.proofs.Unique.{same_flag}
use Rattle.hub_format.specs.Format.{Entry}
use Rattle.hub_format.specs.Pieces.{IsSized, number, sized}
use Rattle.roster_types.specs.Records.{Record}
use Rattle.roster_values.specs.declared.kind.Kind.{Kind}
use Rattle.row_json.specs.Json.{single_text}
use Rattle.row_json.specs.Reading.{row_of}
use Rattle.row_json.specs.declared.fault.JsonFault.{JsonFault}
use Rattle.version_core.specs.declared.mark.Write.{Write}
use Rattle.copy_format.specs.Bodies.{optional_number, optional_settled, optional_sized, row_body, stage_body}
use Rattle.copy_format.specs.Bodies.{state_body, write_bytes}
use Rattle.copy_format.specs.Format.{FitsSettled, FitsSmall, IsOut, IsRowOf, IsSmall, out_entry, row_entry}

pub optional_number_back : (a b : Option ℕ) (x y : List ℕ) → IfSome a IsSmall → IfSome b IsSmall → optional_number a ++ x ≡ optional_number b ++ y → (a ≡ b) × (x ≡ y)
optional_number_back None None x y fits_a fits_b same = (refl, ap (drop 1) same)
optional_number_back None (Some b) x y fits_a fits_b same = absurd cc
optional_number_back (Some a) None x y fits_a fits_b same = absurd cc
optional_number_back (Some a) (Some b) x y fits_a fits_b same = let parts = number_back a b x y fits_a fits_b (ap (drop 1) same) in (ap Some parts.0, parts.1)

pub optional_sized_back : (a b : Option (List ℕ)) (x y : List ℕ) → IfSome a IsSized → IfSome b IsSized → optional_sized a ++ x ≡ optional_sized b ++ y → (a ≡ b) × (x ≡ y)
optional_sized_back None None x y fits_a fits_b same = (refl, ap (drop 1) same)
optional_sized_back None (Some b) x y fits_a fits_b same = absurd cc
optional_sized_back (Some a) None x y fits_a fits_b same = absurd cc
optional_sized_back (Some a) (Some b) x y fits_a fits_b same = let parts = sized_back a b x y fits_a fits_b (ap (drop 1) same) in (ap Some parts.0, parts.1)

settled_back : (a b : Option Settled) → IfSome a FitsSettled → IfSome b FitsSettled → optional_settled a ≡ optional_settled b → a ≡ b
settled_back None None fits_a fits_b same = refl
settled_back None (Some b) fits_a fits_b same = absurd cc
settled_back (Some a) None fits_a fits_b same = absurd cc
settled_back (Some a) (Some b) fits_a fits_b same =
    let status = number_back a.status b.status (number a.version) (number b.version) fits_a.0 fits_b.0 (ap (drop 1) same) in
    let version = same_number a.version b.version fits_a.1 fits_b.1 status.1 in
    λ i. Some (record { status = status.0 i; version = version i })

head_of : (a b : ℕ) (x y : List ℕ) → a ∷ x ≡ b ∷ y → (a ≡ b) × (x ≡ y)
head_of a b x y same = (cc, cc)

-- the parts of a state
pub state_back : (r s : ℕ) (h k : Option ℕ) (a b : ℕ) (l m : ℕ) → IsSmall r → IsSmall s → IfSome h IsSmall → IfSome k IsSmall → IsSmall l → IsSmall m → state_body r h a l ≡ state_body s k b m
    → (r ≡ s) × (h ≡ k) × (a ≡ b) × (l ≡ m)
state_back r s h k a b l m fits_r fits_s fits_h fits_k fits_l fits_m same =
    let runs = number_back r s (optional_number h ++ a ∷ number l) (optional_number k ++ b ∷ number m) fits_r fits_s same in
    let helds = optional_number_back h k (a ∷ number l) (b ∷ number m) fits_h fits_k runs.1 in
    let sides = head_of a b (number l) (number m) helds.1 in
    (runs.0, helds.0, sides.0, same_number l m fits_l fits_m sides.1)

pub stage_back : (s t : StageState) → FitsSmall s → FitsSmall t → stage_body s ≡ stage_body t → s ≡ t
stage_back s t fits_s fits_t same =
    let pins = number_back s.pin t.pin
    (sized s.token ++ s.kinds_done ∷ (number s.staged ++ (optional_number s.total ++ optional_sized s.last)))
    (sized t.token ++ t.kinds_done ∷ (number t.staged ++ (optional_number t.total ++ optional_sized t.last))) fits_s.pin fits_t.pin same in
    let tokens = sized_back s.token t.token
    (s.kinds_done ∷ (number s.staged ++ (optional_number s.total ++ optional_sized s.last)))
    (t.kinds_done ∷ (number t.staged ++ (optional_number t.total ++ optional_sized t.last))) fits_s.token fits_t.token pins.1 in
    let kinds = head_of s.kinds_done t.kinds_done (number s.staged ++ (optional_number s.total ++ optional_sized s.last)) (number t.staged ++ (optional_number t.total ++ optional_sized t.last)) tokens.1 in
    let staged = number_back s.staged t.staged (optional_number s.total ++ optional_sized s.last) (optional_number t.total ++ optional_sized t.last) fits_s.staged fits_t.staged kinds.1 in
    let totals = optional_number_back s.total t.total (optional_sized s.last) (optional_sized t.last) fits_s.total fits_t.total staged.1 in
    let lasts = optional_sized_back s.last t.last [] [] fits_s.last fits_t.last (ap (λ xs. xs ++ []) totals.1) in
    λ i. record { pin = pins.0 i; token = tokens.0 i; kinds_done = kinds.0 i; staged = staged.0 i; total = totals.0 i; last = lasts.0 i }

-- a write in front of a rest
pub write_back : (a b : Write) (x y : List ℕ) → IsSized a.id → IsSized b.id → IsSized a.body → IsSized b.body → write_bytes a ++ x ≡ write_bytes b ++ y → (a ≡ b) × (x ≡ y)
write_back a b x y id_a id_b body_a body_b same =
    let flags = same_flag a.delete b.delete (ap (λ xs. slice_index_or xs 0 0) same) in
    let kinds = kind_from_place a.kind b.kind (ap (λ xs. slice_index_or xs 1 0) same) in
    let rest : sized a.id ++ (sized a.body ++ x) ≡ sized b.id ++ (sized b.body ++ y) = sym (append_assoc (sized a.id) (sized a.body) x) ∙ ap (drop 2) same ∙ append_assoc (sized b.id) (sized b.body) y in
    let ids = sized_back a.id b.id (sized a.body ++ x) (sized b.body ++ y) id_a id_b rest in
    let bodies = sized_back a.body b.body x y body_a body_b ids.1 in
    (λ i. record { delete = flags i; kind = kinds i; id = ids.0 i; body = bodies.0 i }, bodies.1)

body_fits : (write : Write) → IsOutWrite write → IsSized write.body
body_fits write is = let few = is.body in omega (arith, few)

pub out_back : (a b : OutEntry) → IsOut a → IsOut b → out_entry a ≡ out_entry b → a ≡ b
out_back a b is_a is_b same =
    let numbers = same_number a.number b.number is_a.number is_b.number (ap (λ (e : Entry). e.0) same) in
    let writes = write_back a.write b.write (optional_settled a.settled) (optional_settled b.settled) is_a.fits.id is_b.fits.id (body_fits a.write is_a.write) (body_fits b.write is_b.write) (ap (λ (e : Entry). e.1) same) in
    let settled = settled_back a.settled b.settled is_a.fits.settled is_b.fits.settled writes.1 in
    λ i. record { number = numbers i; write = writes.0 i; settled = settled i }

pub row_back : (kind : Kind) (a b : Record) → IsRowOf kind a → IsRowOf kind b → row_entry a ≡ row_entry b → a ≡ b
row_back kind a b is_a is_b same =
    let bodies : row_body a ≡ row_body b = ap (λ (e : Entry). e.1) same in
    let texts = sized_back (single_text None a) (single_text None b) [] [] is_a.fits.text is_b.fits.text (ap (λ xs. xs ++ []) bodies) in
    let rows : ◌≡◌ {A = Result Record JsonFault} (Ok a) (Ok b) = sym is_a.fits.back ∙ ap (row_of a.kind) texts.0 ∙ ap (λ k. row_of k (single_text None b)) (is_a.same ∙ sym is_b.same) ∙ is_b.fits.back in
    cc
