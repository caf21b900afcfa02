-- Whether two rows are equal is decided.
use Rattle.std.proofs.Common.{◌≡◌, ℕ, zero, suc, ℤ, pos, ◌==◌, ◌⊎◌, inl, inr, Bool, true, false, ◌&&◌, List, [], ◌∷◌}
use Rattle.std.proofs.Common.{Option, None, Some, bytes_eq, int_eq, refl, sym, ap, ◌∙◌}
use Rattle.std.proofs.lemmas.Bool.Decides.{Decides-eqb, Decides-int_eq, Decides-like, Decides-and, not_from_Decides}
use Rattle.std.proofs.lemmas.Slice.Eq.{bytes_eq-Decides, slice_eq-Decides}
use Rattle.std.specs.Bool.{Decides}
use Rattle.std.specs.Cmp.Lexicographic.{pointwise}
use Rattle.roster_values.proofs.KindLaws.{kind_from_place}
use Rattle.roster_types.specs.Records.{Record}
use Rattle.roster_types.specs.declared.metadata.Entry.{Entry}
use Rattle.roster_types.specs.declared.status.Status.{Status}
use Rattle.roster_types.specs.declared.status.Status.TheVariants.{Active, ToBeDeleted}
use Rattle.roster_values.specs.Kinds.{place_of_kind}
use Rattle.roster_values.specs.UserIds.{UserIdParts}
use Rattle.roster_values.specs.declared.value.Value.{Value}
use Rattle.roster_values.specs.declared.value.Value.TheVariants as value

-- what a value has, by its form
record Code : Type 0 where
  form : ℕ
  text : List ℕ
  number : ℤ
  texts : List (List ℕ)
  ids : List UserIdParts

code : Value → Code
code (value.Text t) = record { form = 0; text = t; number = pos 0; texts = []; ids = [] }
code (value.Id t) = record { form = 1; text = t; number = pos 0; texts = []; ids = [] }
code (value.Day z) = record { form = 2; text = []; number = z; texts = []; ids = [] }
code (value.Moment z) = record { form = 3; text = []; number = z; texts = []; ids = [] }
code (value.Number z) = record { form = 4; text = []; number = z; texts = []; ids = [] }
code (value.Year n) = record { form = 5; text = n ∷ []; number = pos 0; texts = []; ids = [] }
code (value.Flag true) = record { form = 6; text = []; number = pos 0; texts = []; ids = [] }
code (value.Flag false) = record { form = 7; text = []; number = pos 0; texts = []; ids = [] }
code (value.Word t) = record { form = 8; text = t; number = pos 0; texts = []; ids = [] }
code (value.Texts ts) = record { form = 9; text = []; number = pos 0; texts = ts; ids = [] }
code (value.UserIds us) = record { form = 10; text = []; number = pos 0; texts = []; ids = us }
code (value.Ref t) = record { form = 11; text = t; number = pos 0; texts = []; ids = [] }
code (value.Refs ts) = record { form = 12; text = []; number = pos 0; texts = ts; ids = [] }

year_in : List ℕ → ℕ
year_in [] = 0
year_in (n ∷ ns) = n

form_of : List (Code → Value) → ℕ → Code → Value
form_of [] n c = value.Flag true
form_of (f ∷ fs) zero c = f c
form_of (f ∷ fs) (suc n) c = form_of fs n c

decoded : Code → Value
decoded c = form_of (
    (λ (d : Code). value.Text d.text)
    ∷ (λ d. value.Id d.text)
    ∷ (λ d. value.Day d.number)
    ∷ (λ d. value.Moment d.number)
    ∷ (λ d. value.Number d.number)
    ∷ (λ d. value.Year (year_in d.text))
    ∷ (λ d. value.Flag true)
    ∷ (λ d. value.Flag false)
    ∷ (λ d. value.Word d.text)
    ∷ (λ d. value.Texts d.texts)
    ∷ (λ d. value.UserIds d.ids)
    ∷ (λ d. value.Ref d.text)
    ∷ (λ d. value.Refs d.texts)
    ∷ []) c.form c

back : (v : Value) → decoded (code v) ≡ v
unfolding decoded code form_of year_in
back (value.Text t) = refl
back (value.Id t) = refl
back (value.Day z) = refl
back (value.Moment z) = refl
back (value.Number z) = refl
back (value.Year n) = refl
back (value.Flag true) = refl
back (value.Flag false) = refl
back (value.Word t) = refl
back (value.Texts ts) = refl
back (value.UserIds us) = refl
back (value.Ref t) = refl
back (value.Refs ts) = refl

same_parts : UserIdParts → UserIdParts → Bool
same_parts a b = bytes_eq a.form b.form && bytes_eq a.identifier b.identifier

same_parts-Decides : (a b : UserIdParts) → Decides (same_parts a b) (a ≡ b)
unfolding same_parts
same_parts-Decides a b =
    Decides-like _ (λ e. λ i. record { form = e.0 i; identifier = e.1 i }) (λ e. (ap (λ (p : UserIdParts). p.form) e, ap (λ (p : UserIdParts). p.identifier) e))
    (Decides-and _ _ (bytes_eq-Decides a.form b.form) (bytes_eq-Decides a.identifier b.identifier))

same_code : Code → Code → Bool
same_code a b = (a.form == b.form) && (bytes_eq a.text b.text && (int_eq a.number b.number && (pointwise bytes_eq a.texts b.texts && pointwise same_parts a.ids b.ids)))

same_code-Decides : (a b : Code) → Decides (same_code a b) (a ≡ b)
unfolding same_code
same_code-Decides a b =
    Decides-like _ (λ e. λ i. record { form = e.0 i; text = e.1.0 i; number = e.1.1.0 i; texts = e.1.1.1.0 i; ids = e.1.1.1.1 i })
    (λ e. (ap (λ (c : Code). c.form) e, (ap (λ (c : Code). c.text) e, (ap (λ (c : Code). c.number) e, (ap (λ (c : Code). c.texts) e, ap (λ (c : Code). c.ids) e)))))
    (Decides-and _ _ (Decides-eqb a.form b.form) (Decides-and _ _ (bytes_eq-Decides a.text b.text) (Decides-and _ _ (Decides-int_eq a.number b.number)
    (Decides-and _ _ (slice_eq-Decides bytes_eq-Decides a.texts b.texts _ refl) (slice_eq-Decides same_parts-Decides a.ids b.ids _ refl)))))

same_value : Value → Value → Bool
same_value v w = same_code (code v) (code w)

same_value-Decides : (v w : Value) → Decides (same_value v w) (v ≡ w)
unfolding same_value
same_value-Decides v w = Decides-like _ (λ e. sym (back v) ∙ ap decoded e ∙ back w) (ap code) (same_code-Decides (code v) (code w))

same_cell : Option Value → Option Value → Bool
same_cell None None = true
same_cell None (Some w) = false
same_cell (Some v) None = false
same_cell (Some v) (Some w) = same_value v w

same_cell-Decides : (v w : Option Value) → Decides (same_cell v w) (v ≡ w)
unfolding same_cell
same_cell-Decides None None = (λ _. refl, λ _. refl)
same_cell-Decides None (Some w) = (λ e. cc, λ e. cc)
same_cell-Decides (Some v) None = (λ e. cc, λ e. cc)
same_cell-Decides (Some v) (Some w) = Decides-like _ (λ e. ap (λ x. Some x) e) (λ e. cc) (same_value-Decides v w)

same_entry : Entry → Entry → Bool
same_entry a b = bytes_eq a.key b.key && bytes_eq a.text b.text

same_entry-Decides : (a b : Entry) → Decides (same_entry a b) (a ≡ b)
unfolding same_entry
same_entry-Decides a b =
    Decides-like _ (λ e. λ i. record { key = e.0 i; text = e.1 i }) (λ e. (ap (λ (p : Entry). p.key) e, ap (λ (p : Entry). p.text) e))
    (Decides-and _ _ (bytes_eq-Decides a.key b.key) (bytes_eq-Decides a.text b.text))

same_status : Status → Status → Bool
same_status Active Active = true
same_status Active ToBeDeleted = false
same_status ToBeDeleted Active = false
same_status ToBeDeleted ToBeDeleted = true

same_status-Decides : (a b : Status) → Decides (same_status a b) (a ≡ b)
unfolding same_status
same_status-Decides Active Active = (λ _. refl, λ _. refl)
same_status-Decides Active ToBeDeleted = (λ e. cc, λ e. cc)
same_status-Decides ToBeDeleted Active = (λ e. cc, λ e. cc)
same_status-Decides ToBeDeleted ToBeDeleted = (λ _. refl, λ _. refl)

pub same_row : Record → Record → Bool
same_row r s =
    (place_of_kind r.kind == place_of_kind s.kind) && (bytes_eq r.id s.id && (same_status r.status s.status
    && (int_eq r.modified s.modified && (pointwise same_cell r.values s.values && pointwise same_entry r.metadata s.metadata))))

pub same_row-Decides : (r s : Record) → Decides (same_row r s) (r ≡ s)
unfolding same_row
same_row-Decides r s =
    Decides-like _ (λ e. λ i. record { kind = kind_from_place r.kind s.kind e.0 i; id = e.1.0 i; status = e.1.1.0 i; modified = e.1.1.1.0 i; values = e.1.1.1.1.0 i; metadata = e.1.1.1.1.1 i })
    (λ e. (ap (λ (t : Record). place_of_kind t.kind) e, (ap (λ (t : Record). t.id) e, (ap (λ (t : Record). t.status) e, (ap (λ (t : Record). t.modified) e, (ap (λ (t : Record). t.values) e, ap (λ (t : Record). t.metadata) e))))))
    (Decides-and _ _ (Decides-eqb (place_of_kind r.kind) (place_of_kind s.kind)) (Decides-and _ _ (bytes_eq-Decides r.id s.id) (Decides-and _ _ (same_status-Decides r.status s.status)
    (Decides-and _ _ (Decides-int_eq r.modified s.modified) (Decides-and _ _ (slice_eq-Decides same_cell-Decides r.values s.values _ refl) (slice_eq-Decides same_entry-Decides r.metadata s.metadata _ refl))))))

pub deciding : (r s : Record) → (r ≡ s) ⊎ ((r ≡ s) → ⊥)
deciding r s =
    elim (same_row r s) as (λ b. same_row r s ≡ b → (r ≡ s) ⊎ ((r ≡ s) → ⊥)) [
      | true ↦ λ e. inl ((same_row-Decides r s).0 e)
      | false ↦ λ e. inr (not_from_Decides (same_row r s) (same_row-Decides r s) e)
    ] refl
