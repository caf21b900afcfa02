-- JSON values read one after another.
use Rattle.std.proofs.Common.{◌≡◌, ◌++◌, ℕ, Bool, true, false, List, [], ◌∷◌, Result, Ok, Err, refl, sym, ap, ◌∙◌}
use Rattle.std.proofs.Common.{append_assoc, append-nil}
use Rattle.std.specs.List.{join_with_byte}
use Rattle.serde_json.specs.Data.{Data}
use Rattle.serde_json.specs.View.{items_view, view}
use Rattle.serde_json.specs.Written.{comma_if}
use Rattle.serde_json.specs.declared.value.Value.{Value}
use Rattle.roster_base.specs.Reading.{Fails, ◌>>=◌}
use Rattle.roster_base.specs.declared.refusal.Refusal.{Refusal}
use Rattle.roster_base.specs.declared.refusal.Refusal.TheVariants as refusal
use Rattle.row_json.specs.CellTexts.{each}

-- what reading the values is said to give, from the values that are left and what is made of these
pub record Reads {A B F : Type 0} (read : Data → Result A F) (made : List A → B) (whole : Result B F) (left : List Value) : Type 0 where
  pub same : (each read (items_view left) >>= (λ xs. Ok (made xs))) ≡ whole

pub made_same : {A B F : Type 0} (f g : A → B) → ((x : A) → f x ≡ g x) → (r : Result A F) → (r >>= (λ x. Ok (f x))) ≡ (r >>= (λ x. Ok (g x)))
made_same f g h (Ok x) = ap (λ y. Ok y) (h x)
made_same f g h (Err e) = refl

pub kept : {A F : Type 0} (r : Result A F) → (r >>= (λ x. Ok x)) ≡ r
kept (Ok x) = refl
kept (Err f) = refl

behind : {A B F : Type 0} (x : A) (made : List A → B) (r : Result (List A) F) → ((r >>= (λ xs. Ok (x ∷ xs))) >>= (λ xs. Ok (made xs))) ≡ (r >>= (λ xs. Ok (made (x ∷ xs))))
behind x made (Ok xs) = refl
behind x made (Err f) = refl

pub reads-on : {A B F : Type 0} {read : Data → Result A F} {made : List A → B} {whole : Result B F} {left rest : List Value} (new : List A → B) (v : Value) (x : A) → Reads read made whole left → left ≡ v ∷ rest → read (view v) ≡ Ok x
    → ((xs : List A) → new xs ≡ made (x ∷ xs)) → Reads read new whole rest
unfolding each
reads-on {read = read} {made} {rest = rest} new v x s l e n = record {
  same = made_same new (λ xs. made (x ∷ xs)) n (each read (items_view rest)) ∙ sym (behind x made (each read (items_view rest))) ∙ rw (l, e) at s.same;
}

pub reads-fail : {A B F : Type 0} {read : Data → Result A F} {made : List A → B} {whole : Result B F} {left rest : List Value} (v : Value) (f : Refusal F) → Reads read made whole left → left ≡ v ∷ rest → Fails f (read (view v)) → Fails f whole
unfolding each
reads-fail v refusal.NoMemory s l e = tt
reads-fail v (refusal.Fault f) s l e = rw (sym s.same, l, e) refl

pub reads-end : {A B F : Type 0} {read : Data → Result A F} {made : List A → B} {whole : Result B F} {left : List Value} → Reads read made whole left → left ≡ [] → whole ≡ Ok (made [])
unfolding each
reads-end s l = rw (sym s.same, l) refl

-- texts behind others, with commas between them
pub tail : Bool → List (List ℕ) → List ℕ
tail later [] = []
tail later (t ∷ ts) = comma_if later ++ (t ++ tail true ts)

join-tail : (t : List ℕ) (ts : List (List ℕ)) → t ++ tail true ts ≡ join_with_byte 44 (t ∷ ts)
unfolding tail
join-tail t [] = append-nil t
join-tail t (u ∷ us) = ap (λ s. t ++ 44 ∷ s) (join-tail u us)

joined : (ts : List (List ℕ)) → [] ++ tail false ts ≡ join_with_byte 44 ts
unfolding tail
joined [] = refl
joined (t ∷ ts) = join-tail t ts

-- how far a list's items are joined
pub record Joins {F : Type 0} (read : Data → Result (List ℕ) F) (whole : Result (List ℕ) F) (text : List ℕ) (later : Bool) (left : List Value) : Type 0 where
  pub reads : Reads read (λ ts. text ++ tail later ts) whole left

pub joins-start : {F : Type 0} (read : Data → Result (List ℕ) F) (text : List ℕ) (vs : List Value) → text ≡ [] → Joins read (each read (items_view vs) >>= (λ ts. Ok (join_with_byte 44 ts))) text false vs
joins-start read text vs e = record { reads = record { same = rw e (made_same (λ ts. [] ++ tail false ts) (join_with_byte 44) joined (each read (items_view vs))) } }

text-on : (text part : List ℕ) (later : Bool) (ts : List (List ℕ)) → (text ++ (comma_if later ++ part)) ++ tail true ts ≡ text ++ tail later (part ∷ ts)
unfolding tail
text-on text part later ts = append_assoc text (comma_if later ++ part) (tail true ts) ∙ ap (λ s. text ++ s) (append_assoc (comma_if later) part (tail true ts))

pub joins-on : {F : Type 0} {read : Data → Result (List ℕ) F} {whole : Result (List ℕ) F} {text : List ℕ} {later : Bool} {left rest : List Value} (v : Value) (part new : List ℕ) → Joins read whole text later left → left ≡ v ∷ rest
    → read (view v) ≡ Ok part → new ≡ text ++ (comma_if later ++ part) → Joins read whole new true rest
joins-on {text = text} {later} v part new j l e n = record { reads = rw n (reads-on (λ ts. (text ++ (comma_if later ++ part)) ++ tail true ts) v part j.reads l e (text-on text part later)) }

pub joins-end : {F : Type 0} {read : Data → Result (List ℕ) F} {whole : Result (List ℕ) F} {text : List ℕ} {later : Bool} {left : List Value} → Joins read whole text later left → left ≡ [] → whole ≡ Ok text
unfolding tail
joins-end {text = text} j l = reads-end j.reads l ∙ ap (λ t. Ok t) (append-nil text)

-- how far rows are read: those that stand behind the rows so far are left
pub record Collects {A F : Type 0} (read : Data → Result A F) (whole : Result (List A) F) (rows : List A) (left : List Value) : Type 0 where
  pub reads : Reads read (λ xs. rows ++ xs) whole left

pub collects-start : {A F : Type 0} (read : Data → Result A F) (rows : List A) (vs : List Value) → rows ≡ [] → Collects read (each read (items_view vs)) rows vs
collects-start read rows vs e = record { reads = record { same = rw e (kept (each read (items_view vs))) } }

pub collects-on : {A F : Type 0} {read : Data → Result A F} {whole : Result (List A) F} {rows : List A} {left rest : List Value} (v : Value) (x : A) (new : List A) → Collects read whole rows left → left ≡ v ∷ rest → read (view v) ≡ Ok x
    → new ≡ rows ++ x ∷ [] → Collects read whole new rest
collects-on {rows = rows} v x new c l e n = record { reads = rw n (reads-on (λ xs. (rows ++ x ∷ []) ++ xs) v x c.reads l e (λ xs. append_assoc rows (x ∷ []) xs)) }

pub collects-end : {A F : Type 0} {read : Data → Result A F} {whole : Result (List A) F} {rows : List A} {left : List Value} → Collects read whole rows left → left ≡ [] → whole ≡ Ok rows
collects-end {rows = rows} c l = reads-end c.reads l ∙ ap (λ t. Ok t) (append-nil rows)
