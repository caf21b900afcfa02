-- What a text reads as fits its field.
use Rattle.std.proofs.Common.{◌≡◌, ℕ, ◌&&◌, cond, not, List, [], ◌∷◌, length, Bool, true, false, Option, Some, None}
use Rattle.std.proofs.Common.{Result, Ok, Err, IfOk, IfSome, refl, nat_le, nat_lt, bytes_eq, nat_eq}
use Rattle.std.proofs.lemmas.Bool.{and_from, and_parts}
use Rattle.std.specs.List.{list_all, list_any, position_or_len, before_first, after_first}
use Rattle.roster_texts.specs.declared.fault.ValueFault.{ValueFault}
use Rattle.roster_texts.specs.declared.fault.ValueFault.TheVariants as fault
use Rattle.roster_values.specs.declared.value.Value.{Value}
use Rattle.roster_values.specs.declared.value.Value.TheVariants as value
use Rattle.roster_base.specs.Reading.{◌>>=◌}
use Rattle.roster_texts.specs.Results.{found_or}
use Rattle.roster_values.specs.CellText.{has_short_year}
use Rattle.roster_values.specs.Fit.{fits, fits_form, fits_parts, has_items, is_good, is_item, is_plain_text}
use Rattle.roster_values.specs.Fit.{is_user_id_of}
use Rattle.roster_values.specs.Lists.{id_of, ids_of, is_colon, is_filled, items_of, read_all, user_id_in, user_id_of}
use Rattle.roster_values.specs.Lists.{user_ids_of}
use Rattle.roster_texts.specs.Moments.{is_moment, moment_of, written_day_of}
use Rattle.roster_texts.specs.Numbers.{flag_of, number_of, year_of}
use Rattle.roster_values.specs.Shape.{has_shape, shape_of}
use Rattle.roster_values.specs.Table.{Form, Info, TextForm, IdForm, DayForm, MomentForm, NumberForm, YearForm, FlagForm}
use Rattle.roster_values.specs.Table.{WordForm, TextsForm, UserIdsForm, RefForm, RefsForm}
use Rattle.roster_texts.specs.Texts.{has_plain_ends, is_id}
use Rattle.roster_values.proofs.ItemLaws.{items_good}
use Rattle.roster_values.proofs.TrimLaws.{trimmed_plain}
use Rattle.roster_texts.specs.Trim.{trimmed}
use Rattle.roster_values.specs.UserIds.{inner, is_braced, is_user_id, user_id_from}
use Rattle.roster_values.specs.Values.{blank_of, form_value, many, one, value_of, word_of}
use Rattle.roster_texts.proofs.RangeLaws.{moment_good, number_good, written_day_good, year_good}
use Rattle.roster_texts.specs.Days.{is_day}

blank_fits : (form : Form) (required : Bool) → IfOk (blank_of required) (λ o. fits_parts form required o ≡ true)
blank_fits form true = tt
blank_fits form false = refl

one_fits : {A : Type 0} (form : Form) (required : Bool) (variant : A → Value) (r : Result A ValueFault) → IfOk r (λ x. fits_form form (variant x) ≡ true)
    → IfOk (one variant r) (λ o. fits_parts form required o ≡ true)
one_fits form required variant (Ok x) h = h
one_fits form required variant (Err e) h = tt

many_fits : {A : Type 0} (form : Form) (required : Bool) (variant : List A → Value) (r : Result (List A) ValueFault) → IfOk r (λ xs. has_items xs ≡ true → fits_form form (variant xs) ≡ true)
    → IfOk (many required variant r) (λ o. fits_parts form required o ≡ true)
many_fits form required variant (Ok []) h = blank_fits form required
many_fits form required variant (Ok (x ∷ xs)) h = h refl
many_fits form required variant (Err e) h = tt

always : {A : Type 0} (P : A → Type 0) (r : Result A ValueFault) → ((x : A) → P x) → IfOk r P
always P (Ok x) h = h x
always P (Err e) h = tt

id_cases : (t : List ℕ) (long good : Bool) → is_id t ≡ good → IfOk (cond long (Err fault.TooLong) (cond good (Ok t) (Err fault.BadId))) (λ x. is_id x ≡ true)
id_cases t true good e = tt
id_cases t false true e = e
id_cases t false false e = tt

id_good : (t : List ℕ) → IfOk (id_of t) (λ x. is_id x ≡ true)
unfolding id_of
id_good t = id_cases t (nat_lt 255 (length t)) (is_id t) refl

cons_good : {A : Type 0} (p : A → Bool) (r : Result A ValueFault) (s : Result (List A) ValueFault) → IfOk r (λ x. p x ≡ true) → IfOk s (λ xs. list_all p xs ≡ true)
    → IfOk (r >>= (λ x. s >>= (λ xs. Ok (x ∷ xs)))) (λ xs. list_all p xs ≡ true)
cons_good p (Ok x) (Ok xs) h k = rw h k
cons_good p (Ok x) (Err e) h k = tt
cons_good p (Err e) s h k = tt

read_all_good : {A : Type 0} (p : A → Bool) (read : List ℕ → Result A ValueFault) → ((t : List ℕ) → IfOk (read t) (λ x. p x ≡ true)) → (ts : List (List ℕ)) → IfOk (read_all read ts) (λ xs. list_all p xs ≡ true)
unfolding read_all
read_all_good p read good [] = refl
read_all_good p read good (t ∷ ts) = cons_good p (read t) (read_all read ts) (good t) (read_all_good p read good ts)

listed_good : {A : Type 0} (p : A → Bool) (r : Result (List A) ValueFault) → IfOk r (λ xs. list_all p xs ≡ true) → IfOk r (λ xs. has_items xs ≡ true → (has_items xs && list_all p xs) ≡ true)
listed_good p (Ok xs) h = λ k. and_from (has_items xs) (list_all p xs) k h
listed_good p (Err e) h = tt

pair_cases : (form identifier : List ℕ) (good : Bool) → is_user_id form identifier ≡ good
    → IfOk (found_or fault.BadList (cond good (Some (record { form = form; identifier = identifier })) None)) (λ u. is_user_id_of u ≡ true)
pair_cases form identifier true e = e
pair_cases form identifier false e = tt

pair_good : (form identifier : List ℕ) → IfOk (found_or fault.BadList (user_id_from form identifier)) (λ u. is_user_id_of u ≡ true)
unfolding user_id_from
pair_good form identifier = pair_cases form identifier (is_user_id form identifier) refl

if_good : {A : Type 0} (P : A → Type 0) (r : Result A ValueFault) (e : ValueFault) (test : Bool) → IfOk r P → IfOk (cond test r (Err e)) P
if_good P r e true h = h
if_good P r e false h = tt

user_id_good : (t : List ℕ) → IfOk (user_id_of t) (λ u. is_user_id_of u ≡ true)
unfolding user_id_of user_id_in
user_id_good t =
    if_good (λ u. is_user_id_of u ≡ true) _ fault.BadList (is_braced t)
    (if_good (λ u. is_user_id_of u ≡ true) _ fault.BadList (nat_lt (position_or_len is_colon (inner t)) (length (inner t)))
    (pair_good (trimmed (before_first is_colon (inner t))) (trimmed (after_first is_colon (inner t)))))

word_cases : (words : List (List ℕ)) (t : List ℕ) (r : Bool) → is_plain_text t ≡ true → list_any (λ word. bytes_eq word t) words ≡ r
    → IfOk (cond r (Ok t) (Err fault.NotInList)) (λ w. (is_plain_text w && list_any (λ word. bytes_eq word w) words) ≡ true)
word_cases words t true plain e = and_from (is_plain_text t) (list_any (λ word. bytes_eq word t) words) plain e
word_cases words t false plain e = tt

word_good : (words : List (List ℕ)) (t : List ℕ) → is_plain_text t ≡ true → IfOk (word_of words t) (λ w. (is_plain_text w && list_any (λ word. bytes_eq word w) words) ≡ true)
unfolding word_of
word_good words t plain = word_cases words t (list_any (λ word. bytes_eq word t) words) plain refl

found_good : {A : Type 0} (P : A → Type 0) (e : ValueFault) (o : Option A) → IfSome o P → IfOk (found_or e o) P
found_good P e (Some x) h = h
found_good P e None h = tt

form_fits : (form : Form) (required : Bool) (t : List ℕ) → is_plain_text t ≡ true → IfOk (form_value form required t) (λ o. fits_parts form required o ≡ true)
unfolding form_value ids_of user_ids_of
form_fits TextForm required t h = h
form_fits IdForm required t h = one_fits IdForm required (λ x. value.Id x) (id_of t) (id_good t)
form_fits DayForm required t h = one_fits DayForm required (λ x. value.Day x) (found_or fault.BadDay (written_day_of t)) (found_good (λ z. is_day z ≡ true) fault.BadDay (written_day_of t) (written_day_good t))
form_fits MomentForm required t h = one_fits MomentForm required (λ x. value.Moment x) (found_or fault.BadMoment (moment_of t)) (found_good (λ z. is_moment z ≡ true) fault.BadMoment (moment_of t) (moment_good t))
form_fits NumberForm required t h = one_fits NumberForm required (λ x. value.Number x) (number_of t) (number_good t)
form_fits YearForm required t h = one_fits YearForm required (λ x. value.Year x) (year_of t) (year_good t)
form_fits FlagForm required t h = one_fits FlagForm required (λ x. value.Flag x) (flag_of t) (always _ _ (λ x. refl))
form_fits (WordForm words) required t h = one_fits (WordForm words) required (λ x. value.Word x) (word_of words t) (word_good words t h)
form_fits TextsForm required t h = many_fits TextsForm required (λ x. value.Texts x) (Ok (items_of t)) (listed_good is_item (Ok (items_of t)) (items_good t))
form_fits UserIdsForm required t h =
    many_fits UserIdsForm required (λ x. value.UserIds x) (read_all user_id_of (items_of t)) (listed_good is_user_id_of _ (read_all_good is_user_id_of user_id_of user_id_good (items_of t)))
form_fits (RefForm kind) required t h = one_fits (RefForm kind) required (λ x. value.Ref x) (id_of t) (id_good t)
form_fits (RefsForm kind) required t h = many_fits (RefsForm kind) required (λ x. value.Refs x) (read_all id_of (items_of t)) (listed_good is_id _ (read_all_good is_id id_of id_good (items_of t)))

value_cases : (form : Form) (required : Bool) (t : List ℕ) (r : Bool) → is_filled (trimmed t) ≡ not r
    → IfOk (cond r (blank_of required) (form_value form required (trimmed t))) (λ o. fits_parts form required o ≡ true)
value_cases form required t true e = blank_fits form required
value_cases form required t false e = form_fits form required (trimmed t) (and_from (is_filled (trimmed t)) (has_plain_ends (trimmed t)) e (trimmed_plain t e))

pub value_fits : (info : Info) (t : List ℕ) → IfOk (value_of info t) (λ o. fits info o ≡ true)
unfolding value_of
value_fits info t = value_cases info.form info.required t (nat_eq (length (trimmed t)) 0) refl

year_fits : (form : Form) (y : ℕ) → has_shape (shape_of form) (value.Year y) ≡ true → is_good form (value.Year y) ≡ true → nat_le y 9999 ≡ true
year_fits YearForm y shape good = good
year_fits _ y shape good = cc

-- a value that fits a field is no long year
pub short_year : (form : Form) (v : Value) → fits_form form v ≡ true → has_short_year v ≡ true
short_year form (value.Year y) fits = let parts = and_parts (has_shape (shape_of form) (value.Year y)) (is_good form (value.Year y)) fits in year_fits form y parts.0 parts.1
short_year form _ fits = refl
