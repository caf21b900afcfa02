-- The records of a text are its next record, and then those of what stands after it.
use Rattle.std.proofs.Common.{◌≡◌, ◌≤◌, ◌<◌, ◌+◌, ℕ, zero, suc, List, [], ◌∷◌, length, Bool, true, false, Option, Some}
use Rattle.std.proofs.Common.{None, refl, ap, arith, add-one, Bor}
use Rattle.csv.specs.Machine.{Read, next_record, ends_at_end, is_end, step, fields_after, field_after}
use Rattle.csv.specs.Reading.{NextIs, ReadRecord, ReadsNext, has_failed, pending_of, records_from, records_next}
use Rattle.csv.specs.Reading.{default_config, reader_state, source_of, strip_bom}
use Rattle.csv.specs.declared.parser.Config.{Config}
use Rattle.csv.specs.declared.parser.State.{State}
use Rattle.csv.specs.declared.parser.State.TheVariants as st
use Rattle.csv.specs.declared.reader.Reader.{Reader}
use Rattle.std.specs.Io.KnownBytes.{prepend_known}
use Rattle.std.specs.Prelude.{option_map, if◌then◌else◌, ◌&&◌, ◌==◌, not, take, drop}
use Rattle.csv_sets.specs.Left.{CanRead, GivesRecord, Reads, records_left, records_of_text}

-- the step from one byte of a text that goes on
shorter_at : (cfg : Config) (s : State) (f : List (List ℕ)) (p : List ℕ) (c d : ℕ) (rest : List ℕ) (q : Read) (b : Bool) → is_end (step cfg s c).1 ≡ b
    → next_record cfg s f p (c ∷ d ∷ rest) ≡ Some q
    → (next_record cfg (step cfg s c).0 (fields_after (step cfg s c).1 f p) (field_after (step cfg s c).1 c p) (d ∷ rest) ≡ Some q → length q.2 ≤ length rest)
    → length q.2 ≤ length (d ∷ rest)
unfolding next_record
shorter_at cfg s f p c d rest q true h e more = let i : d ∷ rest ≡ q.2 = cc (rw h at e) in rw (← i) (omega arith)
shorter_at cfg s f p c d rest q false h e more = let i = more (rw h at e) in omega (arith, i)

shorter_last : (cfg : Config) (s : State) (f : List (List ℕ)) (p : List ℕ) (c : ℕ) (q : Read) (b d : Bool) → is_end (step cfg s c).1 ≡ b → ends_at_end (step cfg s c).0 ≡ d
    → next_record cfg s f p (c ∷ []) ≡ Some q → length q.2 ≤ 0
unfolding next_record
shorter_last cfg s f p c q true d h k e = let i : [] ≡ q.2 = cc (rw h at e) in rw (← i) (omega arith)
shorter_last cfg s f p c q false true h k e = let i : [] ≡ q.2 = cc (rw (h, k) at e) in rw (← i) (omega arith)
shorter_last cfg s f p c q false false h k e = cc (rw (h, k) at e)

-- a record of a text that isn't empty takes a byte or more
pub next_record-shorter : (cfg : Config) (s : State) (f : List (List ℕ)) (p : List ℕ) (c : ℕ) (rest : List ℕ) (q : Read)
    → next_record cfg s f p (c ∷ rest) ≡ Some q → length q.2 ≤ length rest
next_record-shorter cfg s f p c [] q e = shorter_last cfg s f p c q (is_end (step cfg s c).1) (ends_at_end (step cfg s c).0) refl refl e
next_record-shorter cfg s f p c (d ∷ rest) q e = shorter_at cfg s f p c d rest q (is_end (step cfg s c).1) refl e
    (next_record-shorter cfg (step cfg s c).0 (fields_after (step cfg s c).1 f p) (field_after (step cfg s c).1 c p) d rest q)

-- no text, no record, from the start of one
at_end : (cfg : Config) (n : ℕ) → records_from cfg n st.StartRecord [] ≡ []
unfolding records_from next_record
at_end cfg zero = refl
at_end cfg (suc n) = refl

last_one : (cfg : Config) (n m : ℕ) (s : State) (b : Bool) → ends_at_end s ≡ b → records_from cfg (suc n) s [] ≡ records_from cfg (suc m) s []
unfolding records_from next_record
last_one cfg n m s true e = rw (e, at_end cfg n, at_end cfg m) refl
last_one cfg n m s false e = rw e refl

same_next : (cfg : Config) (n m : ℕ) (o : Option Read)
    → ((p : Read) → o ≡ Some p → records_from cfg n p.1 p.2 ≡ records_from cfg m p.1 p.2)
    → records_next (records_from cfg n) o ≡ records_next (records_from cfg m) o
same_next cfg n m None h = refl
same_next cfg n m (Some p) h = ap (λ (more : List (List (List ℕ))). p.0 ∷ more) (h p refl)

-- any number of turns above the length of the text will do
pub enough_turns : (cfg : Config) (n m : ℕ) (s : State) (xs : List ℕ) → length xs < n → length xs < m → records_from cfg n s xs ≡ records_from cfg m s xs
unfolding records_from
enough_turns cfg zero m s xs a b = absurd (omega arith)
enough_turns cfg (suc n) zero s xs a b = absurd (omega arith)
enough_turns cfg (suc n) (suc m) s [] a b = last_one cfg n m s (ends_at_end s) refl
enough_turns cfg (suc n) (suc m) s (c ∷ rest) a b =
    same_next cfg n m (next_record cfg s [] [] (c ∷ rest))
    (λ p e. let i = next_record-shorter cfg s [] [] c rest p e in enough_turns cfg n m p.1 p.2 (omega (arith, i)) (omega (arith, i)))

next_at_end : (s : State) (p : Read) (b : Bool) → ends_at_end s ≡ b → next_record default_config s [] [] [] ≡ Some p
    → records_from default_config 1 s [] ≡ p.0 ∷ records_from default_config (length p.2 + 1) p.1 p.2
unfolding records_from next_record
next_at_end s p true k e =
    let i : (([] ∷ []), st.StartRecord, []) ≡ p = cc (rw k at e) in
    rw (k, ← i) refl
next_at_end s p false k e = cc (rw k at e)

-- the records of a text are the next one and those of the text after it
pub records-next : (s : State) (xs : List ℕ) (p : Read) → next_record default_config s [] [] xs ≡ Some p
    → records_of_text s (Some xs) ≡ p.0 ∷ records_of_text p.1 (Some p.2)
unfolding records_from
records-next s [] p e = next_at_end s p (ends_at_end s) refl e
records-next s (c ∷ rest) p e =
    let i = next_record-shorter default_config s [] [] c rest p e in
    rw (add-one, e) (ap (λ (more : List (List (List ℕ))). p.0 ∷ more) (enough_turns default_config (suc (length rest)) (length p.2 + 1) p.1 p.2 (omega (arith, i)) (omega (arith, i))))

pub records-none : (s : State) (xs : List ℕ) → next_record default_config s [] [] xs ≡ None → records_of_text s (Some xs) ≡ []
unfolding records_from
records-none s xs e = rw (add-one, e) refl

-- what one read shows of the records left
read_step : (s s2 : State) (xs ys : List ℕ) (found : Bool) (fields : List (List ℕ)) (o : Option Read) → next_record default_config s [] [] xs ≡ o
    → NextIs o found fields s2 ys → GivesRecord (records_of_text s (Some xs)) found fields (records_of_text s2 (Some ys))
read_step s s2 xs ys true fields None e h = cc h
read_step s s2 xs ys false fields None e h = records-none s xs e
read_step s s2 xs ys true fields (Some p) e h = rw (h.1, h.2, h.3) (records-next s xs p e)
read_step s s2 xs ys false fields (Some p) e h = cc h.0

read_known : (s s2 : State) (old new : Option (List ℕ)) (found : Bool) (fields : List (List ℕ)) → (xs : List ℕ) → old ≡ Some xs
    → ReadsNext default_config s old new found fields s2 → GivesRecord (records_of_text s old) found fields (records_of_text s2 new)
read_known s s2 None new found fields xs e h = cc e
read_known s s2 (Some ys) None found fields xs e h = absurd h
read_known s s2 (Some ys) (Some zs) found fields xs e h = read_step s s2 ys zs found fields _ refl h

-- a slice's bytes are known
abbrev pub slice_bytes : Bor (List ℕ) → Option (List ℕ)
slice_bytes b = Some b.now

known : (a : Reader (Bor (List ℕ))) → has_failed a ≡ false → (xs : List ℕ) × (source_of slice_bytes a ≡ Some xs)
known a h = rw h (by (not a.bom_checked && (a.at == 0) && (a.filled == 0)))
  where
    by : (b : Bool) → (xs : List ℕ) × ((if b then option_map strip_bom (slice_bytes a.rdr) else prepend_known (drop a.at (take a.filled a.buffer)) (slice_bytes a.rdr)) ≡ Some xs)
    by true = (_, refl)
    by false = (_, refl)

-- a read of a reader that can read
pub gives : (a b : Reader (Bor (List ℕ))) (found : Bool) (fields : List (List ℕ)) (failed : Bool) → has_failed a ≡ failed
    → has_failed b ≡ has_failed a → (has_failed a ≡ true → found ≡ false) → CanRead a → (Reads a → ReadRecord slice_bytes a b found fields)
    → GivesRecord (records_left slice_bytes a) found fields (records_left slice_bytes b)
gives a b found fields true e goes stopped can r = rw (stopped e, e) refl
gives a b found fields false e goes stopped can r =
    let reads = can e in
    let step = r reads in
    let (xs, is) = known a e in
    let h = read_known (reader_state a) (reader_state b) (source_of slice_bytes a) (pending_of (slice_bytes b.rdr) b) found fields xs is (rw reads.config at step.0) in
    rw step.1 h
