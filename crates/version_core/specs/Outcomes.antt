-- The outcomes of gradebook writes, by their numbers: a row is stored, a check refuses the write, or a row is deleted.
-- The checks stand in their order. Marks keep each outcome but that of the first check.
use Rattle.std.specs.Prelude.{ℕ}

-- the row was put
abbrev pub stored_outcome : ℕ
stored_outcome = 0

-- the mark is another write's
abbrev pub mark_taken_outcome : ℕ
mark_taken_outcome = 1

-- the body that is put tells of no row
abbrev pub bad_body_outcome : ℕ
bad_body_outcome = 2

-- the object that is to be deleted doesn't stand, or isn't seen
abbrev pub no_such_object_outcome : ℕ
no_such_object_outcome = 3

-- the row belongs to another
abbrev pub owned_by_another_outcome : ℕ
owned_by_another_outcome = 4

-- the row refers to an object that the caller doesn't see
abbrev pub outside_grant_outcome : ℕ
outside_grant_outcome = 5

-- the row refers to an object of the wrong type
abbrev pub wrong_type_outcome : ℕ
wrong_type_outcome = 6

-- the kind has as many rows as it may have
abbrev pub too_many_rows_outcome : ℕ
too_many_rows_outcome = 7

-- no version may follow the newest
abbrev pub last_version_outcome : ℕ
last_version_outcome = 8

-- the row was deleted; no outcome has a greater number
abbrev pub deleted_outcome : ℕ
deleted_outcome = 9
