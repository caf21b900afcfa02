-- Items as a finite map for each area.
use Rattle.std.specs.Prelude.{ℕ, Bool, not, ◌&&◌, ◌==◌, if◌then◌else◌, List}
use Rattle.std.specs.Ordering.{nat_cmp, is_lt, is_ge}
use Rattle.std.specs.Cmp.Lexicographic.{slice_cmp}
use Rattle.std.specs.declared.cmp.Ordering.{Ordering}
use Rattle.std.specs.FinMap.{FinMap, insert, empty, retain_keys, entries}

-- the order of label bytes
abbrev pub bytes_cmp : List ℕ → List ℕ → Ordering
bytes_cmp = slice_cmp nat_cmp

-- from labels to bodies, in each area
abbrev pub Items : Type 0
Items = ℕ → FinMap bytes_cmp (List ℕ)

-- each area is empty
abbrev pub no_items : Items
no_items area = empty

-- a label is at least `from` and below `to`
abbrev pub is_between : List ℕ → List ℕ → List ℕ → Bool
is_between from to label = is_ge (bytes_cmp label from) && is_lt (bytes_cmp label to)

-- the items of the area whose label is at least `from` and below `to`, in the order of labels, each with its body
abbrev pub listed : ℕ → List ℕ → List ℕ → Items → List (List ℕ × List ℕ)
listed area from to m = entries (retain_keys (m area) (is_between from to))

-- the items without those of the area whose label is at least `from` and below `to`
abbrev pub cleared : ℕ → List ℕ → List ℕ → Items → Items
cleared area from to m = λ a. if a == area then retain_keys (m a) (λ label. not (is_between from to label)) else m a

-- the items with this body at its place, whether or not one stood there
abbrev pub put : ℕ → List ℕ → List ℕ → Items → Items
put area label body m = λ a. if a == area then insert (m a) label body else m a
