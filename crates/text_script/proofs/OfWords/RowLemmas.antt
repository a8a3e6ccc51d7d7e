-- The rows of a parse: what a use of an option adds, and what is read of it.
use Rattle.std.proofs.Common.{◌≡◌, Bool, true, false, List, [], ◌∷◌, ◌++◌, Some, None, refl, ap}
use Rattle.std.specs.Prelude.{option_and_then, bytes_eq, find, slice_get, if◌then◌else◌, ◌||◌}
use Rattle.clap.specs.Walk.{Row, Text, at_row, first_of, has_row}

at_row-next : (here : Bool) (id : Text) (change : Row → List Row) (missing : List Row) (r : Row) (rs : List Row) → (has_row id rs ≡ false → at_row id change missing rs ≡ rs ++ missing)
    → (here || has_row id rs) ≡ false → (if here then change r ++ rs else r ∷ at_row id change missing rs) ≡ r ∷ (rs ++ missing)
at_row-next true id change missing r rs rest h = cc
at_row-next false id change missing r rs rest h = ap (λ (xs : List Row). r ∷ xs) (rest h)

-- a row that isn't there is added at the end
pub at_row-missing : (id : Text) (change : Row → List Row) (missing rows : List Row) → has_row id rows ≡ false → at_row id change missing rows ≡ rows ++ missing
at_row-missing id change missing [] h = refl
at_row-missing id change missing (r ∷ rs) h = at_row-next (bytes_eq r.id id) id change missing r rs (at_row-missing id change missing rs) h

first_of-next : (here : Bool) (id : Text) (r : Row) (rs : List Row) → (has_row id rs ≡ false → first_of id rs ≡ None) → (here || has_row id rs) ≡ false
    → option_and_then (λ (x : Row). slice_get x.values 0) (if here then Some r else find (λ x. bytes_eq x.id id) rs) ≡ None
first_of-next true id r rs rest h = cc
first_of-next false id r rs rest h = rest h

-- nothing is read of a row that isn't there
pub first_of-missing : (id : Text) (rows : List Row) → has_row id rows ≡ false → first_of id rows ≡ None
first_of-missing id [] h = refl
first_of-missing id (r ∷ rs) h = first_of-next (bytes_eq r.id id) id r rs (first_of-missing id rs) h

first_of-after : (here : Bool) (id : Text) (r row : Row) (rs : List Row) → (has_row id rs ≡ false → first_of id (rs ++ row ∷ []) ≡ first_of id (row ∷ []))
    → (here || has_row id rs) ≡ false
    → option_and_then (λ (x : Row). slice_get x.values 0) (if here then Some r else find (λ x. bytes_eq x.id id) (rs ++ row ∷ [])) ≡ first_of id (row ∷ [])
first_of-after true id r row rs rest h = cc
first_of-after false id r row rs rest h = rest h

-- what a row at the end adds, where there was none of its name
pub first_of-added : (id : Text) (rows : List Row) (row : Row) → has_row id rows ≡ false → first_of id (rows ++ row ∷ []) ≡ first_of id (row ∷ [])
first_of-added id [] row h = refl
first_of-added id (r ∷ rs) row h = first_of-after (bytes_eq r.id id) id r row rs (first_of-added id rs row) h

first_of-beside : (here : Bool) (id : Text) (r row : Row) (rs : List Row) → first_of id (rs ++ row ∷ []) ≡ first_of id rs
    → option_and_then (λ (x : Row). slice_get x.values 0) (if here then Some r else find (λ x. bytes_eq x.id id) (rs ++ row ∷ []))
    ≡ option_and_then (λ (x : Row). slice_get x.values 0) (if here then Some r else find (λ x. bytes_eq x.id id) rs)
first_of-beside true id r row rs rest = refl
first_of-beside false id r row rs rest = rest

first_of-alone : (here : Bool) (id : Text) (row : Row) → here ≡ false
    → option_and_then (λ (x : Row). slice_get x.values 0) (if here then Some row else find (λ x. bytes_eq x.id id) []) ≡ None
first_of-alone true id row e = cc
first_of-alone false id row e = refl

-- a row of another name changes nothing that is read
pub first_of-other : (id : Text) (rows : List Row) (row : Row) → bytes_eq row.id id ≡ false → first_of id (rows ++ row ∷ []) ≡ first_of id rows
first_of-other id [] row other = first_of-alone (bytes_eq row.id id) id row other
first_of-other id (r ∷ rs) row other = first_of-beside (bytes_eq r.id id) id r row rs (first_of-other id rs row other)

has_row-alone : (here : Bool) → here ≡ false → (here || false) ≡ false
has_row-alone true e = e
has_row-alone false e = refl

has_row-beside : (here a b : Bool) → a ≡ b → (here || a) ≡ (here || b)
has_row-beside here a b e = ap (λ (x : Bool). here || x) e

pub has_row-other : (id : Text) (rows : List Row) (row : Row) → bytes_eq row.id id ≡ false → has_row id (rows ++ row ∷ []) ≡ has_row id rows
has_row-other id [] row other = has_row-alone (bytes_eq row.id id) other
has_row-other id (r ∷ rs) row other = has_row-beside (bytes_eq r.id id) _ _ (has_row-other id rs row other)
