-- The limits of a heap's numbers.
use Rattle.std.specs.Prelude.{ℕ, not, nat_le, Option, Some, None, if◌then◌else◌}
use Rattle.model_core.specs.declared.state.Sizes.{Sizes}
use Rattle.model_core.specs.Domains.{sizes_of, class_count, first_outside as outside_sizes}
use Rattle.heap_rule.specs.declared.config.Config.{Config}

-- the sizes that the definition of a legal history takes
abbrev pub sizes_in : Config → Sizes
sizes_in k = sizes_of k.domains k.pools k.minor_words class_count

-- the most registrations, or ephemerons, that a domain may have room for
abbrev pub most_room : ℕ
most_room = 200000

-- the first of the two rooms outside its limit
abbrev pub outside_rooms : Config → Option ℕ
outside_rooms k =
    if not (nat_le k.finals most_room) then Some 4
    else (if not (nat_le k.ephes most_room) then Some 5
    else None)

-- the first of two
abbrev pub first_of : Option ℕ → Option ℕ → Option ℕ
first_of (Some n) o = Some n
first_of None o = o

-- the first field outside its limit, counted from 1
abbrev pub first_outside : Config → Option ℕ
first_outside k = first_of (outside_sizes (sizes_in k)) (outside_rooms k)
