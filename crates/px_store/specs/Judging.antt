-- Which stores are refused, and with what: first the format is asked for, then rows that no node writes, then the
-- owner.
use Rattle.std.specs.Prelude.{◌≡◌, ℕ, ◌^◌, Bool, true, false, ◌&&◌, ◌||◌, List, [], ◌∷◌, Option, Some}
use Rattle.std.specs.Prelude.{None, Result, Ok, Err}
use Rattle.std.specs.Prelude.{nat_eq, nat_le, nat_lt, not, if◌then◌else◌}
use Rattle.sqlite_value.specs.Order.{Row, column}
use Rattle.sqlite.specs.Tree.{Trees}
use Rattle.px_store.specs.Seen.{is_number, number_in, is_key, is_ballot, seen, meta_columns, floor_columns}
use Rattle.px_store.specs.Formats.{trees_at, number_of}
use Rattle.px_store.specs.declared.formats.Format.{Format}
use Rattle.px_store.specs.declared.formats.Format.TheVariants.{Three}
use Rattle.px_store.specs.declared.calls.Identity.{Identity}
use Rattle.px_store.specs.declared.fault.AdoptFault.{AdoptFault}
use Rattle.px_store.specs.declared.fault.AdoptFault.TheVariants.{StoreVersion, BadStore, WrongNode}

-- there is a row
abbrev pub has_rows : List Row → Bool
has_rows [] = false
has_rows (r ∷ rows) = true

-- ---- the row for the whole node: id, format, cluster, members, node, round, number

-- the row has this format
abbrev pub has_format : ℕ → Row → Bool
has_format format r = is_number (column r 1) && nat_eq (number_in (column r 1)) format

-- a cluster of 1 to 15 members, and one of them
abbrev pub is_member_of : (cluster members node : ℕ) → Bool
is_member_of cluster members node =
    nat_le cluster 4294967295 && (nat_le 1 members && (nat_le members 15 && nat_lt node members))

-- the row has a cluster of 1 to 15 members and one of them
abbrev pub names_member : Row → Bool
names_member r = is_number (column r 2) && (is_number (column r 3) && (is_number (column r 4) &&
    is_member_of (number_in (column r 2)) (number_in (column r 3)) (number_in (column r 4))))

-- a round and a number that a node may reach
abbrev pub has_numbers : Row → Bool
has_numbers r = is_number (column r 5) && (is_number (column r 6) &&
    (nat_lt (number_in (column r 5)) (2 ^ 48) && nat_le (number_in (column r 6)) (2 ^ 48)))

-- the node that opens is this one, of this cluster with that many members
abbrev pub is_owner : Identity → (cluster members node : ℕ) → Bool
is_owner i cluster members node =
    nat_eq cluster i.cluster && (nat_eq members i.members && nat_eq node i.node)

-- the row is of the node that opens
abbrev pub has_owner : Identity → Row → Bool
has_owner i r = is_owner i (number_in (column r 2)) (number_in (column r 3)) (number_in (column r 4))

-- the member that a row names
abbrev pub identity_in : Row → Identity
identity_in r =
    record { cluster = number_in (column r 2); members = number_in (column r 3); node = number_in (column r 4) }

-- ---- the floor: id, ballot

-- no row, or one with the ballot of a member
abbrev pub are_floor_rows : (members : ℕ) → List Row → Bool
are_floor_rows members [] = true
are_floor_rows members (r ∷ []) =
    is_key 1 (column r 0) && (is_number (column r 1) && is_ballot members (number_in (column r 1)))
are_floor_rows members (r ∷ x ∷ more) = false

-- ---- the refusal

-- with one row for the whole node: 73 for another format, else 72 for a bad row or floor, else 71 for another owner
abbrev pub row_refusal : (format : ℕ) → Identity → (floor : List Row) → Row → Option AdoptFault
row_refusal format i floor r =
    if not (has_format format r) then Some StoreVersion
    else (if not (names_member r && has_numbers r && are_floor_rows (number_in (column r 3)) floor) then Some BadStore
    else (if has_owner i r then None else Some WrongNode))

-- A store without the row for the whole node has nothing else either.
abbrev pub refusal_of : (format : ℕ) → Identity → (meta floor : List Row) → (has_more : Bool) →
    Option AdoptFault
refusal_of format i [] floor has_more = if has_rows floor || has_more then Some BadStore else None
refusal_of format i (r ∷ []) floor has_more = row_refusal format i floor r
refusal_of format i (r ∷ x ∷ more) floor has_more = Some BadStore

-- what a node is answered about these rows of a store with the tables of a format
abbrev pub refusal : Format → Identity → Trees → Option AdoptFault
refusal f i db = refusal_of (number_of f) i (seen meta_columns (db 0) 1) (seen floor_columns (trees_at f db 2) 1)
    (has_rows (db 1) || has_rows (trees_at f db 3))

-- what it is answered about them where the store isn't new: without the row for the whole node it has lost its promises
abbrev pub reopen_refusal : Format → Identity → Trees → Option AdoptFault
reopen_refusal f i db = if has_rows (seen meta_columns (db 0) 1) then refusal f i db else Some BadStore

-- ---- whose a store is

-- by the rows for the whole node: 73 where the only one has another format, 72 where it is bad, or where there isn't
-- exactly one
-- Example: 1 3 7 3 1 0 0 is node 1 of the 3 members of cluster 7 in format 3; of 1 3 7 3 3 0 0 comes 72. In format 2 73
-- comes of both.
abbrev pub owner_in_rows : (format : ℕ) → (meta : List Row) → Result Identity AdoptFault
owner_in_rows format [] = Err BadStore
owner_in_rows format (r ∷ []) =
    if not (has_format format r) then Err StoreVersion
    else (if names_member r && has_numbers r then Ok (identity_in r) else Err BadStore)
owner_in_rows format (r ∷ x ∷ more) = Err BadStore

-- whose a store with the tables of a format is, by its rows
abbrev pub owner_in : Format → Trees → Result Identity AdoptFault
owner_in f db = owner_in_rows (number_of f) (seen meta_columns (db 0) 1)

-- the rows of a store of format 3 that is this node's
pub record IsOwn (i : Identity) (db : Trees) : Type 0 where
  pub row : has_rows (seen meta_columns (db 0) 1) ≡ true
  pub adopted : refusal Three i db ≡ None
