-- A statement that only reads, and what reading makes.
use Rattle.std.specs.Prelude.{◌≡◌, ℕ, List, [], IfOk, Result, Err, Vec}
use Rattle.std.specs.declared.alloc.Global.{Global}
use Rattle.sqlite_value.specs.Order.{Row}
use Rattle.sqlite.specs.Tree.{Trees}
use Rattle.sqlite.specs.declared.error.Error.{Error}
use Rattle.sqlite.specs.Held.{Held, state}
use Rattle.sqlite.specs.State.{State, FailsToQuery}
use Rattle.sqlite_trees.specs.declared.store.Store as store
use Rattle.px_store.specs.inner.Tables.{get_slot, get_floor, get_learned, get_span, get_top}
use Rattle.px_store.specs.inner.Tables.{get_end, get_last, key_params, span_params}
use Rattle.px_store.specs.Seen.{seen, meta_columns, slot_columns, floor_columns, learned_columns}
use Rattle.px_store.specs.Seen.{has_ballot, any_row}
use Rattle.px_store.specs.inner.Seen.{IsLast}
use Rattle.px_store.specs.inner.Effect.{IsAlike, IsStill}
use Rattle.px_store.specs.Adopting.{LeavesOld, get_meta}
use Rattle.px_store.specs.inner.Ahead.{AreAlike}
use Rattle.px_store.specs.declared.calls.Question.{Question}
use Rattle.px_store.specs.declared.calls.Question.TheVariants.{Meta, Floor, Slot, Learned, Span, Top, End, LastSlot}
use Rattle.px_store.specs.declared.calls.Trouble.{Trouble}
use Rattle.px_store.specs.declared.calls.Trouble.TheVariants.{Memory}

-- the statement
abbrev pub asked_by : Question → List ℕ
asked_by Meta = get_meta
asked_by Floor = get_floor
asked_by (Slot p) = get_slot
asked_by (Learned p) = get_learned
asked_by (Span first end) = get_span
asked_by Top = get_top
asked_by End = get_end
asked_by LastSlot = get_last

-- what the statement is given
abbrev pub given_with : Question → Row
given_with Meta = key_params 1
given_with Floor = key_params 1
given_with (Slot p) = key_params p
given_with (Learned p) = key_params p
given_with (Span first end) = span_params first end
given_with Top = []
given_with End = []
given_with LastSlot = []

-- its table
abbrev pub table_of : Question → ℕ
table_of Meta = 0
table_of Floor = 2
table_of (Slot p) = 1
table_of (Learned p) = 3
table_of (Span first end) = 3
table_of Top = 1
table_of End = 3
table_of LastSlot = 1

-- these rows answer it: those of a key or of several, or the key of the last that passes
abbrev pub Answers : Question → Trees → List Row → Type 0
Answers Meta db rows = IsAlike (seen meta_columns (db 0) 1) rows
Answers Floor db rows = IsAlike (seen floor_columns (db 2) 1) rows
Answers (Slot p) db rows = IsAlike (seen slot_columns (db 1) p) rows
Answers (Learned p) db rows = IsAlike (seen learned_columns (db 3) p) rows
Answers (Span first end) db rows = AreAlike first end (db 3) rows
Answers Top db rows = IsLast has_ballot (db 1) rows
Answers End db rows = IsLast any_row (db 3) rows
Answers LastSlot db rows = IsLast any_row (db 1) rows

-- the database doesn't answer it
abbrev pub IsUnanswered : {S : Type 0} → (g : store.Ghosts S) → Question → Held S → Type 0
IsUnanswered {S} g q given =
    (came : Held S) × ((e : Error) × FailsToQuery (asked_by q) (given_with q) (state g given) (state g came) e)

-- What reading makes of a connection: after Ok the rows answer it and nothing differs; when out of memory nothing
-- differs; and a stop leaves what it left before.
pub record Looked (q : Question) (answer : Result (Vec Row Global) Trouble) (old new : State) : Type 0 where
  pub ok : IfOk answer (λ rows. Answers q old.now.trees rows.items × IsStill old new)
  pub memory : answer ≡ Err Memory → IsStill old new
  pub stop : LeavesOld old new
