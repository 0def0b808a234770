-- How the proofs go: The record (px_records, px_store).
--
-- ---- Forms
--
-- - The trait's terms are separate ghosts (`is_honest`, `stored`, `members`, `may_leave`, `failed`, `may_fail`,
--   `is_good`); each reading call has the one clause `IsRead`. A law, `settled`, is behind the functions, or it is
--   taken for a value.
-- - A record of functions by position is equal by `fun_ext`, one part at a time (`Maps.log_put`, `Kept.whole`), so that a
--   commit's `Ok` is one equation.
-- - The keeper in memory keeps `RecordFits` of its whole record as a ghost field. That it is a fact (`Props.antt`) is a
--   record of such facts, field by field: `λ i. record { round = le_prop x.round y.round i; .. }`; `specs/` may cite
--   std's lemmas, but no tactic.
-- - What is put leaves the rows beside its key as one list (`Puts.others`, over `without_rowid`): rows under another key
--   follow (`others_at`), and so does what speaks of all rows, as that the last one is good (`Good.last_stays`).
-- - What is put is a `NewRow`, what is asked a `Question` and what is made a `NewTable`: one function runs the statements
--   of each (`run`, `ask`, `make_table`), and one record states what a call makes of a connection (`Wrote`, `Looked`,
--   `Grows`). What is particular to a statement is in lemmas by cases (`NewRows`, `Questions`, `Makes`).
-- - A text's meaning is a literal in `Texts.antt`, by `refl` with `unfolding understood everything`, of a question
--   in each format. One lemma on `INSERT OR REPLACE .. VALUES` serves all six changes (`Puts.replaced`).
-- - The proofs speak of `Stored`, one record of what a connection shows (`view_of`), and not of the struct; the trait's
--   clauses follow from it.
-- - The methods are in files by what they do (`looking.rt`, `writing.rt`, `sql.rt`, `taking.rt`), the struct alone in
--   `keeper.rt`: a definition in `specs/` that names a struct can't be cited by the file that declares it.
-- - A store is read whole, judged by a function over what was read, and then brought up. With a join of two branches
--   before a call the search fails; so cut, most goals need no answer, that a refused store is as it was among them.
-- - The format is a parameter: clauses speak of `schema_at f`, `trees_at f` and `has_table`, so one body (`bring_at`)
--   serves all, and two lemmas state what a table shows that a format has, and what one that it lacks
--   (`Adopts.with_table`, `without_table`).
-- - `SELECT .. ORDER BY position DESC LIMIT 1` has one proof for any filter (`Tops.antt`).
-- - Rows that are read ahead (`Turns.antt`): the code tests that their keys rise, so no order of the answer is needed. The
--   clauses of `Ahead` speak of any table (`IsAhead`), and a ghost field of the keeper names the store's.
-- - **What a stop leaves while a store is taken**: `LeavesOr`, what was left before, or a store of format 3, whole
--   (`IsMade`, `IsBrought`), whose rows are `AreBrought`; `Adopts.whole_from` makes the record of an older format's rows
--   of it, and the clauses of `adopt` are over both answers by `connection_after`.
-- - **A value of a library that has no test of equality** (`tables.rt`: a schema): one small function a part, each with
--   `IsTrue result ↔ (part.now ≡ ..)`, closed without an answer. The fields of a type with a `Model` (`Terms`) are read as
--   they stand, and its value follows. Of the result `Option<Format>` two clauses, `is` and `all`, serve callers better
--   than one equivalence.
-- - **`FaultyRecords`**: a method of an impl that has clauses of its own repeats all of its trait's, in the terms of the
--   impl, those of every call that reads as one record (`ReadsBelow`); then each closes by itself.
-- - A program over `FileStore<File>` is dear, some 2 GB and minutes for each function that names it: give the work to
--   functions over `R: Records` and `S: Alter`, and name the store in the one that opens it (rows_stores).
-- - A loop that commits keeps `g.R.Records.members l.records ≡ 3` as its invariant, and nothing else.
--
-- ---- Traps
--
-- - `rt fmt` joins a clause that is broken right behind its `{`, and keeps breaks further in.
-- - A parameter bound in a call (`params![1u32]`) is given by the caller's own clause over the text's name, as in `ask`;
--   handed on through a helper that takes any text it doesn't compute.
-- - A fact of the matched error comes by its `field-0-is`: a clause `result ≡ Err Memory` isn't met by `refl` in the arm
--   `Err(Trouble::Memory)`, but by `let e = c.in-Err-Memory.field-0-is in cc`.
-- - Four columns by `&&` met the limit of the search, where seven of another table closed: with the last two in a
--   function of their own (`are_proposal_columns`) no answer is needed.
-- - `ok_or` of an `Option` over which a clause quantifies (`format_at`) isn't read off: a `match` is.
-- - `yes` and `no` are constructors; a `where` takes no `abbrev` and no `unfolding`, and can't call the function that it
--   is in.
-- - Searching goals that stay open is what costs: a crate of a minute took two with six of them.
--
-- That 72 goes before 71 is the clause `judged` of `adopt` (`refusal` asks in this order).
mod Texts
mod Rows
mod Puts
mod Above
mod Gets
mod Kept
mod Tops
mod Turns
mod Questions
mod Stored
mod NewRows
mod Promises
mod Spelled
mod Ends
mod Highest
mod Good
mod Makes
mod Adopts
pub mod Judged
mod Owned
mod Nodes
