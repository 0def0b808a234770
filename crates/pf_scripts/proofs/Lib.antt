-- How the proofs go: Commands, words and scripts (pf_command, pf_arguments, pf_scripts).
--
-- Forms that proved:
--
-- - Counts from sizes: what adding, deleting and emptying count is the difference of `entry_count` before and after, and
--   asks for no memory. `Counting` says that with entries put in nothing goes and just the difference comes, and with
--   entries taken out the other way round: it counts with an arbitrary test (`put_count`), so no order is needed. What
--   replacing counts is known before the change. One lemma (`Contents.set_holds`) says that what is put at a path is there,
--   by look-ups that go past what is before it (`find_past`). No order of the map is needed.
-- - `Applies` follows from `Changes` by cases on the answer (`refused_applies`), once for any function that keeps
--   refusals.
-- - `clap`: a private function for each kind of option, one that adds an option, and two of four options each; all eight
--   in one function gave up. The rows of matches: `value_in` by `first_value-rows`, `addresses_in` by `raw_values-rows`,
--   and then the struct of what was given closes by itself.
-- - A list read whole with the lowest fault: `behind` (values so far, lowest fault so far, what the rest gives), by
--   cases of three faults.
-- - `strip_prefix("!")` has the simpler clause than `strip_prefix('!')`.
-- - Scripts: the definition goes line by line with what waits as an argument; the loop carries `out ++ printed_from config
--   waiting (lines left)`.
-- - Lists in order: the definition puts one element after the other in its place, the code sorts. Two lists in order are
--   one where they hold the same, which both do: lines, each once (`SortedLines`), by whether a line is in the list, which
--   `dedup` and a permutation keep; entries (`SortedEntries`) by the entries that tie with one, which a stable sort keeps
--   and of which a table has one at most.
--
-- Traps: a struct and a function whose names differ in case only (`Applied`, `applied`) are refused; a module may not have
-- the name of a function that lib.rt hands out (`apply`, `ctl`); an empty slice as one arm of a `match` inside a struct
-- isn't covered: choose in a function; `Vec` and `String` have their allocator as a last argument in antt; a function in a
-- `where` can't use one behind it.
pub mod LinesCut
pub mod SortedEntries
pub mod SortedLines
pub mod Listed
pub mod Acted
pub mod Rows
