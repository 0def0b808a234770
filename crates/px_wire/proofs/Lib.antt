-- How the proofs go: Entries and datagrams (pf_entry, px_wire).
--
-- Forms that proved:
--
-- - Entries: the spelling is the definition, a reader by `>>=` its inverse (`specs/Reading`); `many_at item n` is generic,
--   so names and addresses share every lemma about loops. Lent lists (`Names`, `Addresses`) are a count and bytes with a
--   ghost field that they are spelled, and iterators by `YieldsFirstBy`.
-- - Datagrams: a table of fields for each kind, with absolute offsets; `first_fault` walks it. The code reads
--   `u64_at(bytes, 13)`, each reader states `ReadsField`, `ReadsEntry` or `ReadsBody` of its fields and its value, and
--   closes by itself with `unfolding(fault_of)`.
-- - Borrowed values (`Lent`, `lent_in`): one function (`reading::entry_in`) joins pf_entry's reading with px_model's
--   view of the same bytes, by `Lending.read_lends`; all above sees an `Option Lent`.
-- - No proper front: a reader by `>>=` from left to right (`Fronts`), `read (body x ++ more) ≡ Some (x, more)` by kind,
--   and the law is ten lines. The header computes: `ap (drop 10)` of both sides leaves from, to, kind and body. So do `ap
--   (drop 29)` for an entry's bytes (`Members.lent_are_bytes`) and `slice_set (spelling ..) 11 to` (`Addressed`).
-- - A head: what reads a number at a place answers an `Option` (`u64_in`), and the readers with faults use it. What
--   `Head::read` answers is written by `>>=` in specs/inner (`head_in`), and closes by itself; that it is the message's
--   head is one lemma by kind over `IsReadAt` (`Heads.head_again`), for bytes that only begin with the datagram.
-- - The log's messages: `message_of x ≡ as_sent (come_of x)` by `refl` for each kind but an Ask, which no member sends.
--
-- Traps:
--
-- - `nat_le 10 (length bytes)` doesn't compute for a list of ten and more whose end is a variable: `le-leb` with `omega
--   arith`, then `rw`.
-- - There is no type ascription: an `abbrev` for the record that `ap`'s λ builds.
-- - Import a definition's `Message` apart from the code's `Message<E>`: in a file that uses both, `specs::Message as
--   datagrams`.
-- - `++` binds looser than `∷`, and to the left: write `out ++ (a ++ b)`. Writers of several parts end with `?; Ok(())`.
-- - A test that calls what has a `requires` names each crate whose definitions the clause cites in crates.txt, else the
--   goal is out of reach.
--
-- Mutants, each refused at a goal of the function that was changed:
--
-- | Edit | Refused at |
-- |---|---|
-- | px_wire: `bytes_after_the_message` | `end_at` |
-- | `from_and_to_changed_round` | `put_header` |
-- | `ballot_of_round_0` | `is_ballot` |
-- | `position_of_1000000` | `position_at` |
-- | `origin_that_is_no_member` | `members_entry_at` |
-- | `offset_of_a_later_field` | `sender_at` |
-- | pf_entry: `host_bits_not_cleared` | `address_at` |
-- | `a_sign_of_2` | `sign_at` |
-- | `a_name_below_an_unnamed_block` | `is_name` |
-- | `bytes_after_the_entry` | `entry_in` |
--
-- `encode_sent` and the laws have no body of their own to turn, and weren't tried.
pub mod Lengths
pub mod Joined
pub mod Slices
pub mod Lending
pub mod Bodies
pub mod Datagrams
pub mod Again
pub mod Fronts
pub mod Commands
pub mod Sent
pub mod Addressed
pub mod Members
pub mod Heads
