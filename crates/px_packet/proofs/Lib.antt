-- How the proofs go: Packets (px_packet, cli_files).
--
-- - Parts and unfinished datagrams are types with a `Model` each, so that a receiver is a list of records of lists, and
--   each function's clause is one equation with the definition; of 26 functions of px_packet that do the work three have
--   an answer.
-- - **What came before a call, as a list that the caller has**: `Window::accept` and `Peer::take` ensure for each list of
--   counters (`Remembers`), or start and counters (`IsKnown`), that the state may be of, what is answered and of which
--   list the state is then. `new` ensures it of the empty list, so the list is that of the calls.
-- - The premise on a sender is a list too: the datagrams that it cut, each named by its place (`IsPieceOf`). It can be met:
--   `cut_is_piece`, `named_once`, `log_grows`.
-- - A definition with ten tests in a row: a record with a field for each test's value (`Reads`), one lemma from it to the
--   answer and one back (`skip`, `stop`); the reader's answer then names each test once.
-- - A header's bytes compute to a list of 37 elements, so what is read of them is read by `refl` and std's
--   `from_be_bytes-to_be_bytes_4`; the other way each field is `four`, `eight` or `one` byte in front of the rest.
-- - A text that is read is written again and compared: that what is read was written so has then no proof, and the lemmas
--   are of the other way alone.
-- - Traps: two records that agree in each field are joined by `ap` over a function of the fields (`made`); a record
--   literal under `if` needs a definition of its own (`new_start`); a `where` can't call the clause that it is of; `yes`
--   is a constructor; a file of proofs/ may not differ from a module of src/ in case alone.
mod Filling
mod Grouping
mod Apart
mod Sealing
mod Headers
mod Opening
mod Windows
mod Arrivals
mod PiecesApart
mod Bits
mod Bounded
mod PieceBytes
mod Complete
mod Joining
mod Reassembled
mod Reporting
mod Sending
