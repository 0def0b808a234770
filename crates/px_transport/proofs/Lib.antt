-- How the proofs go.
--
-- - **What memory is refused for is an argument** of the definition (`Memory`), so what a receiver does is an equation all
--   the same; a call's clause gives the argument for which it holds, and the laws range over it at each packet.
-- - What is heard of members is a list that the caller has (`Hears`): of `Peer` a relation alone is known, so an entry
--   has no `Model`. `entry_at` reads the list where the code reads its `Vec`, `hears_set` writes both.
-- - What holds of each member goes through a run by `set_each`, for members by all numbers: one that isn't there was
--   never heard.
-- - Laws of the crates below come by calling their laws: the call's clause is the lemma.
-- - What is given of one member's packets is some of what px_packet accepts of them (`Sub`), and it is that crate's law
--   that none of these comes twice.
pub mod Following
pub mod Traffic
pub mod Layers
mod Bodies
mod Entries
mod Members
mod Handed
mod Once
mod Last
mod Bounds
mod Sending
mod Duties
mod Arriving
mod Counters
mod Stepping
mod Carrying
