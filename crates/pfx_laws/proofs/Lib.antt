-- How the proofs go: Laws over several crates (pfx_laws).
--
-- | File of `proofs/` | What it shows |
-- |---|---|
-- | `Depths` | a target is deeper than its rule, so `hits` of one level less is the same from nine on; by the same induction any answer to the equation is `hits` |
-- | `Changed` | each change keeps entries in order, none empty, and few: what is before and behind a path, with what was found at it, is no more than there was |
-- | `Readings` | targets of a ruleset have 1 to 8 names; `Room` of pf_grammar has the rest; the path of a block is a path of names |
-- | `Logs` | the effect of each command by these, and a log by induction |
-- | `Braces` | the tokens of each production lead back to the depth at which they began (`Level`); so a block's items nest no deeper than its braces |
-- | `Again` | a shown rule has no fault: its tokens are clean, its braces are low (`item_low`), its length is asked; then as `RoundTrip` of pf_grammar, whose invariant it has with one field more |
-- | `Lifting` | an order of what goes over a lower layer of all members is one of what goes over the layer above it: socket, packets, own datagrams, wire; starts of runs are on each of them |
-- | `Networking` | a member's runs are acts, each at most one event at its wire: so the events in order are stretches; at a start what is left of the run before, a stop and an opening |
-- | `Fronts` | every prefix of a run is a run, whose trace is a prefix of that of the whole run; so a run that is killed is one, between two moves or in a call |
-- | `Looping`, `Socketing`, `Sealing` | a layer each: what goes over it is carried, if what goes over the layer below is |
-- | `Keeping` | what a member has as learned in the end of a run it has in the end of each later one |
-- | `Numbering` | with a key, runs get numbers as they start, for the law of px_transport; no two of a member have one start |
--
-- - `Level` is a record: as an `abbrev` of a function its argument isn't found from the goal (`_` stays unsolved).
-- - Newlines within a list change nothing of depths (`blank_low`), so that a list's tokens needn't be compared with those
--   that `blanked` leaves.
-- - `rw` with a fact that is twice in the goal rewrites both; `both_from` states which.
pub mod Depths
pub mod Changed
pub mod Braces
pub mod Readings
pub mod Again
pub mod Logs
pub mod Labels
pub mod Backwards
pub mod Alone
pub mod Following
pub mod Agreeing
pub mod Tracing
pub mod Carrying
pub mod Carried
pub mod Stretching
pub mod Worked
pub mod Fronts
pub mod Members
pub mod Keeping
pub mod Networking
pub mod Lifting
pub mod Looping
pub mod Socketing
pub mod Numbering
pub mod Sealing
