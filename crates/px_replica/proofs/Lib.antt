-- How the proofs go: Members over wires, and the law over nodes (px_replica to cli_node, pfx_laws).
--
-- Forms that proved:
--
-- - **The law over any records** (pfx_laws): what may happen is data of three kinds (`Calls`, `Stops`, `Opens`), when
--   it may is stated by the very definitions of the contracts (`Makes`, `LeavesOne`), and the cluster's state then is a
--   function; so a history is a list, and following it is one induction. What comes is an action of the world by cases
--   on the input; a datagram's message is the one that was sent, since no two messages have one spelling
--   (`Messages.one_message`).
-- - That a law speaks of nodes over records of two kinds: `fn law<R: Records, Q: Records>() ensures { Law R.Records
--   Q.Records }`, with `Law : {R Q : Type 0} → Ghosts R → Ghosts Q → Type 0`; a law that ranges over types itself would
--   be of Type 1, which no clause may be.
-- - **A call in one clause** (px_replica's `Call`, node_loop's `Turned` and `Served`): a record of which each field is what
--   one answer means, the step made, a refusal, a failure, a stop; search takes it apart, and a caller names the field.
--   `Called` in px_replica's proofs takes calls from one form to another.
-- - **From turns to the law**: what turns make is a trace of one member (`Traced`), one trace after the other
--   (node_loop's `Runs`). That members' traces, in whatever order, are a history is one induction over the events, in
--   which a member's next event is the first of its trace (`Tracing.own`), and the others keep their states
--   (`Tracing.on`).
-- - **The datagrams on a wire** are proved together with the trace, not after it: node_loop's `Led` has both, so that one
--   lemma puts one trace behind another (`led_then`), and each list has its own (`Traffic.grows_then`, `brings_then`,
--   `sent_then`). What a wire gave is a relation of two lists by recursion on the datagrams (`Brings`); the laws above
--   need only that each message has its datagram (`AreBrought`).
-- - **A trace with a control socket** (node_control's `Ran`): a node works (`Led`), or it failed in a request and does
--   nothing more (`Broken`, `Lost`); each step of a run is one of four cases.
-- - **The network's order** (pfx_laws's `Carrying`): each datagram that wires were handed is one that nodes sent
--   (`Holds`), kept event by event; each member's trace is cut where its parts are (`traced_front`, `live_on`).
-- - What was learned stays learned over a run as what was sent does (`Agreeing.run_learned`, px_model's
--   `States.run_sent`).
-- - **One turn**: `hear` lends `&mut Vec` to a function of its own, or the goal has `take n (new ++ drop ..)`; the
--   front of the room is chosen in a function (`came`), since a slice chosen by `match` behind a `&mut` loan isn't
--   covered.
-- - A relation by recursion on a literal count is `unfoldable`, or goals unroll it. A line made by `push_str` closes where
--   one by `format!` stays open.
-- - **A lab's outcomes**: `Reports` states of each result what it means in the world, `told` of `step` has it for every
--   world that the lab is; `model_events` is stated by the same `event_of` and `is_long`.
--
-- - **Trials** are generic over `R: Records`, `S: Alter`, `D: Disk`, and few functions name the concrete type. A call
--   whose contract has many clauses is wrapped in a helper that has none. All of a crate of trials is under
--   `cfg(test)`. A type and a function whose names differ only in case are refused, which `rt try` doesn't report. A
--   generic function that lets `R: Records` go needs `R: Records + Drop`.
-- - A lemma about px_model's world alone is checked in seconds in a copy of px_model, before the crates above are built.
-- - **Scripts of labs**: a line is read by one function for each form, over slices, and its contract is `Reads view result
--   value` for a value or the number of a refusal; it closed without an answer, and so did the strings of messages, each
--   part a function. The loops need a measure alone, a log's lines an invariant. A number that doesn't fit is the one
--   lemma (`number_past`), by std's `parse_digits`.
--
-- An edit of pf_lab would cost its whole proof. Two of its mutants are ruled out by rows: a ruleset that is
-- taken under a stop by `stops_of_an_ask` (`refused 40`, and the node runs on), a node shown with its round for its front
-- by `a_stop_after_the_round` (`round 2 front 1`).
pub mod Sending
pub mod Groups
pub mod Spellings
pub mod Planned
pub mod Copied
pub mod Steps
pub mod BadRows
pub mod Heard
pub mod Called
pub mod Messages
