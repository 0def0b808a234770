-- How the proofs go: A member in code (px_core, and the plain types of px_model).
--
-- Forms that proved:
--
-- - What entries stand for (`entry_of`, `view_of`) is `unfoldable`, and entries are read by getters with exact contracts:
--   no goal above px_model sees a field. What a core stands for is `state_of`, `unfoldable` too, one record of four
--   fields, so `plan` and `settle` have one equation each; the core's own code uses `state_in`, `volatile_in` and
--   `log_in`, which unfold.
-- - Each case of the step is a function of its own with `unfolding` of its definition, and answers a `Plan` for any log
--   and volatile part (`plan_of n me log v plan ≡ on_prepare ..`) where it reads none of them, else for the core (`made
--   self.now plan ≡ ..`). A plan is made by `Plan::new`, whose contract is one equation, so `room` is
--   answered only where a callee's clause speaks of any core.
-- - `plan_event` makes the plan, and `plan` states of its answer what can be spelled: one lemma by cases on the answer
--   (`answer_fits`), with one return to prove.
-- - `settle` hands the `Next` to `take_over`, whose clauses are two definitions by cases (`settled`, `learning`); 'nothing
--   below the front changes' and 'the front doesn't fall' are lemmas about `learning`, by the same cases. Over the joined
--   branches of one long function the search gave up.
-- - The ring of votes: cells carry their position, the ghost field states that each is below `front + 64`, and
--   `kept_in` defines what they stand for. A front that moves is `kept_advanced`, a vote `kept_set`, a cleared ring
--   `kept_none`.
-- - A ghost field `front (learned_in learned.items) ≡ votes.front`: the front costs no walk.
-- - `IsFor`, `IsKept`, `IsOpen` and `CoreFits` are records: search takes them apart.
-- - That out of memory is answered only where the step isn't refused (`IsPlanned`) closed without an answer.
--
-- Traps:
--
-- - A file of `proofs/` may not have the name of a type that lib.rt hands out (`Learner`), of a module of `src/`, or
--   differ from one in case alone: hence `Spelled`, `Following`, `bounds.rt`.
-- - A struct with a ghost field whose definition names the struct is in a file of its own, its methods elsewhere
--   (`entry.rt`, `state.rt`, `votes.rt`).
-- - A method's proof folder goes by the module of its type: `proofs/votes/Votes/keep` for an `impl Votes` in `voting.rt`.
-- - An entry's number: a function of its own over `<[u8; 8]>::try_from` closes; the same inside `EntryView::read` doesn't.
-- - Two borrows chosen by a `match` aren't covered by the borrow checker: choose in a function.
-- - The parts of `a × b × c` in antt are `.0`, `.1` and `.2`.
-- - A constant in place of a literal changes the names of goals (`position-eq1000000` became `position-eq-POSITIONS`).
pub mod Kept
pub mod Counted
pub mod Front
pub mod Waiting
pub mod Following
pub mod Spelled
