-- How the proofs go: pf_rules, pf_tables, pf_eval, cli_io, pf_tool.
--
-- ---- Forms
--
-- - What is asked before a list is gone over (`begins_with_digit`, `ends_like_reserved`): every word of the list passes
--   the test, by computation; equal strings pass alike; so a string that doesn't pass is none of them (`Digits`, `Reserved`).
-- - Words with numbers: a `const` table of pairs in the code, a list of pairs in the definition, one loop over a slice
--   with the invariant "the name is looked for in the rows that are left". A `match` on byte strings leaves its goals open
--   from about six arms on.
-- - A table of structs with strings: a clause can name a constant that is a number, a string, or a list of these, and of pairs
--   (whose strings then have another type than a reference's has); of a list of structs it can't. So the table is an
--   argument, and contracts hold for any.
-- - Packets in text form: the definition recurs on the bytes with the word which has begun; the code cuts slices. `words_from (take
--   (i - start) (drop start text)) (drop i text)` is the invariant, and `put_word` keeps the loop's branch free of joins.
-- - A reader of words: one method a production over `left`, `Reads result (left new) (production (left old))`, each with
--   `unfolding` of its own definition and no proof file. `let Some(x) = .. else { return Err(..) }` where memory may run
--   out too.
-- - The verdict in two walks (`specs/inner/TwoWalks.antt`): what either walk gives is said over rules, anchors and
--   depth, as the code goes; `Deciding` joins it to the hits. `Agrees stop other hs` says that the first walk is the first
--   stop and that, where there is none, the second is the last hit. It is kept by `++` (the first from the front, the
--   second from the back), by `stop_last` (then the first is both, and the second none), by filter rules, wildcards and
--   depth. The condition is needed: the second walk passes over quick anchor rules, which is right only where nothing
--   stopped.
-- - Rules are `first_rule f i rules` and `last_rule f i rules` for any `f` of a place and a rule, and what an anchor rule
--   evaluates is an argument (`Target → Option Spot`); so rules alone (`verdict_flat`) and the tree share all lemmas.
-- - The walks hold the anchor that they are in and go down from it (`Anchor::below`), so that an anchor rule costs each
--   walk one look-up. `IsAnchorOf c t` says that it is the configuration's; `Anchors` keeps it on each step.
-- - A loop from the back: invariant `last_rule f left (map rule_of (drop left items)) ≡ None`; its turns close with no
--   answer, and the return of a find wants one (`rule_back`, `kid_back`). Of a `&[Rc<Anchor>]` the element is rewritten by
--   `c.deref.ensures`. Both walks are one cycle, with the walk as an argument, by `11 * depth + rank`.
-- - The walks go over candidates (`Anchor::stops`, `Anchor::others`, the second from the last rule on), each an index and
--   a sieve. `Candidates` says that this gives the same as the walk over all rules: those left out, and those that a sieve refuses,
--   yield nothing (`IsQuiet`). A sieve has one lemma a field (`Sieves`).
-- - An interval is a first number and a width, asked by `wrapping_sub`, one compare: what is open needs no fact on the
--   packet's numbers. A definition's numbers have no bound, so keys and first numbers are `min n 4294967295` there; the
--   code's `u32` is that by itself.
-- - **Compiled intervals** (pf_tables): what is proved is one way alone, that a bit is set wherever an interval holds
--   the number. So buckets may be any cut of the numbers, bounds needn't even rise, and an interval that goes round past
--   the greatest number is no case of its own (`meets`: the bucket's first number is in the interval, or the interval's
--   first one in the bucket). `Column::row` halves with the invariant that the bucket's bound is at most the number and
--   the next one's is past it. `Row::next` is exact over rows of any length: std's `bit_at-trailing_zeros` and masks, in
--   `proofs/Words`. How bounds are chosen has no clause: it is a matter of time alone.
-- - A search that passes over candidates (`next_passing`): what stands between two places is refused by a sieve, so the rest
--   of the list gives the same from either place; the walk's contract is that over the whole list.
-- - `run`: the clause cites `fault_of` and `subcommand_of` of `clap`'s own specs, so it speaks of the words. Facts about
--   `clap`'s command are taken over to the program's by lemmas over a variable command and an equation (`subst`); a `rw`
--   there computes too long.
-- - Output is a value (`Written`) with `behind`; the loop's invariant is `behind (so far) (what is left gives) ≡ what
--   all gives`.
--
-- ---- Traps
--
-- - A parameter named `ruleset` has to be written `«ruleset»` in a clause; a module and a function of one name are
--   refused (`running.rt` has `run`).
-- - A field that is a slice of slices can't be assigned from `split_first`: read by a pattern, then `*self = Cursor { left
--   }` from `split_at`.
-- - A definition that another crate's proofs unfold through lists of codes (`FSRPAUEW`) is better `unfoldable`.
pub mod Digits
pub mod SkippedPackets
pub mod Words
pub mod Groups
pub mod Deciding
pub mod Walks
pub mod Sieves
pub mod Candidates
pub mod Searching
pub mod Anchors
pub mod Spaces
pub mod PacketSpelled
