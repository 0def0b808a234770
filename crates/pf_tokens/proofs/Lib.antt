-- How the proofs go: pf_tokens.
--
-- Forms that proved:
--
-- - **Continued lines.** The lexer walks the joined bytes with a list of places at which a pair was taken out; `letters_at
--   line at steps bytes` gives each byte the line `line + passed at steps`, where `passed` is a `prefix_len` (no
--   sortedness is needed), and the code passes steps lazily. One lemma (`Joining.letters_joined`) says that these are the
--   letters of the text as given; nothing above sees it.
-- - **Newlines as blanks in lists.** A count of the list's open braces in the parser, and `left = blanked count tokens`.
--   Two ghost facts on the struct (the count is within the depth; no newline is at hand while it is above 0) make `peek`
--   and `skip` close. The stream of tokens is a struct of its own below the parser, since a call on the whole parser would
--   want the ghost facts in mid-step.
-- - `skip` asks nothing: at the end it does nothing, and `drop 1 [] = []`. So no production needs a `requires`.
-- - Loops in the form 'with what is left it gives all' closed with no answer (`collect`: seven facts, one
--   answer).
-- - **The token at hand.** What ends a statement is a newline, no word and no symbol: so `begins` and `begins_symbol` ask
--   the token at hand and not whether the statement ends (`Skipping.begins_at_hand`). A word at the front of a source is
--   known by its first byte (`IsWordOn`, `Lexing.word_on`), so what comes next is most often told without cutting it.
-- - **Any judge.** `reading_from` takes the judge and the macros of a state as arguments; `Walking` is proved once in a
--   module over them.
-- - **List law.** `lists_as_spelled` goes one way by the step lemmas of the loop (`Going`), the other by a bound on steps
--   and an inversion (`ran_list`, `ran_comma`, `ran_close`, `ran_one`); the induction hypothesis is handed over as a fact
--   about the bound (`Runs element Is b`).
--
-- Traps: `open` is reserved; `n == 0` doesn't compute at `suc n` (match `zero`/`suc` instead); `None {A = ℕ}` isn't
-- written, turn the equation round; a module may not have the name of a function that lib.rt re-exports (`list`,
-- `definition`) nor, in proofs/, differ from a file of src/ in case alone; no `unfolding` inside a `where`; a `where`
-- can't call its own function: hand the call over; `rw` under a dependent proof: use `ap` along the side that varies;
-- `vec_len` to `length`: `omega (arith, v.ok.0)`; in a `requires` a by-value parameter with a reference is `token`, in an
-- `ensures` `token.entry`.
--
-- `lists_as_spelled`, `Parser::begin`, `fault`, `finish` and `Text::new` weren't tried (laws, handed-out borrows, or
-- bodies that only give up): the tests stand for the latter four.
pub mod Lexing
pub mod Joining
pub mod Flowing
pub mod Pulling
pub mod Indexing
pub mod Beginning
pub mod Blanking
pub mod Newlines
pub mod Skipping
pub mod Opening
pub mod Listing
pub mod Walking
pub mod Passing
pub mod Collecting
pub mod Fronts
pub mod ListsSpelled
pub mod MacroSpelling
pub mod Table
