-- How the proofs go: Rulesets of nftables (nft_rules).
--
-- `rendered_as_judged` is proved over the definitions, by the two walks of pf_eval (`TwoWalks`), each of which has chains
-- of its own. Conditions are lists of alternatives of which one has to hold (`specs/Alternatives`), each a list of
-- matches.
--
-- | File of `proofs/` | What it shows |
-- |---|---|
-- | `Choices` | which alternatives hold: one of two lists joined exactly if one of each |
-- | `Matched` | some alternative of a rule's conditions holds exactly if all of the conditions do |
-- | `Cutting`, `Widths` | the intervals of a table's set hold an address exactly if the table does |
-- | `FoundSets` | the set of a table is found by its name |
-- | `Named` | the machine's interfaces that some names mean |
-- | `Targeted` | the chains to which an anchor rule leads |
-- | `Depths` | anchor rules nest less than 10 deep, so nothing depends on how deep jumps may nest from there on |
-- | `Running` | the rendered ruleset decides what the two walks give |
-- | `Guarded` | the guard's rules accept exactly the members' packets, by the families of a packet's ends; so at a hook with the guard in front a ruleset that decides as judged decides so of every other packet (`decides_behind`) |
-- | `Refused` | what is refused by 87 and by 88 |
pub mod Cutting
pub mod Choices
pub mod FoundSets
pub mod Named
pub mod Matched
pub mod Running
pub mod Widths
pub mod Depths
pub mod Targeted
pub mod Spanning
pub mod Refused
pub mod Guarded
