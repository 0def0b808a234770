-- the members that the arguments name, else those of the file
use Rattle.std.proofs.Common.{◌∙◌, List, ℕ, inl, inr, map, refl}
use Rattle.std.specs.Prelude.{codes}
use Rattle.clap.specs.Words.{found_of, rows_of}
use Rattle.clap.proofs.WalkLemmas.{raw_values-rows}
use Rattle.cli_node.specs.Doing.{Adds}
use Rattle.cli_node.specs.Settled.{IsSettled}
use Rattle.cli_node.proofs.Settled.{given_first, none_added, none_given}
use Rattle.cli_node.proofs.settings.outcome_with.Goals as goal

pub returns-in-Some : goal.returns-in-Some
returns-in-Some g c = inr (given_first (λ s. map (λ v. v.now) s.now)
    (λ (ms : List (List ℕ)). IsSettled (Adds (g.N.Nodes.did c.args.nodes.now) (g.N.Nodes.did c.outcome_for.new.nodes))
    (rows_of (found_of c.args.matches.now)) c.args.file.now ms c.outcome_for.result) c.get_strs.result c.in-Some.members
    _ _ c.in-Some.is (c.get_strs.ensures ∙ raw_values-rows (found_of c.args.matches.now) (codes "member"))
    c.outcome_for.ensures)

pub returns-in-Ok : goal.returns-in-Ok
returns-in-Ok g c = inr (none_given (λ s. map (λ v. v.now) s.now)
    (λ (ms : List (List ℕ)). IsSettled (Adds (g.N.Nodes.did c.args.nodes.now)
    (g.N.Nodes.did c.outcome_for-in-Ok.new.nodes)) (rows_of (found_of c.args.matches.now)) c.args.file.now ms
    c.outcome_for-in-Ok.result) c.get_strs.result _ _ c.in-None.is
    (c.get_strs.ensures ∙ raw_values-rows (found_of c.args.matches.now) (codes "member"))
    (rw (c.as_slice.ensures.value, c.in-Ok.ensures) at c.outcome_for-in-Ok.ensures))

pub returns-in-Err : goal.returns-in-Err
returns-in-Err g c = inl (none_added (g.N.Nodes.did c.args.nodes.now), refl)
