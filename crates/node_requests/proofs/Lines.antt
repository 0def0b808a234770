-- Outcomes as lines.
use Rattle.std.proofs.Common.{◌≡◌, ℕ, Bool, true, false, ◌<◌, ◌≤◌, ◌+◌, List, ◌++◌, Option, Some, None, Result, Ok, Err, IsSome, refl, ap, ◌∙◌}
use Rattle.std.specs.Prelude.{◌↔◌, nat_lt, nat_le, option_map}
use Rattle.std.proofs.lemmas.Bool.{lt-ltb, le-leb}
use Rattle.px_model.specs.Node as node
use Rattle.px_model.specs.Node.{Log}
use Rattle.px_model.specs.Spelling.{Bytes, spelled}
use Rattle.pf_config.specs.Map.{Configuration}
use Rattle.pf_entry.specs.Entry as entries
use Rattle.pf_entry.specs.Reading.{reading}
use Rattle.pf_command.specs.Effect.{Effect, RefusedCommand, effect}
use Rattle.pf_scripts.specs.Ctl.{is_counted, change_line}
use Rattle.pf_node.specs.Applied.{after}
use Rattle.pf_node.specs.Outcomes.{outcome_of, outcome_read, outcome_in, outcome_at}
use Rattle.pf_node.specs.declared.outcomes.Outcome.{Outcome}
use Rattle.node_requests.specs.Outcomes.{line_read, line_in, line_at, kept_line}
use Rattle.node_requests.specs.inner.Outcomes.{outcome_line, counts_read, counts_in}

-- ---- whether counts are shown

pub counts_some : (e : Option (node.Entry Bytes)) (bytes : List ℕ) (counts : Bool) → Some bytes ≡ option_map spelled e →
    counts ≡ counts_read (reading bytes) → counts ≡ counts_in e
counts_some None bytes counts is value = cc
counts_some (Some e) bytes counts is value =
    let same : bytes ≡ spelled e = cc in value ∙ ap (λ (b : List ℕ). counts_read (reading b)) same

pub counts_none : (e : Option (node.Entry Bytes)) → None ≡ option_map spelled e → false ≡ counts_in e
counts_none None is = refl
counts_none (Some e) is = cc

-- ---- the line of an outcome

line_of_effect : (counts : Bool) (r : Result Effect RefusedCommand) → outcome_line counts (outcome_of r) ≡ change_line counts r
line_of_effect counts (Ok e) = refl
line_of_effect counts (Err refused) = refl

line_of_read : (c : Configuration) (e : Option entries.Entry) → outcome_line (counts_read e) (outcome_read c e) ≡ line_read c e
line_of_read c None = refl
line_of_read c (Some e) = line_of_effect (is_counted e.command) (effect c e.command)

line_of_in : (c : Option Configuration) (e : Option (node.Entry Bytes)) →
    outcome_line (counts_in e) (outcome_in c e) ≡ line_in c e
line_of_in None e = refl
line_of_in (Some c) None = refl
line_of_in (Some c) (Some e) = line_of_read c (reading (spelled e))

-- what is kept is shown
pub line_kept : (log : Log Bytes) (applied kept p : ℕ) (o : Outcome) (before new : List ℕ) →
    (IsSome (Some o) ↔ ((p < applied) × (applied ≤ p + kept))) → o ≡ outcome_at log p →
    new ≡ before ++ outcome_line (counts_in (log p)) o → new ≡ before ++ kept_line log applied kept p
line_kept log applied kept p o before new when value is =
    let both : (p < applied) × (applied ≤ p + kept) = when.0 refl in
    let a : nat_lt p applied ≡ true = lt-ltb p applied both.0 in
    let b : nat_le applied (p + kept) ≡ true = le-leb applied (p + kept) both.1 in
    let l : outcome_line (counts_in (log p)) o ≡ line_at log p =
    ap (outcome_line (counts_in (log p))) value ∙ line_of_in (after log p) (log p) in
    rw (a, b) (is ∙ ap (λ (x : List ℕ). before ++ x) l)
