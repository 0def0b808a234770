-- What a core answers is the answer of the member with its record.
use Rattle.std.proofs.Common.{◌≡◌, ◌∙◌, ℕ, sym, ap, subst}
use Rattle.std.specs.Prelude.{MatchResult, Result, Ok, Err, option_map}
use Rattle.px_model.specs.Node as node
use Rattle.px_model.specs.Node.Answer.{Planned}
use Rattle.px_model.specs.Fits.{Passes, InputFits}
use Rattle.px_model.specs.Spelling.{Bytes}
use Rattle.px_model.specs.Seen.{change_of, input_of, reads_of}
use Rattle.px_model.specs.declared.message.Event.{Event}
use Rattle.px_core.specs.declared.plan.Plan.{Plan}
use Rattle.px_core.specs.declared.plan.CoreFault.{CoreFault}
use Rattle.px_core.specs.declared.state.Core.{Core}
use Rattle.px_core.specs.Seen.{sends_of}
use Rattle.px_core.specs.Planning.{State, state_of, volatile_after, planned, step_with, IsRefusal}
use Rattle.px_core.specs.Fitting.{HandedFits}
use Rattle.px_core.proofs.Following.{answers_as_a_member}
use Rattle.px_wire.specs.Sent.{is_command}
use Rattle.px_replica.specs.Made.{answer, running}
use Rattle.px_replica.specs.inner.Seen.{IsSeen, SeenFits}
use Rattle.px_replica.specs.declared.look.Seen.{Seen}

input_for : (s : State) (n me : ℕ) (x : node.Input Bytes) → s.members ≡ n → s.me ≡ me →
    InputFits (Passes is_command) n me x → InputFits (Passes is_command) s.members s.me x
input_for s n me x members here fits =
    subst (λ (k : ℕ). InputFits (Passes is_command) k s.me x) (sym members)
    (subst (λ (k : ℕ). InputFits (Passes is_command) n k x) (sym here) fits)

-- what is read is handed to the core
pub handed : (s : State) (n me : ℕ) (seen : Seen) (event : Event) → s.members ≡ n → s.me ≡ me → SeenFits n seen →
    InputFits (Passes is_command) n me (input_of event) →
    HandedFits is_command s seen.meta seen.slot seen.top event
handed s n me seen event members here fits input =
    let seen_fits = subst (λ (k : ℕ). SeenFits k seen) (sym members) fits in
    record {
      meta = seen_fits.meta;
      here = seen_fits.here;
      top_within = fits.top_within;
      input = input_for s n me (input_of event) members here input;
    }

-- the core's plan, by its group
abbrev pub plan_in : (n me : ℕ) → Core → Plan → node.Plan Bytes
plan_in n me core plan = record {
  change = option_map change_of plan.change;
  volatile = volatile_after core plan;
  sends = sends_of n me plan.sends;
}

same_plan : (core : Core) (n me : ℕ) (plan : Plan) → (state_of core).members ≡ n → (state_of core).me ≡ me →
    planned core plan ≡ plan_in n me core plan
same_plan core n me plan members here =
    ap (λ (k : ℕ). plan_in k (state_of core).me core plan) members ∙ ap (λ (k : ℕ). plan_in n k core plan) here

same_answer : (s : State) (n me : ℕ) (d : node.Record Bytes) (seen : Seen) (event : Event) → s.members ≡ n → s.me ≡ me →
    d.learned ≡ s.learned → IsSeen d (reads_of (input_of event)) seen →
    step_with s seen.meta seen.slot seen.top event ≡ answer n me (running d s.volatile) (input_of event)
same_answer s n me d seen event members here agree is =
    answers_as_a_member s d seen.meta seen.slot seen.top event
    (record { learned = sym agree; meta = is.meta; read = is.read })
    ∙ ap (λ (k : ℕ). answer k s.me (running d s.volatile) (input_of event)) members
    ∙ ap (λ (k : ℕ). answer n k (running d s.volatile) (input_of event)) here

-- the core answers as the member with its record
pub answered : (s : State) (n me : ℕ) (core : Core) (d : node.Record Bytes) (seen : Seen) (event : Event) →
    s.members ≡ n → s.me ≡ me → state_of core ≡ s → (r : Result Plan CoreFault) →
    MatchResult r
    (λ plan. step_with s seen.meta seen.slot seen.top event ≡ Planned (planned core plan))
    (λ fault. IsRefusal fault (step_with s seen.meta seen.slot seen.top event)) →
    d.learned ≡ s.learned → IsSeen d (reads_of (input_of event)) seen →
    MatchResult r
    (λ plan. answer n me (running d s.volatile) (input_of event) ≡ Planned (plan_in n me core plan))
    (λ fault. IsRefusal fault (answer n me (running d s.volatile) (input_of event)))
answered s n me core d seen event members here same (Ok plan) h agree is =
    sym (same_answer s n me d seen event members here agree is) ∙ h
    ∙ ap Planned (same_plan core n me plan (ap (λ (t : State). t.members) same ∙ members)
    (ap (λ (t : State). t.me) same ∙ here))
answered s n me core d seen event members here same (Err fault) h agree is =
    subst (λ (a : node.Answer Bytes). IsRefusal fault a) (same_answer s n me d seen event members here agree is) h
