-- Members that have applied equally many positions have one configuration.
use Rattle.std.proofs.Common.{◌≡◌, ◌∙◌, ℕ, ◌≤◌, List, [], Some, ap, sym, subst}
use Rattle.std.proofs.lemmas.List.{append-nil}
use Rattle.px_model.specs.Node.{IsEquality, Log}
use Rattle.px_model.specs.World.{World, NodeState, Event}
use Rattle.px_model.specs.Law.{learned_of, world_after}
use Rattle.px_model.specs.Spelling.{Bytes}
use Rattle.px_model.proofs.Reading.{bytes_equality}
use Rattle.px_model.proofs.Runs.{always_agree, always_once, always_kept}
use Rattle.px_model.proofs.States.{always_same_state}
use Rattle.pf_config.specs.Map.{Configuration}
use Rattle.pf_command.specs.Effect.{empty}
use Rattle.pf_eval.specs.Verdicts.{judgement}
use Rattle.px_replica.specs.Made.{same}
use Rattle.pf_node.specs.Applied.{entry_applied, after}
use Rattle.pf_node.specs.Nodes.{applied_of, config_of}
use Rattle.pf_lab.specs.Labs.{state_of}
use Rattle.pf_lab.specs.Same.{LabsAgree, EquallyApplied}
use Rattle.pf_lab.specs.declared.host.Host.{Host}

same_exact : IsEquality same
same_exact = bytes_equality

pub labs_agree : LabsAgree
labs_agree n some few events lab world =
    (always_agree same same_exact n few events, always_once same same_exact n few events, always_kept same same_exact n few events)

-- a member's configuration is that of what it learned in the world
configured : (w : World Bytes) (m : ℕ) (x : Host) → w.nodes m ≡ state_of x →
    after (learned_of w m) (applied_of x.node) ≡ Some (config_of x.node)
configured w m x here =
    ap (λ (z : NodeState Bytes). after z.stored.learned (applied_of x.node)) here
    ∙ ap (λ (l : Log Bytes). after l (applied_of x.node)) (x.node.replica.agrees x.works tt)
    ∙ x.node.configured

one_configuration : (n : ℕ) → n ≤ 15 → (events : List (Event Bytes)) (m j k : ℕ) (x y : Configuration) →
    after (learned_of (world_after same n events) m) k ≡ Some x → after (learned_of (world_after same n events) j) k ≡ Some y → x ≡ y
one_configuration n few events m j k x y ix iy =
    always_same_state same same_exact n few events [] entry_applied empty k m j x y ix
    (subst (λ (es : List (Event Bytes)). after (learned_of (world_after same n es) j) k ≡ Some y) (sym (append-nil events)) iy)

pub equally_applied : EquallyApplied
equally_applied n some few events lab world i j x y at there equal =
    let w = world_after same n events in
    let mine = configured w i x (world.hosts i x at).here in
    let theirs = configured w j y (world.hosts j y there).here in
    let one = one_configuration n few events i j (applied_of x.node) (config_of x.node) (config_of y.node) mine
    (subst (λ (k : ℕ). after (learned_of w j) k ≡ Some (config_of y.node)) (sym equal) theirs) in
    (one, λ p. ap (λ (c : Configuration). judgement c p) one)
