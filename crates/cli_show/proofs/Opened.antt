-- What a node shows that was opened is shown of its record.
use Rattle.std.proofs.Common.{◌≡◌, ℕ, Some, inl, refl, sym, ap, subst, ◌∙◌}
use Rattle.px_model.specs.Node.{Log, Record}
use Rattle.px_model.specs.Step.{front}
use Rattle.px_model.specs.World.{NodeState, started}
use Rattle.px_model.specs.Spelling.{Bytes}
use Rattle.px_records.specs.declared.records.Records.{Ghosts}
use Rattle.px_replica.specs.Calls.{HasBadEntry}
use Rattle.px_replica.specs.declared.fault.NodeFault.TheVariants as fault
use Rattle.pf_node.specs.Applied.{after}
use Rattle.pf_node.specs.Nodes.{records_of, learned_by, state_in, applied_of, kept_of, config_of}
use Rattle.pf_node.specs.declared.state.Node.{Node}
use Rattle.cli_show.specs.Showing.{Shows, ShowsRecord, IsRefused}
use Rattle.cli_show.specs.declared.shown.Shown.{Shown}
use Rattle.cli_show.specs.declared.shown.Wanted.{Wanted}

-- it is given back as it was, and the configuration is the log's up to the first gap
pub shows_record : {R : Type 0} {G : Ghosts R} (members : ℕ) (given back : R) (n : Node R G) (w : Wanted) (s : Shown) →
    (G.is_honest (records_of n) → G.is_honest given) →
    (G.is_honest (records_of n) → state_in n ≡ started (G.stored given)) →
    (G.is_honest (records_of n) → learned_by n ≡ (G.stored given).learned) →
    applied_of n ≡ front (learned_by n) →
    after (learned_by n) (applied_of n) ≡ Some (config_of n) →
    back ≡ records_of n →
    Shows (learned_by n) (applied_of n) (kept_of n) (config_of n) w s →
    (G.is_honest (records_of n) → HasBadEntry G given members → ⊥) →
    G.is_honest back → ShowsRecord G members given back w s
shows_record {R} {G} members given back n w s was began_so learned applied configured is shows good honest =
    let own : G.is_honest (records_of n) = subst G.is_honest is honest in
    let log : learned_by n ≡ (G.stored given).learned = learned own in
    let same : G.stored (records_of n) ≡ G.stored given = ap (λ (x : NodeState Bytes). x.stored) (began_so own) in
    let end : applied_of n ≡ front (G.stored given).learned = applied ∙ ap front log in
    let first = ap (λ (k : ℕ). after (G.stored given).learned k) (sym end) in
    let second = ap (λ (x : Log Bytes). after x (applied_of n)) (sym log) in
    let whole = subst (λ (x : Log Bytes). Shows x (applied_of n) (kept_of n) (config_of n) w s) log shows in
    record {
      was = was own;
      good = good own;
      same = ap G.stored is ∙ same;
      shows = record {
        configuration = config_of n;
        kept = kept_of n;
        configured = first ∙ second ∙ configured;
        shows = subst (λ (k : ℕ). Shows (G.stored given).learned k (kept_of n) (config_of n) w s) end whole;
      };
    }

-- when out of memory it is given back as it was too
pub not_shown : {R : Type 0} {G : Ghosts R} (members : ℕ) (given back : R) (n : Node R G) →
    (G.is_honest (records_of n) → G.is_honest given) →
    (G.is_honest (records_of n) → state_in n ≡ started (G.stored given)) →
    back ≡ records_of n →
    IsRefused G members given fault.Memory back
not_shown {R} {G} members given back n was began_so is =
    inl (record {
      memory = refl;
      was = λ honest. was (subst G.is_honest is honest);
      same = λ honest. ap G.stored is ∙ ap (λ (x : NodeState Bytes). x.stored) (began_so (subst G.is_honest is honest));
    })

-- it was honest if it is, and what the next open may find is what it could find before
pub was_before : {R : Type 0} {G : Ghosts R} (given back : R) (n : Node R G) → (G.is_honest (records_of n) → G.is_honest given) → back ≡ records_of n →
    G.is_honest back → G.is_honest given
was_before {R} {G} given back n was is honest = was (subst G.is_honest is honest)

pub leaves_less : {R : Type 0} {G : Ghosts R} (given back : R) (n : Node R G) →
    (G.is_honest (records_of n) → (left : Record Bytes) → G.may_leave (records_of n) left → G.may_leave given left) →
    back ≡ records_of n →
    G.is_honest back → (left : Record Bytes) → G.may_leave back left → G.may_leave given left
leaves_less {R} {G} given back n stop is =
    subst (λ (r : R). G.is_honest r → (left : Record Bytes) → G.may_leave r left → G.may_leave given left) (sym is) stop
