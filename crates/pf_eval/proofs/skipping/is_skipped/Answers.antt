use Rattle.std.proofs.Common.{rules, ◌≡◌, ◌∙◌, true, false, subst}
use Rattle.std.specs.List.{list_any}
use Rattle.pf_rules.specs.Names.{Name}
use Rattle.pf_config.specs.SkippedNames.{is_listed}
use Rattle.pf_eval.specs.Packets.{PacketValue, without_digits}
use Rattle.pf_eval.specs.Verdicts.{is_skipped}
use Rattle.pf_eval.proofs.SkippedPackets.{by_interface, by_stem, by_groups}
use Rattle.pf_eval.proofs.skipping.is_skipped.Goals as goal

pub returns-then-is_skipped : goal.returns-then-is_skipped
returns-then-is_skipped c =
    let own = c.packet.inside in
    let skip = c.args.config.now.skip in
    let first : is_listed own.interface skip ≡ true = search rules in
    subst (λ (k : PacketValue). true ≡ is_skipped skip k) c.packet.view_is (by_interface own.interface (without_digits own.interface) own.groups.items skip first)

pub returns-then-is_skipped-2 : goal.returns-then-is_skipped-2
returns-then-is_skipped-2 c =
    let own = c.packet.inside in
    let skip = c.args.config.now.skip in
    let first : is_listed own.interface skip ≡ false = search rules in
    let second : is_listed (without_digits own.interface) skip ≡ true = subst (λ (n : Name). is_listed n skip ≡ true) own.cut (search rules) in
    subst (λ (k : PacketValue). true ≡ is_skipped skip k) c.packet.view_is (by_stem own.interface (without_digits own.interface) own.groups.items skip first second)

pub returns : goal.returns
returns c =
    let own = c.packet.inside in
    let skip = c.args.config.now.skip in
    let first : is_listed own.interface skip ≡ false = search rules in
    let second : is_listed (without_digits own.interface) skip ≡ false = subst (λ (n : Name). is_listed n skip ≡ false) own.cut (search rules) in
    let third : c.any_skipped.result ≡ list_any (λ (m : Name). is_listed m skip) own.groups.items = search rules in
    third ∙ subst (λ (k : PacketValue). list_any (λ (m : Name). is_listed m skip) own.groups.items ≡ is_skipped skip k) c.packet.view_is (by_groups own.interface (without_digits own.interface) own.groups.items skip first second)
