-- What the rendered ruleset is promised to decide.
use Rattle.std.specs.Prelude.{◌≡◌, ◌==◌, ◌&&◌, Bool, true, false, List, Some, nat_le, not}
use Rattle.std.specs.List.{list_any}
use Rattle.pf_addr.specs.Blocks.{FitsAddr}
use Rattle.pf_rules.specs.Items.{AnyRule, FilterRule, AnchorRule}
use Rattle.pf_config.specs.Changes.{is_empty}
use Rattle.pf_config.specs.Map.{Configuration, rules_at, paths_in}
use Rattle.pf_eval.specs.Packets.{PacketValue}
use Rattle.pf_eval.specs.PacketTexts.{same_family, has_ports, is_there_if, only_if}
use Rattle.pf_eval.specs.Matching.{if_set}
use Rattle.pf_eval.specs.Verdicts.{judgement}
use Rattle.pf_rules.specs.declared.parts.Direction.{Direction}
use Rattle.nft_rules.specs.Subset.{Base, NftRuleset}
use Rattle.nft_rules.specs.Evaluation.{run}
use Rattle.nft_rules.specs.Rendering.{Machine, groups_in, decision_of}
use Rattle.nft_rules.specs.Guard.{Member, HookPacket, is_members, let_through, at_hook, hook_of}

-- a packet on an interface of the machine, which has that interface's groups, and whose parts go together: both ends
-- are of one family; ports are there for TCP and UDP and for no other, and are numbers of 16 bits; a type is there for
-- ICMP alone
pub record IsPacketOn (m : Machine) (k : PacketValue) : Type 0 where
  pub interface : groups_in m k.interface ≡ Some k.groups
  pub family : same_family k.source k.destination ≡ true
  pub source : FitsAddr k.source
  pub destination : FitsAddr k.destination
  pub source_port : is_there_if (has_ports k.protocol) k.source_port ≡ true
  pub destination_port : is_there_if (has_ports k.protocol) k.destination_port ≡ true
  pub source_number : if_set (λ n. nat_le n 65535) k.source_port ≡ true
  pub destination_number : if_set (λ n. nat_le n 65535) k.destination_port ≡ true
  pub icmp_type : only_if (k.protocol == 1) k.icmp_type ≡ true

-- an anchor rule whose target is the anchor that holds it: no text gives one, and nftables refuses a jump that leads
-- back
abbrev pub leads_back : AnyRule → Bool
leads_back (FilterRule r) = false
leads_back (AnchorRule a) = not a.target.children && is_empty a.target.names

-- some anchor rule, at whatever path, leads back to the anchor that holds it
abbrev pub some_leads_back : Configuration → Bool
some_leads_back c = list_any (λ p. list_any leads_back (rules_at c p)) (paths_in c.anchors)

-- of each packet of the direction on the machine the ruleset decides the configuration's verdict, with the deciding
-- rule
abbrev pub DecidesAs : Configuration → Machine → Direction → NftRuleset → Type 0
DecidesAs c m d r = (k : PacketValue) → k.direction ≡ d → IsPacketOn m k →
    run 10 r k Base ≡ Some (decision_of (judgement c k))

-- At a hook with the guard of these members in front of the ruleset: their packets are accepted; of each other packet
-- it is decided as by the ruleset alone; and if it is one of the direction on the machine, this is the configuration's
-- verdict, with the deciding rule.
pub record DecidesBehindGuard (c : Configuration) (m : Machine) (d : Direction) (ms : List Member) (r : NftRuleset) :
    Type 0 where
  pub members : (h : HookPacket) → is_members ms h ≡ true → at_hook (hook_of ms) r h ≡ Some let_through
  pub others : (h : HookPacket) → is_members ms h ≡ false → at_hook (hook_of ms) r h ≡ run 10 r h.packet Base
  pub judged : (h : HookPacket) → is_members ms h ≡ false → h.packet.direction ≡ d → IsPacketOn m h.packet →
      at_hook (hook_of ms) r h ≡ Some (decision_of (judgement c h.packet))
