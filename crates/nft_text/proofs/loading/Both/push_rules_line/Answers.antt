use Rattle.std.proofs.Common.{sym, codes, string_bytes, ◌++◌}
use Rattle.std.specs.List.{flat_map}
use Rattle.pf_rules.specs.declared.parts.Direction.TheVariants.{In, Out}
use Rattle.nft_rules.specs.Seen.{ruleset_of}
use Rattle.nft_text.specs.Texts.{rules_line, members_text, guard_text, refuse_text, chain_text, hooks_filled}
use Rattle.nft_text.proofs.Parting.{tail_pushed}
use Rattle.nft_text.proofs.loading.Both.push_rules_line.Goals as goal

pub returns : goal.returns
unfolding rules_line
returns c =
    let p = c.args.self.position in
    let ms = c.args.self.members.now in
    let inward = ruleset_of c.args.self.inward.now in
    let outward = ruleset_of c.args.self.outward.now in
    let tail = flat_map (chain_text p c.args.self.keeps In inward) inward.chains ++ (flat_map (chain_text p c.args.self.keeps Out outward) outward.chains
    ++ (hooks_filled p ms inward outward ++ codes "}\n")) in
    rw (sym (tail_pushed (string_bytes c.args.out.now) (string_bytes c.push_front.new.out) (codes "flush table inet reltzuma; table inet reltzuma { ")
    (members_text p ms) (guard_text p) (refuse_text p) tail c.in_ok-push_front.ensures)) c.push_table.ensures
