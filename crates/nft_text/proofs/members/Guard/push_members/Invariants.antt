use Rattle.std.proofs.Common.{◌≡◌, ◌++◌, drop, string_bytes}
use Rattle.std.specs.List.{flat_map}
use Rattle.nft_text.specs.Texts.{member_text}
use Rattle.nft_text.proofs.members.Guard.push_members.Given as goal

-- the text so far, and what is left
abbrev pub invariant-loop-member : goal.invariant-loop-member
invariant-loop-member l =
    string_bytes l.out ++ flat_map (member_text l.fn.has_port l.fn.self.family) (drop l.member-index l.fn.self.members.now)
    ≡ string_bytes l.fn.out ++ flat_map (member_text l.fn.has_port l.fn.self.family) l.fn.self.members.now
