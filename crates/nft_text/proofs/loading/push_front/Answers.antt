use Rattle.std.proofs.Common.{sym, codes, string_bytes}
use Rattle.nft_text.specs.Texts.{members_text, guard_text, refuse_text}
use Rattle.nft_text.proofs.Parting.{four_pushed}
use Rattle.nft_text.proofs.loading.push_front.Goals as goal

pub returns : goal.returns
returns c =
    let p = c.args.position in
    rw (sym (four_pushed (string_bytes c.args.out.now) (string_bytes c.push_str.new.self) (string_bytes c.push_members.new.out)
    (string_bytes c.push_guard.new.out) (codes "flush table inet reltzuma; table inet reltzuma { ") (members_text p c.args.members.now)
    (guard_text p) (refuse_text p) c.in_ok-push_str.ensures.bytes c.in_ok-push_members.ensures c.in_ok-push_guard.ensures))
    c.push_refuse.ensures
