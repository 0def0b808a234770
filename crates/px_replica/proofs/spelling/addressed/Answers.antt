-- one byte is another's
use Rattle.std.proofs.Common.{List, ℕ, length, refl, subst, sym, ap, ◌∙◌, ◌≡◌}
use Rattle.std.proofs.lemmas.List.{length-set}
use Rattle.px_model.specs.Seen.{message_of}
use Rattle.px_wire.specs.Message.{group, DatagramBytes}
use Rattle.px_wire.specs.Members.{as_sent}
use Rattle.px_replica.proofs.Groups.{few_members}
use Rattle.px_replica.proofs.Sending.{all_have, all_pass, front_whole}
use Rattle.px_replica.proofs.spelling.addressed.Goals as goal

pub returns : goal.returns
returns c =
    let m = c.args.m.now in
    let x = message_of c.args.message.now in
    let copied : c.as_mut_slice.result.now ≡ c.args.first.now.bytes.items =
    c.as_mut_slice.ensures.value ∙ c.in_ok-bytes.ensures.items ∙ c.as_slice.ensures.value in
    let long : length c.address.new.datagram ≡ length c.in_ok-bytes.bytes.items =
    ap length c.address.ensures.bytes ∙ length-set c.as_mut_slice.result.now 11 c.args.to ∙ ap length c.as_mut_slice.ensures.value in
    let whole = front_whole c.in_ok-bytes.bytes.len c.address.new.datagram c.in_ok-bytes.bytes.items (c.in_ok-bytes.bytes.ok.0 ∙ sym long) in
    record {
      passes = all_pass m.members m.me c.args.to x c.requires.fits c.requires.to;
      addressee = refl;
      bytes = subst (λ (b : List ℕ). DatagramBytes (group m) m.me c.args.to (as_sent x) b) (sym whole) (c.address.ensures.spelled (group m) m.me 0 (as_sent x)
          (subst (λ (b : List ℕ). DatagramBytes (group m) m.me 0 (as_sent x) b) (sym copied) c.requires.first.bytes)
          (all_have m c.args.to x (few_members m) c.requires.fits c.requires.to));
    }
