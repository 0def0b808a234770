-- it is decoded exactly where its command has a spelling
use Rattle.std.proofs.Common.{◌∙◌, arith}
use Rattle.pf_entry.specs.Seen.{entry_of}
use Rattle.px_replica.proofs.Spellings.{decoded}
use Rattle.px_replica.proofs.look.is_decoded.Goals as goal

pub returns : goal.returns
returns c e is origin small =
    c.is_ok.ensures.value ∙ decoded entry_of e c.args.bytes.now c.decode.result is origin small (λ i. omega (arith, c.type_inv.bytes i)) c.decode.ensures.found c.decode.ensures.only
