-- each test passed, and the fields are those of the bytes
use Rattle.std.proofs.Common.{ap, sym, rules, ◌∙◌, ◌≡◌}
use Rattle.std.specs.Prelude.{is_some}
use Rattle.std.specs.Int.{w32}
use Rattle.std.proofs.lemmas.List.{take_rest}
use Rattle.px_packet.specs.Headers.{number}
use Rattle.px_packet.proofs.Headers.{no_fault_from, header_from}
use Rattle.px_packet.proofs.header.Header.read.Goals as goal

pub returns : goal.returns
returns c =
    let b = c.args.bytes.now in
    let cluster : number w32 5 b ≡ c.args.cluster = search rules in
    let number_of : c.start_at-start.result.number ≡ number w32 13 b = ap (λ s. s.number) c.start_at-start.ensures in (
      no_fault_from c.args.cluster c.args.members c.args.me b c.if-bytes-lt-HEADER_BYTES.false
          (search rules) (search rules) cluster (search rules)
          (search rules) (search rules) (search rules) (search rules)
          (search rules) (search rules),
      header_from c.args.cluster c.args.members c.args.me b c.in_ok-kind.kind c.start_at-start.result c.start_at.result
          c.u64_at-counter.result cluster (search rules) (search rules) (search rules)
          c.start_at-start.ensures c.start_at.ensures c.u64_at-counter.ensures,
      take_rest b 37,
    )
