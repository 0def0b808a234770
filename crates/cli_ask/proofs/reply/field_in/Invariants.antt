use Rattle.std.proofs.Common.{◌≡◌, map, length}
use Rattle.std.specs.Prelude.{All}
use Rattle.httparse.specs.Spans.{IsHeaderWithin, header_bytes}
use Rattle.cli_ask.specs.Replies.{field_in}
use Rattle.cli_ask.proofs.reply.field_in.Given as goal

abbrev pub invariant-loop-left : goal.invariant-loop-left
invariant-loop-left l = record {
  within : All (IsHeaderWithin (length l.bytes)) l.left;
  same : field_in l.wanted (map (header_bytes l.bytes) l.left) ≡ field_in l.wanted (map (header_bytes l.bytes) l.fields);
}

abbrev pub decreases-loop-left : goal.decreases-loop-left
decreases-loop-left l = length l.left
