-- the bytes are that answer
use Rattle.std.proofs.Common.{◌≡◌, ◌∙◌, drop, length, map, rules, take, tests, true}
use Rattle.std.specs.Prelude.{codes}
use Rattle.httparse.specs.Spans.{IsResponseOf, header_bytes}
use Rattle.cli_ask.specs.Replies.{has_length, number_in}
use Rattle.cli_ask.proofs.Answered.{is_answer, whole_rest}
use Rattle.cli_ask.proofs.reply.reply_in.Goals as goal

pub returns-clause-answer : goal.returns-clause-answer
returns-clause-answer c =
    let bytes = c.args.bytes.now in
    let headers = c.parse_response.new.headers in
    let head = c.in-Ok-Complete.head in
    let body = c.in_ok-from_slice.field-0.items in
    let of : IsResponseOf bytes headers head = search rules in
    let same : body ≡ drop head.len bytes = c.in_ok-from_slice.ensures.items ∙ whole_rest head.len bytes in
    let whole : has_length (length body) (map (header_bytes bytes) (take head.headers headers)) ≡ true = search (rules, tests) in
    let first : c.number_in.result ≡ number_in (codes "pfx-front") (map (header_bytes bytes) (take head.headers headers)) = search rules in
    let then : c.number_in-2.result ≡ number_in (codes "pfx-applied") (map (header_bytes bytes) (take head.headers headers)) = search rules in
    is_answer bytes body headers head c.number_in.result c.number_in-2.result of same whole first then
