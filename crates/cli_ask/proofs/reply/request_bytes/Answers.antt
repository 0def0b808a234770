-- the head's two parts, and the body
use Rattle.std.proofs.Common.{◌≡◌, ◌∙◌, ◌++◌, codes, decimal, length, rules, string_bytes}
use Rattle.cli_ask.proofs.Answered.{head_is}
use Rattle.cli_ask.proofs.reply.request_bytes.Goals as goal

pub returns : goal.returns
returns c =
    let body = c.args.call.now.body.items in
    let len = decimal (length body) in
    let all : c.extend_from_slice.new.self.items ≡ (string_bytes c.write.new.self ++ (codes "content-length: " ++ (len ++ codes "\r\n\r\n"))) ++ body = search rules in
    let one : string_bytes c.write.new.self ≡ c.args.call.now.method.now ++ (codes " " ++ (string_bytes c.args.call.now.target ++ codes " HTTP/1.1\r\nhost: pfx\r\nconnection: close\r\n")) =
    rw (c.new-head.ensures.bytes, c.as_str-target.ensures.value) at c.in_ok-write.ensures.bytes in
    rw one at all ∙ head_is c.args.call.now.method.now (string_bytes c.args.call.now.target) len body
