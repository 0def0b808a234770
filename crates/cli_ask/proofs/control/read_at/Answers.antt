-- the answer is one to this target
use Rattle.std.proofs.Common.{◌≡◌, Err, rules, string_bytes, subst, sym}
use Rattle.cli_ask.specs.Asking.{Answered, answer_value}
use Rattle.cli_ask.specs.Calls.{Request, call_value}
use Rattle.cli_ask.specs.Reading.{IsRead}
use Rattle.cli_ask.specs.Replies.{IsUnanswered, reply_value}
use Rattle.cli_ask.specs.declared.exchange.AskFault.TheVariants as fault
use Rattle.cli_ask.proofs.Begun.{answer_begun}
use Rattle.cli_ask.proofs.control.read_at.Goals as goal

pub returns-in_err-reply : goal.returns-in_err-reply
returns-in_err-reply g c =
    let refused = g.C.Socket.Dial.is_refused c.exchange.new.control in
    let e : answer_value c.from_residual.result ≡ Err c.in_err-reply.field-0.0 = search rules in
    record {
      before = c.socket_at-socket.result;
      after = c.exchange.new.control;
      there = c.socket_at-socket.ensures;
      once = c.exchange.ensures.dialed;
      read = subst (λ (a : Answered). IsRead g.C.Socket.Dial.is_new g.C.Socket.Stream.Write.contents g.C.Socket.Stream.Read.remaining refused (string_bytes c.args.target) a) (sym e)
          (subst (λ (r : Request). IsUnanswered g.C.Socket.Dial.is_new g.C.Socket.Stream.Write.contents refused r c.in_err-reply.field-0.0) c.get-call.ensures c.in_err-reply.ensures.none);
    }

pub returns-then-reply-ne200 : goal.returns-then-reply-ne200
returns-then-reply-ne200 g c =
    let refused = g.C.Socket.Dial.is_refused c.exchange.new.control in
    record {
      before = c.socket_at-socket.result;
      after = c.exchange.new.control;
      there = c.socket_at-socket.ensures;
      once = c.exchange.ensures.dialed;
      read = subst (λ (r : Request). IsUnanswered g.C.Socket.Dial.is_new g.C.Socket.Stream.Write.contents refused r fault.BadAnswer) c.get-call.ensures
          (answer_begun g.C.Socket.Dial.is_new g.C.Socket.Stream.Write.contents g.C.Socket.Stream.Read.remaining refused (call_value c.get-call.result) (reply_value c.in_ok-reply.reply) c.in_ok-reply.ensures.answer);
    }
