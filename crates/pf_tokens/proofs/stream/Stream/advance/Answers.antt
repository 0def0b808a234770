use Rattle.std.proofs.Common.{◌≡◌, ◌∙◌, ap, sym, List, Bool}
use Rattle.pf_tokens.specs.declared.lexer.Lexer.{Lexer}
use Rattle.pf_tokens.specs.Macros.{Definition}
use Rattle.pf_tokens.specs.inner.Flow.{pulled_raw}
use Rattle.pf_tokens.specs.Left.{tokens_left}
use Rattle.pf_tokens.specs.Pending.{known}
use Rattle.pf_tokens.proofs.Pulling.{pending_none, pending_some, pulled_there}
use Rattle.pf_tokens.proofs.stream.Stream.advance.Goals as goal

pub returns-then-is_none-clause-pulled : goal.returns-then-is_none-clause-pulled
returns-then-is_none-clause-pulled c = pending_none c.args.self.now c.if-is_none.ensures

pub returns-then-not-take_inside-clause-pulled : goal.returns-then-not-take_inside-clause-pulled
returns-then-not-take_inside-clause-pulled c =
    let some = pending_some c.args.self.now c.if-is_none.ensures in
    let stays = c.take_inside.ensures.stays in
    let same : pulled_raw (known c.take_inside.new.self) c.take_inside.new.self.defining (tokens_left c.take_inside.new.self.text) ≡ pulled_raw (known c.args.self.now) c.args.self.now.defining (tokens_left c.args.self.now.text) =
    ap (λ (ds : List Definition). pulled_raw ds c.take_inside.new.self.defining (tokens_left c.take_inside.new.self.text)) stays.known
    ∙ ap (λ (w : Bool). pulled_raw (known c.args.self.now) w (tokens_left c.take_inside.new.self.text)) stays.defining
    ∙ ap (λ (l : Lexer). pulled_raw (known c.args.self.now) c.args.self.now.defining (tokens_left l)) c.take_inside.ensures.text in
    rw (some.0, some.1, c.if-not-take_inside.ensures.none.0) (c.pull.ensures.pulled ∙ same)

pub returns-else-not-take_inside-clause-pulled : goal.returns-else-not-take_inside-clause-pulled
returns-else-not-take_inside-clause-pulled c =
    let some = pending_some c.args.self.now c.if-is_none.ensures in
    rw (some.0, some.1) (c.if-not-take_inside.ensures.first_item ∙ sym (pulled_there (known c.args.self.now) c.args.self.now.defining c.args.self.now.line (tokens_left c.args.self.now.inside) (tokens_left c.args.self.now.text) c.if-not-take_inside.ensures.some))
