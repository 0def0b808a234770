use Rattle.std.proofs.Common.{◌≡◌, ◌∙◌, ◌∷◌, [], ap, sym, map, List, Bool}
use Rattle.pf_tokens.specs.Tokens.{Placed}
use Rattle.pf_tokens.specs.Lexed.{placed_of}
use Rattle.pf_tokens.specs.Left.{tokens_left}
use Rattle.pf_tokens.specs.Macros.{Definition, unwritten, replaced}
use Rattle.pf_tokens.specs.declared.stream.Stream.{Stream}
use Rattle.pf_tokens.specs.Pending.{pending, known}
use Rattle.pf_tokens.specs.inner.Pending.{Stays}
use Rattle.pf_tokens.proofs.Pulling.{pulled_itself, pulled_text, pulled_there, pulled_end}
use Rattle.pf_tokens.proofs.stream.Stream.pull.Goals as goal

-- what is replaced stays so
replaced_stays : (old new : Stream) (p : Placed) → Stays old new → replaced (known new) new.defining p ≡ replaced (known old) old.defining p
replaced_stays old new p stays = ap (λ (ds : List Definition). replaced ds new.defining p) stays.known ∙ ap (λ (w : Bool). replaced (known old) w p) stays.defining

pub returns-in-None-clause-pulled : goal.returns-in-None-clause-pulled
unfolding pending
returns-in-None-clause-pulled c =
    let kept = c.loop-token.invariant in
    let itself : (placed_of c.in-Some.token ∷ []) ≡ replaced (known c.args.self.now) c.args.self.now.defining (placed_of c.in-Some.token) = c.in-None.ensures ∙ replaced_stays c.args.self.now c.loop-token.self (placed_of c.in-Some.token) kept.stays in
    rw kept.inside (sym (pulled_itself (known c.args.self.now) c.args.self.now.defining c.in-Some.token _ _ c.in-Some.ensures.token c.in-Some.ensures.left itself) ∙ kept.same)

pub returns-then-take_inside-clause-pulled : goal.returns-then-take_inside-clause-pulled
returns-then-take_inside-clause-pulled c =
    let kept = c.loop-token.invariant in
    let text : map (unwritten c.in-Some.token.line) (tokens_left c.plain-self.result) ≡ replaced (known c.args.self.now) c.args.self.now.defining (placed_of c.in-Some.token) = ap (map (unwritten c.in-Some.token.line)) c.plain-self.ensures ∙ c.in-Some-replacement.ensures ∙ replaced_stays c.args.self.now c.loop-token.self (placed_of c.in-Some.token) kept.stays in
    c.if-take_inside.ensures.first_item ∙ sym (pulled_there (known c.args.self.now) c.args.self.now.defining c.in-Some.token.line (tokens_left c.plain-self.result) (tokens_left c.next_token.new.self) c.if-take_inside.ensures.some)
    ∙ sym (pulled_text (known c.args.self.now) c.args.self.now.defining c.in-Some.token (tokens_left c.loop-token.self.text) (tokens_left c.next_token.new.self) (tokens_left c.plain-self.result) c.in-Some.ensures.token c.in-Some.ensures.left text) ∙ kept.same

pub returns-clause-pulled : goal.returns-clause-pulled
unfolding pending
returns-clause-pulled c =
    let kept = c.loop-token.invariant in
    sym (pulled_end (known c.args.self.now) c.args.self.now.defining _ (sym c.in_default.ensures.token)) ∙ kept.same
