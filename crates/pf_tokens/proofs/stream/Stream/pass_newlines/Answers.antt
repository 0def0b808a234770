use Rattle.std.proofs.Common.{◌∙◌, ◌∷◌, List, ap, sym, arith}
use Rattle.pf_tokens.specs.Tokens.{Token, Newline}
use Rattle.pf_tokens.specs.Macros.{Definition}
use Rattle.pf_tokens.specs.Carried.{carried}
use Rattle.pf_tokens.specs.Pending.{pending, known}
use Rattle.pf_tokens.specs.inner.Pending.{statement_tokens}
use Rattle.pf_tokens.proofs.Blanking.{blanks_more}
use Rattle.pf_tokens.proofs.Newlines.{newline_step, newline_counts, newline_less}
use Rattle.pf_tokens.proofs.stream.Stream.pass_newlines.Goals as goal

pub loop-self-smaller : goal.loop-self-smaller
loop-self-smaller c = newline_less c.loop-self.self c.advance.new.self c.advance.ensures.stays (sym c.at_newline.ensures ∙ c.if-at_newline.true) c.advance.ensures.pulled

pub loop-self-preserved : goal.loop-self-preserved
loop-self-preserved c =
    let kept = c.loop-self.invariant in
    let moved = c.advance.ensures.stays in
    let ds = known c.args.self.now in
    let w = c.args.self.now.defining in
    let ts = statement_tokens ds w c.args.depth (pending c.advance.new.self) in
    record {
      blanks = blanks_more c.args.braces (known c.args.self.now) c.args.self.now.defining (pending c.args.self.now) (pending c.loop-self.self) (pending c.advance.new.self) kept.blanks
          (newline_step c.loop-self.self c.advance.new.self (known c.args.self.now) c.args.self.now.defining c.args.braces kept.stays.known kept.stays.defining (sym c.at_newline.ensures ∙ c.if-at_newline.true) c.loop-self-test.true c.advance.ensures.pulled);
      fault = ap (λ (es : List Definition). carried es c.with-passed.result c.args.depth ts) (sym kept.stays.known)
          ∙ c.with-passed.ensures ts
          ∙ ap (λ (es : List Definition). carried es c.loop-self.passed c.args.depth (Newline ∷ ts)) kept.stays.known
          ∙ ap (λ (us : List Token). carried ds c.loop-self.passed c.args.depth us) (sym (newline_counts c.loop-self.self c.advance.new.self ds w c.args.depth kept.stays.known kept.stays.defining (sym c.at_newline.ensures ∙ c.if-at_newline.true) (omega (arith, c.loop-self-test.true, c.requires)) c.advance.ensures.pulled))
          ∙ kept.fault;
      stays = record { known = moved.known ∙ kept.stays.known; defining = moved.defining ∙ kept.stays.defining };
    }
