use Rattle.std.proofs.Common.{◌≡◌, ◌∙◌, List, ℕ, ap, inr, subst, sym}
use Rattle.cli_io.specs.Written.{AppendsFront}
use Rattle.cli_ask.specs.Outcomes.{text_of}
use Rattle.cli_ask.proofs.outcome.write_outcome.Goals as goal

pub returns-in-Ok-refusal_line : goal.returns-in-Ok-refusal_line
returns-in-Ok-refusal_line g c =
    let e : c.as_bytes.result.now ≡ text_of c.args.outcome = c.as_bytes.ensures.value ∙ c.in-Ok-refusal_line.ensures ∙ ap text_of (sym c.in-Refused.is) in
    inr (subst (λ (b : List ℕ). AppendsFront (g.W.Write.contents c.args.writer.now) (g.W.Write.contents c.write_bytes-in-Ok-refusal_line.new.writer) b) e c.in-Err-write_bytes.ensures.front)
