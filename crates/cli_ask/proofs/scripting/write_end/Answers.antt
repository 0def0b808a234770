use Rattle.std.proofs.Common.{◌≡◌, ◌++◌, ◌∙◌, codes, decimal, List, ℕ, inl, subst}
use Rattle.cli_io.specs.Written.{line, AppendsFront}
use Rattle.cli_ask.proofs.Scripts.{front_more, front_behind}
use Rattle.cli_ask.proofs.scripting.write_end.Goals as goal

pub returns-in-Ok-write_bytes : goal.returns-in-Ok-write_bytes
returns-in-Ok-write_bytes g c =
    let e : c.as_bytes.result.now ≡ line (codes "line " ++ decimal c.args.line) = c.as_bytes.ensures.value ∙ c.in-Ok.ensures.ok in
    inl (front_behind _ (g.W.Write.contents c.write_bytes.new.writer) _ c.args.said.now _ c.in-Ok-write_bytes.ensures.whole
    (subst (λ (b : List ℕ). AppendsFront (g.W.Write.contents c.write_bytes.new.writer) (g.W.Write.contents c.write_bytes-in-Ok-write_bytes.new.writer) b) e c.in-Err-write_bytes.ensures.front))

pub returns : goal.returns
returns g c = inl (front_more _ _ c.args.said.now _ c.in-Err.ensures.front)
