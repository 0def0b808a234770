use Rattle.std.proofs.lemmas.Str.{IsUtf8-from_ascii}
use Rattle.pf_rules.proofs.text.ascii_text.Goals as goal

-- ASCII bytes are UTF-8, which is kept
pub returns : goal.returns
returns c = c.in_ok-text.ensures.ok (IsUtf8-from_ascii c.args.bytes.now c.requires)
