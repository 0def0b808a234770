-- An entry of a table takes a token at least.
use Rattle.std.proofs.Common.{◌≡◌, ◌<◌, List, length, Some, arith}
use Rattle.pf_rules.specs.declared.profile.Profile.{Profile}
use Rattle.pf_tokens.specs.declared.symbol.Symbol.TheVariants as mark
use Rattle.pf_tokens.specs.Tokens.{Token}
use Rattle.pf_tokens.specs.Productions.{symbol_at}
use Rattle.pf_tokens.specs.inner.Shorter.{symbol_no_longer}
use Rattle.pf_rules.specs.declared.ruleset.TableEntry.{TableEntry}
use Rattle.pf_statements.specs.Conditions.{prefix_at}
use Rattle.pf_statements.specs.inner.Shorter.{then_shorter, answer_left, prefix_shorter}
use Rattle.pf_statements.specs.Tables.{entry_at}

pub entry_shorter : (profile : Profile) (ts rest : List Token) (x : TableEntry) → entry_at profile ts ≡
    Some (x, rest) → length rest < length ts
unfolding entry_at
entry_shorter profile ts rest x e = then_shorter (prefix_at (symbol_at mark.Not ts).1) (λ block.
    Some (record { negated = (symbol_at mark.Not ts).0; prefix = block.0 }, block.1)) ts rest x
    (λ block h. omega (
      arith,
      prefix_shorter (symbol_at mark.Not ts).1 block.1 block.0 h,
      symbol_no_longer mark.Not ts,
    ))
    (λ block h. answer_left (record { negated = (symbol_at mark.Not ts).0; prefix = block.0 }) x block.1 rest h) e
