-- The entries of tables are elements of lists.
use Rattle.std.proofs.Common.{◌≡◌, Bool, true, false, List, refl, sym}
use Rattle.std.specs.Prelude.{not}
use Rattle.std.proofs.lemmas.Bool.{false≢true}
use Rattle.pf_rules.specs.declared.profile.Profile.{Profile}
use Rattle.pf_tokens.specs.declared.symbol.Symbol.TheVariants.{Slash}
use Rattle.pf_tokens.specs.Tokens.{Token}
use Rattle.pf_tokens.specs.Productions.{begins_symbol}
use Rattle.pf_tokens.specs.ListGrammar.{IsElement}
use Rattle.pf_statements.proofs.ElementsMet.{IsTestFor, met}
use Rattle.pf_statements.specs.Tables.{entry_at, may_follow_entry}
use Rattle.pf_statements.proofs.TablesSpelled.{EntryEnds, entries_readable}

not_so : (a : Bool) → not a ≡ true → a ≡ false
not_so true e = absurd (false≢true e)
not_so false e = refl

so : (a : Bool) → a ≡ false → not a ≡ true
so true e = absurd (false≢true (sym e))
so false e = refl

entry_tested : IsTestFor EntryEnds may_follow_entry
entry_tested = record {
  sound = λ rest e. not_so (begins_symbol Slash rest) e;
  complete = λ rest e. so (begins_symbol Slash rest) e;
}

pub entries_met : (profile : Profile) → IsElement (entry_at profile) may_follow_entry
entries_met profile = met (entries_readable profile) entry_tested refl
