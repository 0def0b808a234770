-- The numbers that entries of one family and length are searched by.
use Rattle.std.specs.Prelude.{ℕ}
use Rattle.pf_addr.specs.Order.{bits_of}
use Rattle.pf_rules.specs.declared.ruleset.TableEntry.{TableEntry}

-- the first address, as a number
abbrev pub key_of : TableEntry → ℕ
key_of e = bits_of e.prefix.base
