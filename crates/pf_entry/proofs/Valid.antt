-- What the types of an entry keep.
use Rattle.std.proofs.Common.{◌≡◌, ℕ, true, leb, eqb}
use Rattle.std.proofs.lemmas.Bool.{le-leb, eq-eqb}
use Rattle.pf_addr.specs.declared.addr.Addr.{Addr}
use Rattle.pf_addr.specs.declared.addr.Addr.TheVariants.{V4, V6}
use Rattle.pf_addr.specs.Blocks.{IsBlock, is_block, cleared}
use Rattle.pf_entry.specs.Entry.{Address, in_family, is_address}
use Rattle.pf_entry.proofs.Takes.{and_true}

block_valid : (base : Addr) (len : ℕ) → IsBlock base len → is_block base len ≡ true
block_valid (V4 bits) len h = and_true (leb len 32) (eqb bits (cleared 32 len bits)) (le-leb _ _ h.0) (eq-eqb _ _ h.1)
block_valid (V6 bits) len h = and_true (leb len 128) (eqb bits (cleared 128 len bits)) (le-leb _ _ h.0) (eq-eqb _ _ h.1)

pub address_valid : (a : Address) → in_family a.prefix.base ≡ true → IsBlock a.prefix.base a.prefix.len → is_address a ≡ true
address_valid a f h = and_true (in_family a.prefix.base) (is_block a.prefix.base a.prefix.len) f (block_valid a.prefix.base a.prefix.len h)
