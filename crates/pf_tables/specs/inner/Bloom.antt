-- Bloom filters with one hash function.
use Rattle.std.specs.Prelude.{◌≡◌, ℕ, ◌+◌, ◌*◌, ◌/◌, ◌%◌, ◌^◌, true, Bool, List, length, get_or}
use Rattle.std.specs.List.{list_all}
use Rattle.pf_tables.specs.declared.bloom.BloomFilter.{BloomFilter}

-- the index of a key's bit among that many. Any function does by which bits are both set and read.
unfoldable pub bit_index : ℕ → ℕ → ℕ
bit_index key count =
    ((((key / 2 ^ 64 + key % 2 ^ 64) % 2 ^ 64 * 11400714819323198485) % 2 ^ 64 / 2 ^ 32 * count) % 2 ^ 64) / 2 ^ 32

-- the key's bit is set, or there are no bits
abbrev pub may_contain : BloomFilter → ℕ → Bool
may_contain f key = get_or f.bits.items (bit_index key (length f.bits.items)) true

-- each of these keys has its bit set
abbrev pub MayContainAll : BloomFilter → List ℕ → Type 0
MayContainAll f keys = list_all (may_contain f) keys ≡ true
