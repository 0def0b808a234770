-- How long the bytes of an entry are.
use Rattle.std.proofs.Common.{◌≡◌, ◌≤◌, length, ap, arith}
use Rattle.pf_entry.specs.Entry as entries
use Rattle.px_wire.specs.Message.{Lent, IsSpelling}

some_entry : (e : entries.Entry) → 1 ≤ length (entries.spelling e)
some_entry e = omega arith

pub long_enough : (x : Lent) → IsSpelling x → (1 ≤ length x.bytes) × (length x.bytes ≤ 32768)
long_enough x is =
    let n : length x.bytes ≡ length (entries.spelling is.entry) = ap length is.spelled.spelled in
    (omega (arith, n, some_entry is.entry), omega (arith, n, is.spelled.fits.whole))

pub short : (x : Lent) → IsSpelling x → length x.bytes ≤ 32768
short x is = (long_enough x is).1
