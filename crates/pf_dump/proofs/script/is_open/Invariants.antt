use Rattle.std.proofs.Common.{drop, ◌≡◌, false}
use Rattle.pf_dump.specs.Written.{is_open_after}
use Rattle.pf_dump.proofs.script.is_open.Given as goal

abbrev pub invariant-loop-byte : goal.invariant-loop-byte
invariant-loop-byte l = is_open_after l.pending (drop l.byte-index l.text) ≡ is_open_after false l.text
