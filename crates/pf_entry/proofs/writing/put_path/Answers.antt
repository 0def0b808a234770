use Rattle.std.proofs.Common.{ℕ, ◌<◌, List, length, sym, subst}
use Rattle.pf_entry.proofs.Short.{anchor_short}
use Rattle.pf_entry.proofs.writing.put_path.Goals as goal

pub put_counted-requires : goal.put_counted-requires
put_counted-requires c = subst (λ (name : List ℕ). length name < 256) (sym c.as_bytes.ensures.bytes) (anchor_short _ c.as_bytes.ensures.form)
