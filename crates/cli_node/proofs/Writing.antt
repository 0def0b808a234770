-- What a run writes: the line of its outcome.
use Rattle.std.proofs.Common.{List, [], ℕ, Option, refl, inr}
use Rattle.std.specs.Io.KnownBytes.{Appends}
use Rattle.cli_node.specs.declared.outcome.Outcome.{Outcome}
use Rattle.cli_node.specs.declared.outcome.Outcome.TheVariants as outcome
use Rattle.cli_node.specs.Outcomes.{Wrote, line_of, status_of}

pub wrote : (o : Outcome) (old new : Option (List ℕ)) → Appends old new (line_of o) → Wrote (status_of o) o old new
wrote (outcome.Front n a) old new h = (refl, h)
wrote (outcome.Stopped n a) old new h = (refl, h)
wrote (outcome.Asked n k) old new h = (refl, h)
wrote (outcome.Key k) old new h = (refl, h)
wrote (outcome.Refused c) old new h = (refl, h)
wrote (outcome.RefusedLine c l) old new h = (refl, h)
wrote outcome.NoAnswer old new h = (refl, h)
wrote outcome.Sound old new h = (refl, h)
wrote outcome.Made old new h = (refl, h)
wrote outcome.Memory old new h = h
wrote outcome.Unread old new h = inr ([], [], refl, h)
