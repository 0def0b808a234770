-- What the members of a lab ever learned.
use Rattle.std.specs.Prelude.{◌≡◌, ◌↔◌, ℕ, List, Option, Some, None, slice_get}
use Rattle.px_model.specs.Node.{Entry, Log}
use Rattle.px_model.specs.World.{World}
use Rattle.px_model.specs.Law.{Among, Chosen, HasLearned}
use Rattle.px_model.specs.Spelling.{Bytes}
use Rattle.pf_node.specs.Nodes.{learned_by}
use Rattle.pf_lab.specs.declared.host.Host.{Host}

-- what a member has as learned, nothing where there is no such member
abbrev pub log_of : Option Host → Log Bytes
log_of None = λ p. None
log_of (Some s) = learned_by s.node

-- what each of these members has as learned, at each position
abbrev pub ever_of : List Host → (member : ℕ) → Log Bytes
ever_of hosts m = log_of (slice_get hosts m)

-- exactly this was ever learned in the world
abbrev pub IsEver : ((member : ℕ) → Log Bytes) → World Bytes → Type 0
IsEver ever w = (m p : ℕ) (e : Entry Bytes) → (ever m p ≡ Some e) ↔ HasLearned w m p e

-- What was ever learned satisfies the agreement: at a position it is one entry, chosen there and asked, and an entry
-- is at one position (2.1).
pub record IsAgreed (n : ℕ) (w : World Bytes) (ever : (member : ℕ) → Log Bytes) : Type 0 where
  pub one_learned : (p : ℕ) (e f : Entry Bytes) (m k : ℕ) → ever m p ≡ Some e → ever k p ≡ Some f → e ≡ f
  pub was_chosen : (m p : ℕ) (e : Entry Bytes) → ever m p ≡ Some e → Chosen n w p e
  pub was_asked : (m p : ℕ) (e : Entry Bytes) → ever m p ≡ Some e → Among w.asked e
  pub one_chosen : (p : ℕ) (e f : Entry Bytes) → Chosen n w p e → Chosen n w p f → e ≡ f
  pub one_position : (e : Entry Bytes) (m p k q : ℕ) → ever m p ≡ Some e → ever k q ≡ Some e → p ≡ q
