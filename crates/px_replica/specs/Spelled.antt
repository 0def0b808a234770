-- Messages on their way as bytes.
use Rattle.std.specs.Prelude.{◌≡◌, not, nat_eq, filter, List, [], ◌∷◌}
use Rattle.px_model.specs.Node.{Envelope, client}
use Rattle.px_model.specs.Fits.{Passes, EnvelopeFits}
use Rattle.px_model.specs.Spelling.{Bytes}
use Rattle.px_wire.specs.Message.{Group, DatagramBytes}
use Rattle.px_wire.specs.Members.{as_sent}
use Rattle.px_wire.specs.Sent.{is_command}
use Rattle.px_replica.specs.declared.datagram.Datagram.{Datagram}

-- the message may pass between them, the datagram is for its addressee, and its bytes spell the message
pub record IsSpelled (g : Group) (x : Envelope Bytes) (d : Datagram) : Type 0 where
  pub passes : EnvelopeFits (Passes is_command) g.members x
  pub addressee : d.to ≡ x.addressee
  pub bytes : DatagramBytes g x.sender x.addressee (as_sent x.message) d.bytes.items

-- one datagram for each message, in order
abbrev pub AreSpelled : Group → List (Envelope Bytes) → List Datagram → Type 0
AreSpelled g [] [] = Unit {0}
AreSpelled g [] (d ∷ ds) = ⊥
AreSpelled g (x ∷ xs) [] = ⊥
AreSpelled g (x ∷ xs) (d ∷ ds) = IsSpelled g x d × AreSpelled g xs ds

-- the datagrams that go to members; what goes to a client is nobody's to deliver
abbrev pub for_members : List Datagram → List Datagram
for_members out = filter (λ (d : Datagram). not (nat_eq d.to client)) out
