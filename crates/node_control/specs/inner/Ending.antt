-- The clients of a control socket, and when a run ends that an operator asked to end.
use Rattle.std.specs.Prelude.{◌≡◌, ℕ, Bool, List, [], false, not, ◌&&◌, nat_lt, Option, Some, None, IfSome, is_none}
use Rattle.std.specs.Prelude.{length}
use Rattle.std.specs.List.{list_any}
use Rattle.http_server.specs.Connection.{history}
use Rattle.node_control.specs.declared.client.Client.{Client}
use Rattle.node_control.specs.declared.control.ControlSocket.{ControlSocket}
use Rattle.node_control.specs.declared.control.Entrance.{Entrance}
use Rattle.node_requests.specs.declared.health.Health.TheVariants.{Works}

-- an entrance for this many clients, without any
pub record IsUnused (bound : ℕ) (entrance : Entrance) : Type 0 where
  pub empty : entrance.clients.items ≡ []
  pub most : entrance.most ≡ bound

-- a control socket without clients, of a node whose health wasn't reported; with a port for metrics if one is asked for
pub record IsOpened {A : Type 0} (address : Option A) (control : ControlSocket) : Type 0 where
  pub operators : IsUnused 8 control.operators
  pub metrics : IfSome control.figures (IsUnused 4)
  pub port : is_none control.figures ≡ is_none address
  pub health : control.health ≡ Works

-- the number of operators whose connections are open
abbrev pub client_count : ControlSocket → ℕ
client_count control = length control.operators.clients.items

-- the clients, and what is to be sent to them, are the same
pub record KeepsClients (old new : ControlSocket) : Type 0 where
  pub operators : new.operators ≡ old.operators
  pub metrics : new.figures ≡ old.figures
  pub health : new.health ≡ old.health

-- whether anything is to be sent to a client
abbrev pub has_more : Client → Bool
has_more c = nat_lt 0 (length (history c.connection).pending)

-- whether anything is to be sent to an operator
abbrev pub has_more_to_send : ControlSocket → Bool
has_more_to_send control = list_any has_more control.operators.clients.items

-- an operator asked for the end, and each has the answer
abbrev pub is_ending : (is_stopping : Bool) → Option ControlSocket → Bool
is_ending is_stopping None = false
is_ending is_stopping (Some control) = is_stopping && not (has_more_to_send control)
