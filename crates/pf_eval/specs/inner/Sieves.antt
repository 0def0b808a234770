-- Which packets the sieve of a rule lets pass.
use Rattle.std.specs.Prelude.{ℕ, ◌==◌, ◌&&◌, Bool, Option, Some, None, min}
use Rattle.pf_tables.specs.Intervals.{is_within}
use Rattle.pf_config.specs.declared.candidate.Sieve.{Sieve}
use Rattle.pf_config.specs.Orders.{front_bits}
use Rattle.pf_eval.specs.declared.key.Key.{Key}
use Rattle.pf_eval.specs.Packets.{PacketValue}
use Rattle.pf_eval.specs.Matching.{direction_eq, of_family, if_set}

abbrev pub port_or_0 : Option ℕ → ℕ
port_or_0 None = 0
port_or_0 (Some port) = port

-- numbers of 32 bits, as the code keeps them
unfoldable pub key_of : PacketValue → Key
key_of k = record {
  direction = k.direction;
  protocol = k.protocol;
  from = k.source;
  source = min (front_bits k.source) 4294967295;
  destination = min (front_bits k.destination) 4294967295;
  destination_port = min (port_or_0 k.destination_port) 4294967295;
}

unfoldable pub passes : Sieve → Key → Bool
passes s k =
    is_within s.destination k.destination
    && is_within s.source k.source
    && is_within s.destination_port k.destination_port
    && if_set (λ n. k.protocol == n) s.protocol
    && if_set (direction_eq k.direction) s.direction
    && if_set (of_family k.from) s.family
