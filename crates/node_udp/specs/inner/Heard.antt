-- Where the last datagram came from.
use Rattle.std.specs.Prelude.{ℕ, ◌==◌, if◌then◌else◌, Option, Some}
use Rattle.std.specs.declared.net.socket_addr.SocketAddr.{SocketAddr}

-- where the last datagram came from of which any byte was given, once n bytes of one from there were
abbrev pub last_after : (from : SocketAddr) → (n : ℕ) → (was : Option SocketAddr) → Option SocketAddr
last_after from n was = if n == 0 then was else Some from
