-- What went over a socket in memory.
use Rattle.std.specs.Prelude.{◌≡◌, ℕ, List, [], ◌∷◌, map, take, Option, Some, None, IfSome, if◌then◌else◌}
use Rattle.std.specs.declared.net.socket_addr.SocketAddr.{SocketAddr}
use Rattle.node_udp.specs.Sockets.{SocketEvent, Came, Went}
use Rattle.trial_datagrams.specs.declared.memory_socket.MemorySocket.{MemorySocket}

-- the datagrams that came so far, in order, each with where it came from
abbrev pub came_of : MemorySocket → List (SocketAddr × List ℕ)
came_of s = take s.next (map (λ d. (d.0, d.1.items)) s.coming.items)

-- what it has of what it was handed, in order
abbrev pub kept_of : MemorySocket → List (SocketAddr × List ℕ)
kept_of s = map (λ d. (d.0, d.1.items)) s.went.items

-- what it was handed so far; none once out of memory
abbrev pub went_of : MemorySocket → Option (List (SocketAddr × List ℕ))
went_of s = if s.is_whole then Some (kept_of s) else None

-- of what went over a socket, what came
abbrev pub came_in : List SocketEvent → List (SocketAddr × List ℕ)
came_in [] = []
came_in (Came from bytes ∷ es) = (from, bytes) ∷ came_in es
came_in (Went to bytes ∷ es) = came_in es

-- and what went
abbrev pub went_in : List SocketEvent → List (SocketAddr × List ℕ)
went_in [] = []
went_in (Came from bytes ∷ es) = went_in es
went_in (Went to bytes ∷ es) = (to, bytes) ∷ went_in es

-- this went over it: what it received, and, while memory has that, what it was handed
pub record WentOver (s : MemorySocket) (es : List SocketEvent) : Type 0 where
  pub came : came_in es ≡ came_of s
  pub went : IfSome (went_of s) (λ all. went_in es ≡ all)
