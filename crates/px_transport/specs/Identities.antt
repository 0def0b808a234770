-- Whose wire it is: what stays the same whatever goes over it.
use Rattle.std.specs.Prelude.{ℕ, List, Option, Some, None}
use Rattle.px_transport.specs.Sending.{Sealer}

-- what a wire is made with
pub record Identity : Type 0 where
  -- the member whose datagrams to itself the wire keeps and gives back, if it does
  pub me : Option ℕ
  -- the keys with which it opens packets, and who seals them, if it is a wire of packets
  pub sealing : Option (List (List ℕ) × Sealer)
  -- the members' addresses, as they are shown, and which member's datagrams go there, if it has a socket
  pub route : Option (List (List ℕ) × ℕ)

-- it keeps no datagrams, seals none, and has no socket
abbrev pub plain : Identity
plain = record { me = None; sealing = None; route = None }

-- it keeps this member's
abbrev pub with_me : ℕ → Identity → Identity
with_me m i = record i { me = Some m }

-- what it is handed goes to these addresses, for this member
abbrev pub with_route : (places : List (List ℕ)) → (me : ℕ) → Identity → Identity
with_route places me i = record i { route = Some (places, me) }

-- its packets are opened with these keys, and sealed so
abbrev pub with_sealing : List (List ℕ) → Sealer → Identity → Identity
with_sealing keys s i = record i { sealing = Some (keys, s) }
