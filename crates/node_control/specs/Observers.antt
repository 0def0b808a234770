-- What an observer begins with.
use Rattle.std.specs.Prelude.{◌≡◌, ℕ, suc, zero, ◌==◌, Bool, false, List, [], ◌∷◌, ◌++◌, None, replicate, if◌then◌else◌}
use Rattle.px_wire.specs.declared.membership.Membership.{Membership}
use Rattle.node_control.specs.declared.hearing.Hearing.{Hearing}
use Rattle.node_control.specs.declared.observer.Observer.{Observer}
use Rattle.node_control.specs.declared.observer.Row.{Row}

-- nothing was counted of a member yet
abbrev pub first_row : (node : ℕ) → Row
first_row node = record {
  node = node;
  heard = None;
  datagrams_in = 0;
  datagrams_out = 0;
  shown = 0;
  earlier = 0 ∷ (0 ∷ (0 ∷ []));
}

-- a row for each of n members but this one
abbrev pub first_rows : (me n : ℕ) → List Row
first_rows me zero = []
first_rows me (suc n) = first_rows me n ++ (if n == me then [] else first_row n ∷ [])

-- nobody was heard yet, and nothing was logged
abbrev pub unheard : Membership → (is_quiet : Bool) → Hearing
unheard m is_quiet = record {
  m = m;
  heard = replicate 15 0;
  is_said = false;
  others = 0;
  lacking = None;
  is_ending = false;
  is_quiet = is_quiet;
}

-- whether datagrams go in packets, and whether only warnings are logged
abbrev pub has_packets_of : Observer → Bool
has_packets_of o = o.has_packets

abbrev pub is_quiet_of : Observer → Bool
is_quiet_of o = o.hearing.is_quiet

-- it has seen nothing of this member
pub record HasSeenNothing (m : Membership) (o : Observer) : Type 0 where
  pub rows : o.rows.items ≡ first_rows m.me m.members
  pub counted : (o.unsent ≡ 0) × (o.dropped ≡ 0) × (o.ignored ≡ 0) × (o.outrun ≡ 0) × (o.large ≡ 0)
  pub round : (o.came ≡ 0) × (o.now ≡ 0) × (o.sampled ≡ 0)
  pub front : (o.front ≡ 0) × (o.since ≡ None) × (o.proposed ≡ None)
  pub hearing : o.hearing ≡ unheard m (is_quiet_of o)
