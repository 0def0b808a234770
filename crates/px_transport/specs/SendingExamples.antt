-- Worked examples of what is sent.
use Rattle.std.specs.Prelude.{◌≡◌, length, [], ◌∷◌, refl}
use Rattle.px_packet.specs.declared.start.Start.{Start}
use Rattle.px_transport.specs.Sending.{Sealer, new_to, to_member, next_state, stated, lacked, state, counted}
use Rattle.px_transport.specs.Sending.{counted_all}
use Rattle.px_transport.specs.Sending.{refilled, refilled_for, burst, time_left}
use Rattle.px_transport.specs.Wiring.{upkeep}

abbrev start : Start
start = record { number = 4; salt = 7 }

abbrev other : Start
other = record { number = 5; salt = 1 }

-- member 0 of three
abbrev member : Sealer
member = record { cluster = 7; members = 3; me = 0; start = start; key = [] }

-- a receiver that has piece 1 of three lacks 0 and 2
pub lacks_two : lacked 2 0 3 ≡ 0 ∷ 2 ∷ []
lacks_two = refl

-- two packets for member 1 and one for member 2: each has its own counters
pub counts_each : (to_member (counted_all (new_to ∷ new_to ∷ new_to ∷ [])
    (state 1 start ∷ state 2 start ∷ state 1 start ∷ [])) 1).counter ≡ 2
counts_each = refl

-- a state is due at once, and then after a second, or after 20 ms where the receiver showed a new start
pub first_state : next_state new_to start ≡ 0
first_state = refl

pub next_second : next_state (stated 5 start new_to) start ≡ 1005
next_second = refl

pub new_start : next_state (stated 5 start new_to) other ≡ 25
new_start = refl

-- towards each of two others a state and 8 reports are looked at
pub two_others : length (upkeep member) ≡ 18
two_others = refl

-- after 91 packets one piece more may go, and 5 ms after the first packets 92 again
pub one_is_left : length (burst (record new_to { left = 1 } ∷ []) 0 (state 0 start ∷ state 0 start ∷ [])) ≡ 1
one_is_left = refl

pub each_packet_counts : (counted (record new_to { left = 1 })).left ≡ 0
each_packet_counts = refl

pub early : (refilled 4 (record new_to { left = 0 })).left ≡ 0
early = refl

pub all_again : (to_member (refilled_for (record new_to { left = 0 } ∷ []) 0 5) 0).left ≡ 92
all_again = refl

-- something that is due at 20 ms: at 7 ms 13 of 100 are left, at 30 none
pub thirteen_left : time_left 20 7 100 ≡ 13
thirteen_left = refl

pub none_left : time_left 20 30 100 ≡ 0
none_left = refl
