-- What values of the code stand for.
use Rattle.std.specs.Prelude.{◌≡◌, ℕ, Bool, true, false, List, [], Option, Some, None, option_map}
use Rattle.std.specs.Io.KnownBytes.{Appends}
use Rattle.nft_rules.specs.Seen.{machine_of}
use Rattle.nft_rules.specs.declared.guard.Member.{Member}
use Rattle.nft_text.specs.Loading.{transactions_value}
use Rattle.cli_follow.specs.Following.{followed_of}
use Rattle.cli_follow.specs.Output.{Wanted, Follower, Given, Loads, Reached, AsksEntries, AsksStatus, Ended, loads}
use Rattle.cli_follow.specs.Output.{silent, stays}
use Rattle.cli_follow.specs.Output.{Stage, written_to, after}
use Rattle.cli_follow.specs.Exchanges.{Exchange, Adds}
use Rattle.cli_follow.specs.declared.followed_configuration.FollowedConfiguration.{FollowedConfiguration}
use Rattle.cli_follow.specs.declared.follower.Due.{Due}
use Rattle.cli_follow.specs.declared.follower.Due.TheVariants as due
use Rattle.cli_follow.specs.declared.follower.Follower as code
use Rattle.cli_follow.specs.declared.kernel.Kernel.{Kernel}
use Rattle.cli_follow.specs.declared.kernel.Loaded.{Loaded}

-- what was handed out last
abbrev pub given_of : Option Loaded → Option Given
given_of last = option_map (λ l. record { position = l.position; lines = transactions_value l.lines }) last

-- where lines are wanted: the members, what was given last, and what is wanted
abbrev pub members_of : Option Kernel → List Member
members_of None = []
members_of (Some n) = n.members.items

abbrev pub last_of : Option Kernel → Option Given
last_of None = None
last_of (Some n) = given_of n.last

abbrev pub wanted_for : Option Kernel → Wanted
wanted_for None = record { machine = None; is_guarded = false }
wanted_for (Some n) = record { machine = Some (machine_of n.interfaces.items); is_guarded = n.is_guarded }

abbrev pub wanted_of : code.Follower → Wanted
wanted_of f = wanted_for f.nft

-- after that many asks
abbrev pub follower_of : (asks : ℕ) → code.Follower → Follower
follower_of asks f = record {
  followed = followed_of f.followed;
  members = members_of f.nft;
  last = last_of f.nft;
  has_begun = f.has_begun;
  asks = asks;
}

-- what is reached where this is due
abbrev pub due_in : Wanted → Follower → Due → Reached
due_in w f due.More = silent f
due_in w f due.Rest = silent f
due_in w f (due.Nothing fault) = silent f
due_in w f due.Status = stays (AsksStatus f)
due_in w f due.Write = written_to w.machine f
due_in w f due.Another = stays Ended

-- what nft(8) is to load of what was followed
abbrev pub loads_of : Kernel → FollowedConfiguration → Loads
loads_of n f = loads (machine_of n.interfaces.items) n.members.items (given_of n.last) f.config f.position

-- it was written
abbrev pub Wrote : (old new : Kernel) → FollowedConfiguration → Option (List ℕ) → Option (List ℕ) → Type 0
Wrote old new f before after =
    (given_of new.last ≡ (loads_of old f).last) × Appends before after (loads_of old f).lines

-- what was reached is this, and was written
abbrev pub Written : Reached → Follower → Option (List ℕ) → Option (List ℕ) → Type 0
Written r f before after = (r.stage ≡ AsksEntries f) × Appends before after r.out

-- these answers lead from a stage to this
abbrev pub Leads : (given now : List Exchange → Type 0) → Wanted → Stage → Reached → Type 0
Leads given now w s r = (es : List Exchange) × Adds given now es × (after w s es ≡ Some r)

-- they lead somewhere
abbrev pub Fails : (given now : List Exchange → Type 0) → Wanted → Stage → Type 0
Fails given now w s = (r : Reached) × Leads given now w s r

-- what is asked for next where this was due and was written
abbrev pub stage_in : Follower → Due → Stage
stage_in f due.More = AsksEntries f
stage_in f due.Rest = AsksEntries f
stage_in f (due.Nothing fault) = AsksEntries f
stage_in f due.Status = AsksStatus f
stage_in f due.Write = AsksEntries f
stage_in f due.Another = Ended

-- nothing is asked for where the log is another
abbrev pub stage_if : (another : Bool) → Follower → Stage
stage_if true f = Ended
stage_if false f = AsksEntries f
