-- What was written is what there was to write.
use Rattle.std.proofs.Common.{◌≡◌, ◌∙◌, ℕ, Bool, true, false, List, Option, Some, Result, Ok, Err, sym, ap, subst}
use Rattle.std.specs.Prelude.{OnOk, OnErr}
use Rattle.cli_io.specs.Written.{AppendsFront}
use Rattle.nft_rules.specs.declared.guard.Member.{Member}
use Rattle.cli_follow.specs.declared.followed_configuration.FollowedConfiguration.{FollowedConfiguration}
use Rattle.cli_follow.specs.declared.kernel.Kernel.{Kernel}
use Rattle.cli_follow.specs.Output.{Follower, Given, AsksEntries, written_to}
use Rattle.cli_follow.specs.Following.{followed_of}
use Rattle.cli_follow.specs.inner.Seen.{Wrote, Written, given_of, members_of, last_of, wanted_for, loads_of}

-- with these lines' place, before it is written and then
abbrev before : FollowedConfiguration → Option Kernel → Bool → (asks : ℕ) → Follower
before f o begun asks = record { followed = followed_of f; members = members_of o; last = last_of o; has_begun = begun; asks = asks }

abbrev still : FollowedConfiguration → FollowedConfiguration
still f = record { config = f.config; position = f.position; is_moved = false }

abbrev then : FollowedConfiguration → List Member → Option Given → (asks : ℕ) → Follower
then f ms last asks = record { followed = followed_of (still f); members = ms; last = last; has_begun = true; asks = asks }

wrote_some : {T E : Type 0} (r : Result T E) (n m : Kernel) (f : FollowedConfiguration) (begun : Bool) (a b : Option (List ℕ)) →
    m.members ≡ n.members → OnOk r (Wrote n m (still f) a b) →
    OnOk r ((asks : ℕ) → Written (written_to (wanted_for (Some n)).machine (before f (Some n) begun asks)) (before (still f) (Some m) true asks) a b)
wrote_some (Err e) n m f begun a b same h = tt
wrote_some (Ok u) n m f begun a b same h = λ asks. (
  ap (λ (l : Option Given). AsksEntries (then f n.members.items l asks)) (sym h.0)
      ∙ ap (λ v. AsksEntries (then f v.items (given_of m.last) asks)) (sym same),
  h.1,
)

pub wrote : {T E : Type 0} (r : Result T E) (o : Option Kernel) (n m : Kernel) (f : FollowedConfiguration) (begun : Bool) (a b : Option (List ℕ)) → o ≡ Some n →
    m.members ≡ n.members → OnOk r (Wrote n m (still f) a b) →
    OnOk r ((asks : ℕ) → Written (written_to (wanted_for o).machine (before f o begun asks)) (before (still f) (Some m) true asks) a b)
wrote r o n m f begun a b is same h =
    subst (λ (p : Option Kernel). OnOk r ((asks : ℕ) → Written (written_to (wanted_for p).machine (before f p begun asks)) (before (still f) (Some m) true asks) a b)) (sym is)
    (wrote_some r n m f begun a b same h)

fronts_some : {T E : Type 0} (r : Result T E) (n : Kernel) (f : FollowedConfiguration) (begun : Bool) (a b : Option (List ℕ)) → OnErr r (AppendsFront a b (loads_of n (still f)).lines) →
    OnErr r ((asks : ℕ) → AppendsFront a b (written_to (wanted_for (Some n)).machine (before f (Some n) begun asks)).out)
fronts_some (Ok u) n f begun a b h = tt
fronts_some (Err e) n f begun a b h = λ asks. h

pub fronts : {T E : Type 0} (r : Result T E) (o : Option Kernel) (n : Kernel) (f : FollowedConfiguration) (begun : Bool) (a b : Option (List ℕ)) → o ≡ Some n → OnErr r (AppendsFront a b (loads_of n (still f)).lines) →
    OnErr r ((asks : ℕ) → AppendsFront a b (written_to (wanted_for o).machine (before f o begun asks)).out)
fronts r o n f begun a b is h =
    subst (λ (p : Option Kernel). OnErr r ((asks : ℕ) → AppendsFront a b (written_to (wanted_for p).machine (before f p begun asks)).out)) (sym is) (fronts_some r n f begun a b h)
