-- What the arguments ask for, and how a run ends.
use Rattle.std.proofs.Common.{◌≡◌, ◌∙◌, ℕ, List, Option, Some, None, Result, Ok, Err, refl, ap, subst, codes, unwrap_or, inl, inr}
use Rattle.std.specs.Str.Parse.{ParsesUnsigned}
use Rattle.std.proofs.KnownBytes.{Appends-nil}
use Rattle.clap.specs.Words.{Row, ReadsOne, Text, one_of, one_text, rows_of}
use Rattle.clap.specs.declared.parser.matches.Found.{Found}
use Rattle.clap.proofs.WalkLemmas.{one_text-rows}
use Rattle.cli_io.specs.declared.status.Status.{Status}
use Rattle.cli_io.specs.declared.status.Status.TheVariants as status
use Rattle.cli_follow.specs.Exchanges.{Exchange}
use Rattle.cli_follow.specs.Files.{Act}
use Rattle.cli_follow.specs.Places.{AreTurns, FollowedBy, FollowedTo, IsEnding, IsNoEnding, IsRefusedWith, IsWantedBy}
use Rattle.cli_follow.specs.declared.follower.WriteFault.TheVariants as fault
use Rattle.cli_follow.specs.declared.places.Places.{Places}
use Rattle.cli_follow.proofs.Runs.{adds_nothing}

pub turns_are : {E : Type 0} (gives : List ℕ → Result ℕ E → Type 0) (text : Option (List ℕ)) (r : Option ℕ) (n : ℕ) → (text ≡ None → r ≡ None) →
    ((t : List ℕ) → text ≡ Some t → ReadsOne gives t r) → ((t : List ℕ) (x : Result ℕ E) → gives t x → ParsesUnsigned 64 10 t x) →
    n ≡ unwrap_or r 18446744073709551615 → AreTurns text n
turns_are gives None r n none some f is = is ∙ ap (λ o. unwrap_or o 18446744073709551615) (none refl)
turns_are gives (Some t) (Some v) n none some f is = λ digits fits. is ∙ (f t (Ok v) (some t refl)).1
turns_are gives (Some t) None n none some f is = let w = some t refl in λ digits fits. absurd (f t (Err w.0) w.1 (digits, fits))

-- as the rows have them
pub in_rows : (found : Found) (n : ℕ) → AreTurns (one_text found (codes "turns")) n → AreTurns (one_of (codes "turns") (rows_of found)) n
in_rows found n h = subst (λ (o : Option Text). AreTurns o n) (one_text-rows found (codes "turns")) h

-- a run to these places
pub to_places : (x y : List Exchange → Type 0) (u v : List Act → Type 0) (has : (path text : List ℕ) → Type 0) (rows : List Row) (p : Places) (turns : ℕ) (s : Status) (a b : Option (List ℕ)) → IsWantedBy has rows p →
    FollowedTo x y u v p turns s a b → FollowedBy x y u v has rows turns s a b
to_places x y u v has rows p turns s a b wanted followed = inl (p, (wanted, followed))

-- none, for a refusal
pub refused_first : (x : List Exchange → Type 0) (u : List Act → Type 0) (has : (path text : List ℕ) → Type 0) (rows : List Row) (turns : ℕ) (code : ℕ) (s : Status) (a : Option (List ℕ)) → IsRefusedWith rows code → IsNoEnding s →
    FollowedBy x x u u has rows turns s a a
refused_first x u has rows turns code s a why ending = inr (adds_nothing x, (adds_nothing u, (Appends-nil a, (ending, λ e. (code, why)))))

no_ending : (rows : List Row) (s : Status) → IsEnding (Err fault.Memory) s → IsNoEnding s × ((s ≡ status.Refused) → (code : ℕ) × IsRefusedWith rows code)
no_ending rows status.Done h = (inr h, λ e. absurd cc)
no_ending rows status.Refused (inl h) = absurd cc
no_ending rows status.Refused (inr h) = absurd cc
no_ending rows status.Usage h = (inr h, λ e. absurd cc)
no_ending rows status.Memory h = (inr h, λ e. absurd cc)
no_ending rows status.Failed h = (inr h, λ e. absurd cc)

-- none, when out of memory
pub no_memory : (x : List Exchange → Type 0) (u : List Act → Type 0) (has : (path text : List ℕ) → Type 0) (rows : List Row) (turns : ℕ) (s : Status) (a : Option (List ℕ)) → IsEnding (Err fault.Memory) s →
    FollowedBy x x u u has rows turns s a a
no_memory x u has rows turns s a ending = inr (adds_nothing x, (adds_nothing u, (Appends-nil a, no_ending rows s ending)))
