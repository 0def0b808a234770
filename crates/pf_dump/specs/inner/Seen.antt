-- What a step of a script leaves, and what a rule opens.
use Rattle.std.specs.Prelude.{◌≡◌, Bool, true, false, Option, None, Some, option_map}
use Rattle.std.specs.Borrow.{Bor}
use Rattle.std.specs.Option.{option_copied}
use Rattle.pf_rules.specs.Names.{Name}
use Rattle.pf_config.specs.Map.{Configuration}
use Rattle.pf_scripts.specs.declared.waiting.Waiting.{Waiting}
use Rattle.pf_scripts.specs.Ctl.{StepValue}
use Rattle.pf_scripts.specs.inner.Seen.{waiting_of}
use Rattle.pf_dump.specs.Done.{Place}
use Rattle.pf_dump.specs.Written as text

-- the configuration is this now, and this waits for the end of its text
abbrev pub StepsTo : StepValue → Configuration → Option Waiting → Type 0
StepsTo s new waiting = (new ≡ s.configuration) × (option_map waiting_of waiting ≡ s.waiting)

-- the configuration is that now, none where the line was no change
abbrev pub IsDone : Option Configuration → Bool → Configuration → Type 0
IsDone None goes new = goes ≡ false
IsDone (Some c) goes new = (goes ≡ true) × (new ≡ c)

-- the place where a script is now, none where the line was no change
abbrev pub IsPlace : Option Place → Configuration → Option (Option Waiting) → Type 0
IsPlace None new step = step ≡ None
IsPlace (Some s) new None = ⊥
IsPlace (Some s) new (Some waiting) = (new ≡ s.configuration) × (option_map waiting_of waiting ≡ s.waiting)

-- what a rule opens: nothing, or a block that no command names, of an unnamed one with its name
abbrev pub opens_of : Option (Option (Bor Name)) → text.Opens
opens_of None = text.Closed
opens_of (Some unnamed) = text.Block (option_copied unnamed)
