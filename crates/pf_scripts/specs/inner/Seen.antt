-- What only code and proofs use beside `Seen`.
use Rattle.std.specs.Prelude.{◌≡◌, ℕ, List, ◌++◌, map, Option, option_map, String, string_bytes}
use Rattle.clap.specs.Words.{Row, rows_of, found_of}
use Rattle.clap.specs.declared.parser.matches.ArgMatches.{ArgMatches}
use Rattle.pf_config.specs.Map.{Configuration}
use Rattle.pf_scripts.specs.declared.waiting.Waiting.{Waiting}
use Rattle.pf_scripts.specs.Ctl.{WaitingWords, StepValue, Outcome, PrintedValue}

abbrev pub waiting_of : Waiting → WaitingWords
waiting_of w = record { words = map (λ x. x.now) w.words.items; text = w.text.items }

-- the rows of matches, none where there are none
abbrev pub rows_matched : Option ArgMatches → Option (List Row)
rows_matched matches = option_map (λ m. rows_of (found_of m)) matches

-- a line was done so: this is the configuration now, and this is printed
abbrev pub Does : Outcome → Configuration → PrintedValue → Type 0
Does outcome new printed = (new ≡ outcome.configuration) × (printed ≡ outcome.printed)

-- a step was made so, and what is printed has grown
abbrev pub Steps : StepValue → Configuration → Option WaitingWords → (before after : List PrintedValue) → Type 0
Steps s new waiting before after = (new ≡ s.configuration) × (waiting ≡ s.waiting) ×
    (after ≡ before ++ s.printed)

abbrev pub texts_of : {Z : Type 0} → List (String Z) → List (List ℕ)
texts_of texts = map string_bytes texts
