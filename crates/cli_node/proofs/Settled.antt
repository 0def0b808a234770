-- What `node` gives with its settings.
use Rattle.std.proofs.Common.{◌≡◌, ◌∙◌, ℕ, Bool, true, false, List, [], ◌∷◌, ◌++◌, Option, Some, None, ap, inr}
use Rattle.std.proofs.Common.{append-nil, subst, sym}
use Rattle.std.proofs.lemmas.List.Elements.{All-push}
use Rattle.std.specs.List.{All}
use Rattle.std.specs.Prelude.{option_map, unwrap_or, codes}
use Rattle.clap.specs.Words.{Row, first_of}
use Rattle.cli_files.specs.declared.settings.NodeFile.{NodeFile}
use Rattle.cli_node.specs.declared.node.NodeArguments.{NodeArguments}
use Rattle.cli_node.specs.declared.outcome.Outcome.{Outcome}
use Rattle.cli_node.specs.declared.outcome.Outcome.TheVariants.{Refused}
use Rattle.cli_node.specs.Doing.{Adds, GaveSo, NodeEvent, Ran, Checked}
use Rattle.cli_node.specs.Settled.{AreSettings, IsDone, IsNode, IsSettledOr, members_for}

-- what is given goes before what else there is
pub given_first : {A B : Type 0} (f : B → A) (P : A → Type 0) (r : Option B) (x : B) (given : Option A) (other : A) →
    r ≡ Some x → option_map f r ≡ given → P (f x) → P (unwrap_or given other)
given_first f P r x given other is of h = subst (λ o. P (unwrap_or o other)) (sym (ap (option_map f) is) ∙ of) h

pub none_given : {A B : Type 0} (f : B → A) (P : A → Type 0) (r : Option B) (given : Option A) (other : A) →
    r ≡ None → option_map f r ≡ given → P other → P (unwrap_or given other)
none_given f P r given other is of h = subst (λ o. P (unwrap_or o other)) (sym (ap (option_map f) is) ∙ of) h

-- nothing was added
pub none_added : {E : Type 0} (P : List E → Type 0) → Adds P P []
none_added P es h = subst P (sym (append-nil es)) h

-- what the settings of a file give
pub with_settings : (did : List NodeEvent → Type 0) (has : (path text : List ℕ) → Type 0) (rows : List Row)
    (file : NodeFile) (outcome : Outcome) → AreSettings has (first_of (codes "config") rows) file →
    IsSettledOr did rows file (members_for rows file) outcome → IsNode did has rows outcome
with_settings did has rows file outcome are settled = inr (file, (are, settled))

-- a node is checked, run, or neither
pub is_checked : (did : List NodeEvent → Type 0) (code : ℕ) (is_whole is_check : Bool) (w : NodeArguments)
    (outcome : Outcome) → is_whole ≡ true → is_check ≡ true → did (Checked w outcome ∷ []) →
    IsDone did code is_whole is_check w outcome
is_checked did code is_whole is_check w outcome e f h = rw (e, f) h

pub is_run : (did : List NodeEvent → Type 0) (code : ℕ) (is_whole is_check : Bool) (w : NodeArguments)
    (outcome : Outcome) → is_whole ≡ true → is_check ≡ false → did (Ran w outcome ∷ []) →
    IsDone did code is_whole is_check w outcome
is_run did code is_whole is_check w outcome e f h = rw (e, f) h

pub is_halved : (did : List NodeEvent → Type 0) (code : ℕ) (is_whole is_check : Bool) (w : NodeArguments)
    (outcome : Outcome) → is_whole ≡ false → did [] → outcome ≡ Refused code →
    IsDone did code is_whole is_check w outcome
is_halved did code is_whole is_check w outcome e none h = rw e (none, h)

-- one run more
pub ran_so : (ran checked : NodeArguments → Outcome → Type 0) (es : List NodeEvent) (w : NodeArguments)
    (outcome : Outcome) → All (GaveSo ran checked) es → ran w outcome →
    All (GaveSo ran checked) (es ++ Ran w outcome ∷ [])
ran_so ran checked es w outcome h r = All-push (GaveSo ran checked) es (Ran w outcome) h r

pub checked_so : (ran checked : NodeArguments → Outcome → Type 0) (es : List NodeEvent) (w : NodeArguments)
    (outcome : Outcome) → All (GaveSo ran checked) es → checked w outcome →
    All (GaveSo ran checked) (es ++ Checked w outcome ∷ [])
checked_so ran checked es w outcome h r = All-push (GaveSo ran checked) es (Checked w outcome) h r
