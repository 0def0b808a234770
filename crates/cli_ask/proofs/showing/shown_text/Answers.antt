-- one character more
use Rattle.std.proofs.Common.{◌≡◌, ◌++◌, ◌∷◌, ◌∙◌, List, ℕ, append_assoc, append-nil, ap, sym}
use Rattle.std.specs.List.{flat_map}
use Rattle.std.proofs.lemmas.Str.{IsUtf8-past_char, chars_past_char}
use Rattle.std.proofs.StrCases.{chars_of_empty}
use Rattle.cli_ask.specs.Showing.{shown_char}
use Rattle.cli_ask.proofs.showing.shown_text.Goals as goal

one_more : (out more cs rest whole : List ℕ) (c : ℕ) → more ≡ out ++ shown_char c → cs ≡ c ∷ rest → out ++ flat_map shown_char cs ≡ whole → more ++ flat_map shown_char rest ≡ whole
one_more out more cs rest whole c e f h =
    ap (λ (s : List ℕ). s ++ flat_map shown_char rest) e ∙ append_assoc out (shown_char c) (flat_map shown_char rest)
    ∙ ap (λ (s : List ℕ). out ++ flat_map shown_char s) (sym f) ∙ h

pub loop-c-preserved : goal.loop-c-preserved
loop-c-preserved c =
    let held = c.loop-c.invariant in
    let parts = c.in-Some.ensures.steps.0 in (
      IsUtf8-past_char _ _ c.in-Some.c held.0 parts,
      one_more _ _ _ _ _ c.in-Some.c c.in_ok-push_shown.ensures (chars_past_char _ _ c.in-Some.c held.0 parts) held.1,
    )

pub returns : goal.returns
returns c = rw (chars_of_empty _ c.in-None.ensures.steps.0.0, append-nil) at c.loop-c.invariant.1
