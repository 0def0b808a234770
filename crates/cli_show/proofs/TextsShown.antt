-- Texts that are shown give the configuration.
use Rattle.std.proofs.Common.{◌≡◌, ◌∙◌, ℕ, false, List, map, Option, Some, Result, Ok, Err, Vec, Global, sym, ap, subst}
use Rattle.std.specs.Prelude.{IfOk, IfSome}
use Rattle.std.proofs.lemmas.Bool.{false≢true}
use Rattle.pf_config.specs.Map.{Configuration}
use Rattle.pf_dump.specs.Done.{AreDoneTo}
use Rattle.pf_dump.specs.Texts.{Text}
use Rattle.pf_dump.specs.Written.{texts_of}
use Rattle.pf_dump.specs.Seen.{text_of}
use Rattle.pf_dump.specs.declared.path_texts.PathText.{PathText}
use Rattle.cli_show.specs.declared.shown.Shown.{Shown}
use Rattle.cli_show.specs.Texts.{shown_texts, ShowsTexts}
use Rattle.cli_show.specs.Writing.{OrNone}

pub texts_shown : {E : Type 0} (r : Result Shown E) (o : Option (Vec PathText Global)) (v : Vec PathText Global) (c : Configuration) (text : List ℕ) → o ≡ Some v →
    IfSome o (λ ts. map text_of ts.items ≡ texts_of c) → IfSome o (λ ts. AreDoneTo (map text_of ts.items) c) → text ≡ shown_texts (map text_of v.items) →
    IfOk r (λ s. s.bytes.items ≡ text) → IfOk r (λ s. s.refused ≡ false) → IfOk r (λ s. OrNone s (ShowsTexts c) (AreDoneTo (texts_of c) c))
texts_shown (Err e) o v c text is texts done same bytes plain = tt
texts_shown (Ok s) o v c text is texts done same bytes plain =
    let t : map text_of v.items ≡ texts_of c = subst (λ (x : Option (Vec PathText Global)). IfSome x (λ ts. map text_of ts.items ≡ texts_of c)) is texts in
    let d : AreDoneTo (map text_of v.items) c = subst (λ (x : Option (Vec PathText Global)). IfSome x (λ ts. AreDoneTo (map text_of ts.items) c)) is done in (
      λ e. (subst (λ (ts : List Text). AreDoneTo ts c) t d, bytes ∙ same ∙ ap shown_texts t),
      λ e. absurd (false≢true (sym plain ∙ e)),
    )
