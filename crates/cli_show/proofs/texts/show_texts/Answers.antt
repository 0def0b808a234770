use Rattle.std.proofs.Common.{◌≡◌, ◌∙◌, ◌++◌, [], List, ap, sym, map, drop, arith, rules, Ok, string_bytes}
use Rattle.std.proofs.lemmas.List.{append-nil, drop_all}
use Rattle.pf_dump.specs.declared.path_texts.PathText.{PathText}
use Rattle.pf_dump.specs.Seen.{text_of}
use Rattle.cli_show.specs.Texts.{shown_texts}
use Rattle.cli_show.proofs.TextsShown.{texts_shown}
use Rattle.cli_show.proofs.texts.show_texts.Goals as goal

pub returns : goal.returns
returns c =
    let rulesets = c.as_slice-rulesets.result.now in
    let none : drop c.loop-text.text-index rulesets ≡ [] = drop_all c.loop-text.text-index rulesets (omega (arith, c.loop-text-test.false)) in
    let out : string_bytes c.loop-text.out ≡ shown_texts (map text_of rulesets) =
    sym (ap (λ (ts : List PathText). string_bytes c.loop-text.out ++ shown_texts (map text_of ts)) none ∙ append-nil (string_bytes c.loop-text.out)) ∙ c.loop-text.invariant in
    texts_shown {E = Unit {0}} (Ok c.new.result) c.in_ok-texts.field-0 c.in-Some.texts c.args.config.now _ c.in-Some.is c.in_ok-texts.ensures.texts c.in_ok-texts.ensures.done
    (out ∙ ap (λ l. shown_texts (map text_of l)) c.as_slice-rulesets.ensures.value) (search rules) (search rules)
