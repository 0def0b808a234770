use Rattle.std.proofs.Common.{rules, ◌≡◌, ◌∙◌, ◌++◌, ◌∷◌, [], List, length, map, sym, ap, subst}
use Rattle.std.proofs.lemmas.List.{map_push, length-map}
use Rattle.pf_tokens.specs.declared.macro_text.Macro.{Macro}
use Rattle.pf_tokens.specs.Macros.{Definition}
use Rattle.pf_tokens.specs.Defined.{definition_of}
use Rattle.pf_tokens.specs.inner.Indexed.{IsIndex, IsWithin}
use Rattle.pf_tokens.proofs.Indexing.{index_more, within_more}
use Rattle.pf_tokens.proofs.macros.Macros.push.Goals as goal

pub invariant_of-self-in-Ok : goal.invariant_of-self-in-Ok
invariant_of-self-in-Ok c =
    let ds = map definition_of c.args.self.now.all.items in
    let d = definition_of c.args.made in
    let more : map definition_of c.push.new.self.items ≡ ds ++ d ∷ [] = ap (λ (ms : List Macro). map definition_of ms) c.in_ok-push.ensures.items ∙ map_push definition_of c.args.self.now.all.items c.args.made in
    let same : c.in_ok-name.name.items ≡ d.name = search rules in
    let count : c.len-at.result ≡ length c.args.self.now.all.items = search rules in
    let len : c.len-at.result ≡ length ds = count ∙ sym (length-map c.args.self.now.all.items definition_of) in
    let last = c.args.self.now.last in
    record {
      found = subst (λ (es : List Definition). IsIndex es c.insert.new.self) (sym more) (index_more ds d last c.insert.new.self c.args.self.now.within c.in_ok-name.name c.len-at.result same len c.in-Ok.ensures.updates c.args.self.now.found);
      within = subst (λ (es : List Definition). IsWithin es c.insert.new.self) (sym more) (within_more ds d last c.insert.new.self c.args.self.now.within c.in_ok-name.name c.len-at.result same len c.in-Ok.ensures.updates);
    }
