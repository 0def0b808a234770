use Rattle.std.proofs.Common.{rules, ◌≡◌, ◌∙◌, ◌++◌, ◌∷◌, [], List, map, sym, ap, subst}
use Rattle.std.proofs.lemmas.List.{map_push}
use Rattle.pf_rules.specs.Rulesets.{TableValue, table_of}
use Rattle.pf_rules.specs.declared.ruleset.TableDef.{TableDef}
use Rattle.pf_expansion.specs.inner.Tables.{AreNames}
use Rattle.pf_expansion.proofs.Named.{names_more}
use Rattle.pf_expansion.proofs.defined_tables.DefinedTables.push.Goals as goal

pub invariant_of-self-in-Ok : goal.invariant_of-self-in-Ok
invariant_of-self-in-Ok c =
    let ts = map table_of c.args.self.now.all.items in
    let t = table_of c.args.table in
    let more : map table_of c.push.new.self.items ≡ ts ++ t ∷ [] = ap (λ (ds : List TableDef). map table_of ds) c.in_ok-push.ensures.items ∙ map_push table_of c.args.self.now.all.items c.args.table in
    let same : c.in_ok-name.name.items ≡ t.name = search rules in
    record {
      known = subst (λ (us : List TableValue). AreNames c.insert.new.self us) (sym more)
          (names_more ts t c.args.self.now.names c.insert.new.self c.in_ok-name.name same c.in-Ok.ensures.updates c.args.self.now.known);
    }
