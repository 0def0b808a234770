-- From contents back to paths, and from tables to their names.
use Rattle.std.proofs.Common.{◌≡◌, List, [], ◌∷◌, Option, map, sym, ap, ◌∙◌, refl}
use Rattle.pf_rules.specs.Names.{Name}
use Rattle.pf_tables.specs.Tables.{TableValue}
use Rattle.pf_config.specs.Map.{Configuration, Path, paths_in, table_names}
use Rattle.pf_dump.specs.Contents.{Content, content_at, contents, tables_named, tables_of}

paths_back : (c : Configuration) (ps : List Path) → map (λ (x : Content). x.path) (map (content_at c) ps) ≡ ps
paths_back c [] = refl
paths_back c (p ∷ ps) = ap (λ qs. p ∷ qs) (paths_back c ps)

pub paths_same : (c d : Configuration) → contents c ≡ contents d → paths_in c.anchors ≡ paths_in d.anchors
paths_same c d e =
    sym (paths_back c (paths_in c.anchors)) ∙ ap (map (λ (x : Content). x.path)) e ∙ paths_back d (paths_in d.anchors)

names_back : (c : Configuration) (p : Path) (ns : List Name) →
    map (λ (x : Name × Option TableValue). x.0) (tables_named c p ns) ≡ ns
names_back c p [] = refl
names_back c p (n ∷ ns) = ap (λ ms. n ∷ ms) (names_back c p ns)

pub names_same : (c d : Configuration) (p : Path) → tables_of c p ≡ tables_of d p → table_names c p ≡ table_names d p
names_same c d p e =
    sym (names_back c p (table_names c p)) ∙ ap (map (λ (x : Name × Option TableValue). x.0)) e
    ∙ names_back d p (table_names d p)
