use Rattle.std.proofs.Common.{drop, ◌≡◌, map}
use Rattle.pf_dump.specs.Contents.{tables_named}
use Rattle.pf_dump.proofs.same.same_named.Given as goal

-- where the rests are the same, and only there, all is
abbrev pub invariant-loop-name : goal.invariant-loop-name
invariant-loop-name l = record {
  all : tables_named l.a l.path (map (λ x. x.now) (drop l.name-index l.names)) ≡ tables_named l.b l.path (map (λ x. x.now) (drop l.name-index l.names))
      → tables_named l.a l.path (map (λ x. x.now) l.names) ≡ tables_named l.b l.path (map (λ x. x.now) l.names);
  back : tables_named l.a l.path (map (λ x. x.now) l.names) ≡ tables_named l.b l.path (map (λ x. x.now) l.names)
      → tables_named l.a l.path (map (λ x. x.now) (drop l.name-index l.names)) ≡ tables_named l.b l.path (map (λ x. x.now) (drop l.name-index l.names));
}
