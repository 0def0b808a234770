use Rattle.std.proofs.Common.{drop, ◌≡◌, map}
use Rattle.pf_dump.specs.Contents.{content_at}
use Rattle.pf_dump.proofs.same.same_at_all.Given as goal

-- where the rests are the same, and only there, all is
abbrev pub invariant-loop-path : goal.invariant-loop-path
invariant-loop-path l = record {
  all : map (content_at l.a) (map (λ x. x.now) (drop l.path-index l.paths)) ≡ map (content_at l.b) (map (λ x. x.now) (drop l.path-index l.paths))
      → map (content_at l.a) (map (λ x. x.now) l.paths) ≡ map (content_at l.b) (map (λ x. x.now) l.paths);
  back : map (content_at l.a) (map (λ x. x.now) l.paths) ≡ map (content_at l.b) (map (λ x. x.now) l.paths)
      → map (content_at l.a) (map (λ x. x.now) (drop l.path-index l.paths)) ≡ map (content_at l.b) (map (λ x. x.now) (drop l.path-index l.paths));
}
