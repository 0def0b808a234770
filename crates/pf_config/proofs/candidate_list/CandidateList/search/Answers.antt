use Rattle.std.proofs.Common.{◌≡◌, ℕ, List, map, Some, None, refl, sym, subst, ◌∙◌}
use Rattle.pf_tables.specs.declared.row.Row.{Row}
use Rattle.pf_tables.specs.Rows.{Marks}
use Rattle.pf_config.specs.declared.candidate.Candidate.{Candidate}
use Rattle.pf_config.specs.Searches.{source_of, destination_of, port_of, AreMarked}
use Rattle.pf_config.proofs.candidate_list.CandidateList.search.Goals as goal
use Rattle.pf_config.proofs.candidate_list.CandidateList.search.Goals.{in-None, in-Some}

some_row : (x r : Row) → Some x ≡ Some r → x ≡ r
some_row x r e = cc

abbrev HasMarks : List Candidate → (a b p : ℕ) → Row → Type 0
HasMarks list a b p r = Marks (map source_of list) a r.source.now × Marks (map destination_of list) b r.destination.now × Marks (map port_of list) p r.destination_port.now

pub returns : goal.returns
returns c =
    let own = c.self.inside in
    let a = c.args.source in
    let b = c.args.destination in
    let p = c.args.destination_port in
    record {
      all = c.deref.ensures.value ∙ c.self.view_is;
      source = refl;
      destination = refl;
      destination_port = refl;
      sound = subst (λ (l : List Candidate). AreMarked l a b p c.match-self.row) (sym c.deref.ensures.value) (elim c.match-self.branch [
        | in-None w ↦ λ r is. (let bad : None ≡ Some r = sym w.row-is ∙ is in cc)
        | in-Some w ↦ λ r is.
            let same = some_row w.row.result r (sym w.row-is ∙ is) in
            let marks = w.row.ensures (map source_of own.list.items) (map destination_of own.list.items) (map port_of own.list.items) (c.self.invariant w.in-Some.classes w.in-Some.is) in
            subst (λ (x : Row). HasMarks own.list.items a b p x) same marks
      ]);
    }
