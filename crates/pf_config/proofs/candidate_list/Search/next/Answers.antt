use Rattle.std.proofs.Common.{arith}
use Rattle.pf_config.proofs.Searches.{not_held}
use Rattle.pf_config.proofs.candidate_list.Search.next.Goals as goal
use Rattle.pf_config.proofs.candidate_list.Search.next.Goals.{in-None, in-Some+in-Some-next}

pub returns-in-None-next : goal.returns-in-None-next
returns-in-None-next c i x low high at =
    let s = c.args.self.now in
    let row = c.in-Some.row in
    let marks = c.requires row c.in-Some.is in
    not_held s.list.now s.source s.destination s.destination_port row marks.0 marks.1 marks.2 i x at (c.in-None-next.ensures i low)

pub returns-then-at-self : goal.returns-then-at-self
returns-then-at-self c = elim c.match-self.branch [
  | in-None w ↦ (omega (arith, w.at-is), c.if-at-self.true, λ i x low high at. absurd (omega (arith, low, high, w.at-is)))
  | in-Some+in-Some-next w ↦
      let s = c.args.self.now in
      let row = w.in-Some.row in
      let marks = c.requires row w.in-Some.is in
      let next = w.in-Some-next.ensures in
      (omega (arith, w.at-is, next.0), c.if-at-self.true, λ i x low high at. not_held s.list.now s.source s.destination s.destination_port row marks.0 marks.1 marks.2 i x at (next.2 i low (omega (arith, high, w.at-is))))
]

pub returns-else-at-self : goal.returns-else-at-self
returns-else-at-self c i x low high at = elim c.match-self.branch [
  | in-None w ↦ absurd (omega (arith, low, high, w.at-is, c.if-at-self.false))
  | in-Some+in-Some-next w ↦
      let s = c.args.self.now in
      let row = w.in-Some.row in
      let marks = c.requires row w.in-Some.is in
      let next = w.in-Some-next.ensures in
      not_held s.list.now s.source s.destination s.destination_port row marks.0 marks.1 marks.2 i x at (next.2 i low (omega (arith, high, w.at-is, c.if-at-self.false)))
]
