-- the member at the place
use Rattle.std.proofs.Common.{rules, ◌≡◌, ◌∙◌, ◌≤◌, Some, None, List, slice_get, length, refl, sym, subst}
use Rattle.std.proofs.lemmas.Option.{slice_get_read, slice_get_past}
use Rattle.pf_lab.specs.declared.host.Host.{Host}
use Rattle.pf_lab.proofs.state.Lab.node.Goals as goal

pub returns-then-host-clause-some : goal.returns-then-host-clause-some
returns-then-host-clause-some c =
    let hosts = c.args.self.now.hosts.items in
    let d = c.in-Some.host.now in
    let lent = c.deref.result.now in
    let there = slice_get_read lent (length lent) c.args.m d refl c.in-Some.ensures.lookup.3.0 c.in-Some.ensures.lookup.1 in
    let at = subst (λ (xs : List Host). slice_get xs c.args.m ≡ Some d) c.deref.ensures.value there in
    (d, at, c.if-host.true, refl)

pub returns-else-host-clause-none : goal.returns-else-host-clause-none
returns-else-host-clause-none c e s h =
    let hosts = c.args.self.now.hosts.items in
    let d = c.in-Some.host.now in
    let lent = c.deref.result.now in
    let there = slice_get_read lent (length lent) c.args.m d refl c.in-Some.ensures.lookup.3.0 c.in-Some.ensures.lookup.1 in
    let at = subst (λ (xs : List Host). slice_get xs c.args.m ≡ Some d) c.deref.ensures.value there in
    let one : Some d ≡ Some s = sym at ∙ h in
    cc (one, c.if-host.false)

pub returns-in-None-clause-none : goal.returns-in-None-clause-none
returns-in-None-clause-none c e s h =
    let hosts = c.args.self.now.hosts.items in
    let over : length hosts ≤ c.args.m = search (rules, c.in-None.ensures.lookup) in
    let none : None ≡ Some s = sym (slice_get_past hosts c.args.m over) ∙ h in
    absurd cc
