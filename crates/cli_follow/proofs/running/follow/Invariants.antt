use Rattle.std.proofs.Common.{◌≡◌, option_map}
use Rattle.nft_rules.specs.Seen.{machine_of}
use Rattle.cli_follow.specs.Output.{AsksEntries, wanted, start, Went, FiledTo}
use Rattle.cli_follow.specs.inner.Seen.{follower_of, wanted_of}
use Rattle.cli_follow.proofs.running.follow.Given as goal

-- what was asked so far leads here, and was written, to files too
abbrev pub invariant-loop-asks : goal.invariant-loop-asks
invariant-loop-asks g l = record {
  went : Went (g.C.Control.exchanged l.fn.control) (g.C.Control.exchanged l.control) (wanted (option_map (λ v. machine_of v.items) l.fn.interfaces) l.fn.is_guarded)
      (AsksEntries start) (AsksEntries (follower_of l.asks l.follower)) (g.W.Write.contents l.fn.writer) (g.W.Write.contents l.writer);
  filed : FiledTo (g.C.Control.exchanged l.fn.control) (g.C.Control.exchanged l.control) (g.F.Folders.done l.fn.folders) (g.F.Folders.done l.folders)
      (wanted (option_map (λ v. machine_of v.items) l.fn.interfaces) l.fn.is_guarded) l.fn.files (AsksEntries (follower_of l.asks l.follower)) l.files;
  wanted : wanted_of l.follower ≡ wanted (option_map (λ v. machine_of v.items) l.fn.interfaces) l.fn.is_guarded;
}
