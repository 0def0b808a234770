-- What a verdict of the code stands for, and how it is shown.
use Rattle.std.specs.Prelude.{ℕ, List, [], ◌∷◌, ◌++◌, Option, Some, None, option_map, codes, decimal}
use Rattle.std.specs.List.{flat_map}
use Rattle.pf_rules.specs.declared.rule.Action.{Action}
use Rattle.pf_rules.specs.declared.rule.Action.TheVariants as act
use Rattle.pf_rules.specs.Names.{Name}
use Rattle.pf_config.specs.Map.{Configuration}
use Rattle.pf_eval.specs.declared.answer.Spot as code
use Rattle.pf_eval.specs.declared.answer.Verdict.{Verdict}
use Rattle.pf_eval.specs.declared.answer.Verdict.TheVariants as verdict
use Rattle.pf_eval.specs.Packets.{PacketValue}
use Rattle.pf_eval.specs.PacketTexts.{packet_of}
use Rattle.pf_eval.specs.Verdicts.{Judgement, Skipped, Decided, Spot, judgement}

-- where a rule of this action is, as the code names it: the path of its anchor and its place there
abbrev pub spot_of : Action → code.Spot → Spot
spot_of action s = record { path = s.names.now; index = s.index; action = action }

-- the value of a verdict
abbrev pub judgement_of : Verdict → Judgement
judgement_of verdict.Skip = Skipped
judgement_of verdict.Default = Decided None
judgement_of (verdict.Pass s) = Decided (Some (spot_of act.Pass s))
judgement_of (verdict.Drop s) = Decided (Some (spot_of act.Drop s))
judgement_of (verdict.Return s) = Decided (Some (spot_of act.Return s))

-- a path's names, with / between them
abbrev pub path_text : List Name → List ℕ
path_text [] = []
path_text (name ∷ names) = name ++ flat_map (λ n. 47 ∷ n) names

-- a blank, the path of the rule's anchor, @, and the rule's place
abbrev pub shown_spot : Spot → List ℕ
shown_spot s = 32 ∷ (path_text s.path ++ 64 ∷ decimal s.index)

-- how a rule's action is shown
abbrev pub action_text : Action → List ℕ
action_text act.Pass = codes "pass"
action_text act.Drop = codes "block drop"
action_text act.Return = codes "block return"

-- how a verdict is shown: the interface is skipped, no rule matches, or the action and spot of the one that decides
-- Example: block drop @0.
abbrev pub verdict_text : Judgement → List ℕ
verdict_text Skipped = codes "pass skip"
verdict_text (Decided None) = codes "pass default"
verdict_text (Decided (Some s)) = action_text s.action ++ shown_spot s

-- the verdict for a packet's text as it is shown, none where it is no packet
unfoldable pub verdict_for : Configuration → List ℕ → Option (List ℕ)
verdict_for c packet = option_map (λ (k : PacketValue). verdict_text (judgement c k)) (packet_of packet)
