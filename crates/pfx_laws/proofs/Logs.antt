-- The configuration after a log is a map.
use Rattle.std.proofs.Common.{◌≡◌, ℕ, true, List, [], ◌∷◌, map, length, fold, Result, Ok, Err, refl, arith}
use Rattle.std.specs.Prelude.{not, nat_le}
use Rattle.std.specs.List.{list_all, AllByRecursion}
use Rattle.pf_rules.specs.declared.profile.Profile.{Profile}
use Rattle.pf_rules.specs.Words.{is_anchor_text}
use Rattle.pf_rules.specs.Names.{Name, begins_below, is_path_name}
use Rattle.pf_rules.specs.Items.{rule_in, values_of}
use Rattle.pf_rules.specs.Rulesets.{RulesetValue}
use Rattle.pf_config.specs.declared.fault.ConfigFault.{ConfigFault}
use Rattle.pf_config.specs.Map.{Configuration, AnchorValue, Path}
use Rattle.pf_config.specs.Changes as change
use Rattle.pf_config.proofs.Treed.{both_true}
use Rattle.pf_grammar.specs.declared.fault.Refusal.{Refusal}
use Rattle.pf_grammar.specs.Reading.{reading}
use Rattle.pf_entry.specs.Entry.{Command, load, flush_rules, flush_tables, flush_all, add, delete, replace, flush_table, Entry, path_of, are_names, Fits}
use Rattle.pf_command.specs.Effect.{uncounted, counted, entries_of, place_at, loaded, effect, changed, after_command, empty, after}
use Rattle.pfx_laws.specs.Targets.{has_target, have_targets}
use Rattle.pfx_laws.specs.Maps.{IsPath, IsAnchor, IsMap, AnswersMap}
use Rattle.pfx_laws.specs.Logs.{has_path, have_paths}
use Rattle.pfx_laws.proofs.Changed.{added, replaced, deleted, emptied, tables_flushed, rules_flushed, all_flushed, blocks_loaded}
use Rattle.pfx_laws.proofs.Readings.{reading_good, loaded_rules, loaded_blocks}

-- ---- paths of commands

names_are : (p : Path) → list_all is_path_name p ≡ true → list_all is_anchor_text p ≡ true
names_are [] h = refl
names_are (n ∷ p) h =
    let both = both_true (is_path_name n) (list_all is_path_name p) h in
    let own = both_true (is_anchor_text n) (not (begins_below n)) both.0 in
    rw own.0 (names_are p both.1)

path_is : (p : Path) → are_names p ≡ true → IsPath p
path_is p h = let both = both_true (nat_le (length p) 8) (list_all is_path_name p) h in rw (both.0, names_are p both.1) refl

path_names : (p : Path) → IsPath p → list_all is_anchor_text p ≡ true
path_names p h = (both_true (nat_le (length p) 8) (list_all is_anchor_text p) h).1

-- ---- one command

uncounted_map : (c : Configuration) (r : Result Configuration ConfigFault) → IsMap c → AnswersMap r → IsMap (changed c (uncounted r))
uncounted_map c (Ok new) h k = k
uncounted_map c (Err fault) h k = h

counted_map : (c : Configuration) (p : Path) (name : Name) (r : Result Configuration ConfigFault) → IsMap c → AnswersMap r → IsMap (changed c (counted c p name r))
counted_map c p name (Ok new) h k = k
counted_map c p name (Err fault) h k = h

text_loaded : (c : Configuration) (p : Path) (profile : Profile) (text : List ℕ) (o : Result RulesetValue Refusal) → reading (place_at p) profile text ≡ o → IsMap c → IsPath p → IsMap (changed c (loaded c p o))
text_loaded c p profile text (Ok r) e h k =
    let good = reading_good (place_at p) profile text r e in
    let names = path_names p k in
    uncounted_map c (change.load_ruleset c p r) h
    (blocks_loaded c r.skip (record { path = p; rules = map rule_in r.items }) r.tables (change.blocks_in p (values_of r.items)) h
    (record { names = names; rules = loaded_rules r.items good.room.0 good.targets }) (loaded_blocks p r.items names good))
text_loaded c p profile text (Err refusal) e h k = h

command_map : (c : Configuration) (command : Command) → IsMap c → IsPath (path_of command) → IsMap (changed c (effect c command))
unfolding effect
command_map c (load p profile text) h k = text_loaded c p profile text (reading (place_at p) profile text) refl h k
command_map c (flush_rules p) h k = rules_flushed c p h k
command_map c (flush_tables p) h k = tables_flushed c p h k
command_map c (flush_all p) h k = all_flushed c p h k
command_map c (add p name list) h k = counted_map c p name (change.add c p name (entries_of list)) h (added c p name (entries_of list) h k)
command_map c (delete p name list) h k = counted_map c p name (change.delete c p name (entries_of list)) h (deleted c p name (entries_of list) h k)
command_map c (replace p name list) h k = counted_map c p name (change.replace c p name (entries_of list)) h (replaced c p name (entries_of list) h k)
command_map c (flush_table p name) h k = counted_map c p name (change.flush_table c p name) h (emptied c p name h k)

pub command_keeps : (c : Configuration) (command : Command) → IsMap c → are_names (path_of command) ≡ true → IsMap (after_command c command)
command_keeps c command h k = command_map c command h (path_is (path_of command) k)

-- ---- a log

entries_keep : (c : Configuration) (es : List Entry) → IsMap c → have_paths es ≡ true → IsMap (fold (λ (d : Configuration) (e : Entry). after_command d e.command) c es)
entries_keep c [] h k = h
entries_keep c (e ∷ es) h k =
    let both = both_true (has_path e) (have_paths es) k in
    entries_keep (after_command c e.command) es (command_keeps c e.command h both.0) both.1

pub log_map : (es : List Entry) → have_paths es ≡ true → IsMap (after es)
unfolding after
log_map es k = entries_keep empty es (record { anchors = tt; rising = tt; few = omega arith }) k

pub spelled_paths : (es : List Entry) → AllByRecursion Fits es → have_paths es ≡ true
spelled_paths [] h = refl
spelled_paths (e ∷ es) h = rw h.0.names (spelled_paths es h.1)

-- ---- its rules name anchors

anchors_have : (anchors : List AnchorValue) → AllByRecursion IsAnchor anchors → list_all (λ (a : AnchorValue). list_all has_target a.rules) anchors ≡ true
anchors_have [] h = refl
anchors_have (a ∷ anchors) h =
    let both = both_true (nat_le (length a.rules) 1024) (list_all has_target a.rules) h.0.rules in
    rw both.1 (anchors_have anchors h.1)

pub map_targets : (c : Configuration) → IsMap c → have_targets c ≡ true
map_targets c h = anchors_have c.anchors h.anchors
