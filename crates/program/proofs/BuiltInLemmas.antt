-- The text of the built-in configuration is read as that configuration.
use Rattle.std.proofs.Common.{◌≡◌, ℕ, true, List, codes, refl, ap, ◌∙◌, subst, Result, Some, Ok}
use Rattle.std.specs.Str.{is_utf8, chars}
use lib.Utf8.{encode}
use Rattle.serde_json.specs.Data.{Data, boolean, string, array, object, Items, no_items, item, Members, no_members, member}
use Rattle.serde_json.specs.Read.{read}
use Rattle.serde_json.proofs.OnLiterals.{serde_json_on_literals}
use Rattle.scripts.specs.BuiltIn.{built_in}
use Rattle.policy_text.specs.Reading.{document_in, zones_at, node_at, policy_at, head_at, rule_at, target_at, when_at, each_at, optional_array_in}
use Rattle.program.specs.BuiltIn.{built_in_config, open_document}
use Rattle.configuration.specs.ConfigFaults.{Gives}
use Rattle.configuration.specs.Configs.{config_data, config_of, config_in, config_from, each, subject_in, subjects_in, web_in}
use Rattle.configuration.specs.declared.config_faults.ConfigFault.{ConfigFault}
use Rattle.configuration.specs.declared.configs.Config.{Config}

abbrev subject_value : List ℕ → List ℕ → List ℕ → Members → Data
subject_value name office role rest =
    object (member (codes "name") (string name) (member (codes "office") (string office) (member (codes "role") (string role) rest)))

abbrev subjects_value : Items
subjects_value =
    item (subject_value (codes "north") (codes "north") (codes "editor") no_members)
    (item (subject_value (codes "south") (codes "south") (codes "viewer") no_members)
    (item (subject_value (codes "chief") (codes "hq") (codes "chief") (member (codes "steward") (boolean true) no_members)) no_items))

abbrev rule_value : Data
rule_value = object (member (codes "effect") (string (codes "permit")) (member (codes "rule") (string (codes "open")) no_members))

abbrev root_value : Data
root_value =
    object (member (codes "combine") (string (codes "first-applicable")) (member (codes "policy") (string (codes "start"))
    (member (codes "rules") (array (item rule_value no_items)) no_members)))

abbrev policies_value : Data
policies_value = object (member (codes "root") root_value no_members)

abbrev config_value : Data
config_value = object (member (codes "policies") policies_value (member (codes "subjects") (array subjects_value) no_members))

abbrev pub built_in_text : List ℕ
built_in_text = codes "{\"subjects\":[{\"name\":\"north\",\"office\":\"north\",\"role\":\"editor\"},{\"name\":\"south\",\"office\":\"south\",\"role\":\"viewer\"},{\"name\":\"chief\",\"office\":\"hq\",\"role\":\"chief\",\"steward\":true}],\"policies\":{\"root\":{\"combine\":\"first-applicable\",\"policy\":\"start\",\"rules\":[{\"effect\":\"permit\",\"rule\":\"open\"}]}}}"

text-read : read built_in_text ≡ Some config_value
unfolding serde_json_on_literals
text-read = refl

text-utf8 : is_utf8 built_in_text ≡ true
unfolding is_utf8 chars encode
text-utf8 = refl

policies-read : document_in policies_value ≡ Ok open_document
unfolding document_in zones_at node_at policy_at head_at rule_at target_at when_at each_at optional_array_in
policies-read = refl

subjects-read : subjects_in subjects_value ≡ Ok built_in
unfolding each subject_in
subjects-read = refl

value-read : config_in config_value ≡ Ok built_in_config
unfolding config_in config_from web_in
value-read = rw (subjects-read, policies-read) refl

pub built_in_is_read : config_of built_in_text ≡ Ok built_in_config
unfolding config_of
built_in_is_read = rw (text-utf8, text-read) value-read

-- what was read of that text is the built-in configuration
pub gives-built_in : {A : Type 0} (r : Result (Config A) ConfigFault) (text : List ℕ) → text ≡ built_in_text → Gives config_data r (config_of text) →
    Gives config_data r (Ok built_in_config)
gives-built_in r text same h = subst (λ reading. Gives config_data r reading) (ap config_of same ∙ built_in_is_read) h
