-- What a configuration has, in numbers.
use Rattle.std.specs.Prelude.{ℕ, ◌+◌, Bool, true, false, List, ◌++◌, codes, fold, length, map, if◌then◌else◌}
use Rattle.std.specs.Fmt.{decimal}
use Rattle.policy_documents.specs.Documents.{NodeData, RuleData, rules_of}
use Rattle.policy_documents.specs.declared.algorithms.Effect.{Effect}
use Rattle.policy_documents.specs.declared.algorithms.Effect.TheVariants.{Deny, Permit}
use Rattle.configuration.specs.Configs.{ConfigData}
use Rattle.configuration.specs.declared.summaries.Summary.{Summary}

abbrev pub same_flag : Bool → Bool → Bool
same_flag true b = b
same_flag false true = false
same_flag false false = true

-- the count with one more flag
abbrev pub counted : Bool → ℕ → Bool → ℕ
counted wanted count flag = if same_flag flag wanted then count + 1 else count

-- how many flags are this one
abbrev pub count_of : Bool → List Bool → ℕ
count_of wanted flags = fold (counted wanted) 0 flags

abbrev pub permits : Effect → Bool
permits Permit = true
permits Deny = false

abbrev pub is_permit : RuleData → Bool
is_permit rule = permits rule.effect

-- whether each rule below a node permits
abbrev pub node_permits : NodeData → List Bool
node_permits node = map is_permit (rules_of node)

abbrev pub permits_of : ConfigData → List Bool
permits_of config = node_permits config.document.root

abbrev pub summary_of : ConfigData → Summary
summary_of config = record {
  subjects = length config.subjects;
  stewards = count_of true (map (λ subject. subject.steward) config.subjects);
  zones = length config.document.zones;
  permits = count_of true (permits_of config);
  denies = count_of false (permits_of config);
}

-- a line for each number
abbrev pub summary_text : Summary → List ℕ
summary_text s =
    codes "subjects " ++ (decimal
    s.subjects ++ (codes "\nstewards "
    ++ (decimal s.stewards ++ (codes "\nzones " ++ (decimal s.zones
    ++ (codes "\nrules that permit "
    ++ (decimal s.permits ++ (codes "\nrules that deny "
    ++ (decimal s.denies ++ codes "\n")))))))))
