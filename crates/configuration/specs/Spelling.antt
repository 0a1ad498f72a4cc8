-- What a configuration is, by cases on the JSON value of its text. This says neither how the text
-- is read, nor which fault a text has that is not a configuration.
use Rattle.std.specs.Prelude.{◌≡◌, ◌≤◌, ℕ, Bool, false, List, [], ◌∷◌, length, IsTrue, Option, None, Some, Ok}
use Rattle.std.specs.Str.{is_utf8}
use Rattle.serde_json.specs.Data.{Data, boolean, string, array, object, Items, no_items, item, Members}
use Rattle.serde_json.specs.Read.{read}
use Rattle.features.specs.Names.{is_name}
use Rattle.features.specs.Subjects.{have_distinct_names}
use Rattle.features.specs.declared.actors.Subject.{Subject}
use Rattle.features.specs.declared.actors.TheConstants.{SUBJECT_LIMIT}
use Rattle.policy_text.specs.Reading.{document_in}
use Rattle.configuration.specs.Configs.{ConfigData, config_keys, grid_member, has_only, subject_keys, value_of, web_in}
use Rattle.configuration.specs.declared.paths.MemberName.{MemberName}
use Rattle.configuration.specs.declared.paths.MemberName.TheVariants as member_names

-- an object whose keys are all listed
pub record IsObject (listed : List MemberName) (d : Data) : Type 0 where
  pub members : Members
  pub is : d ≡ object members
  pub only : IsTrue (has_only listed members)

-- the value under the key is this name
pub record HasName (key : MemberName) (d : Data) (name : List ℕ) : Type 0 where
  pub stands : value_of key d ≡ Some (string name)
  pub spelled : IsTrue (is_name name)

-- true marks a steward; for others the flag is false or missing
abbrev pub IsFlag : Option Data → Bool → Type 0
IsFlag None steward = steward ≡ false
IsFlag (Some d) steward = d ≡ boolean steward

pub record SpellsSubject (d : Data) (subject : Subject) : Type 0 where
  pub is_object : IsObject subject_keys d
  pub name : HasName member_names.Name d subject.name
  pub office : HasName member_names.Office d subject.office
  pub role : HasName member_names.Role d subject.role
  pub steward : IsFlag (value_of member_names.Steward d) subject.steward

-- each item spells a subject, in order
abbrev pub SpellsSubjects : Items → List Subject → Type 0
SpellsSubjects no_items [] = Unit {0}
SpellsSubjects (item d rest) (subject ∷ subjects) =
    SpellsSubject d subject × SpellsSubjects rest subjects
SpellsSubjects no_items (subject ∷ subjects) = ⊥
SpellsSubjects (item d rest) [] = ⊥

-- a JSON value spells a configuration
pub record SpellsConfig (value : Data) (config : ConfigData) : Type 0 where
  pub is_object : IsObject config_keys value
  pub items : Items
  pub has_subjects : value_of member_names.Subjects value ≡ Some (array items)
  pub each : SpellsSubjects items config.subjects
  pub some : 1 ≤ length config.subjects
  pub fit : length config.subjects ≤ SUBJECT_LIMIT
  pub distinct : IsTrue (have_distinct_names config.subjects)
  pub policies : Data
  pub has_policies : value_of member_names.Policies value ≡ Some policies
  pub document : document_in policies ≡ Ok config.document
  pub grid : grid_member (value_of member_names.Grid value) ≡ Ok config.grid
  pub web : web_in config.subjects value ≡ Ok config.web

-- a text spells a configuration
pub record Spells (text : List ℕ) (config : ConfigData) : Type 0 where
  pub utf8 : IsTrue (is_utf8 text)
  pub value : Data
  pub json : read text ≡ Some value
  pub spells : SpellsConfig value config
