-- What a successful run of a script has written.
use Rattle.std.specs.Prelude.{◌≡◌, ℕ, List, Option, None, Some, IfSome, min}
use Rattle.std.specs.Io.KnownBytes.{Appends}
use Rattle.scripts.specs.Scripts.{IsScriptText}
use Rattle.plain_world.specs.States.{WorldData, opened}
use Rattle.plain_world.specs.declared.settings.TheConstants.{STEP_LIMIT, USUAL_FEATURES}
use Rattle.audit_trail.specs.declared.trails.TheConstants.{RECORD_LIMIT}
use Rattle.feature_store.specs.declared.tables.TheConstants.{FEATURE_LIMIT}
use Rattle.program.specs.BuiltIn.{built_in_config}
use Rattle.configuration.specs.ConfigFiles.{IsConfigText}
use Rattle.configuration.specs.Configs.{ConfigData}

-- the most features that there may be, where so many are asked for, or where nothing is said
abbrev pub features_asked : Option ℕ → ℕ
features_asked None = USUAL_FEATURES
features_asked (Some number) = min number FEATURE_LIMIT

-- the world that a configuration opens: its subjects, its policies in force as the first edition,
-- no features, no records. `features` is the most that there may be.
abbrev pub world_of : ConfigData → ℕ → WorldData
world_of config features =
    opened config.subjects (record { document = config.document; edition = 1 })
    (record { generation = 0; counter = 0; search = 1; version = 0; edition = 1; rolled = 0 })
    (record { steps = STEP_LIMIT; records = RECORD_LIMIT; features = features })

-- the script text of these bytes, over the world that a configuration opens
pub record Served (config : ConfigData) (features : ℕ) (script : List ℕ)
    (before after : Option (List ℕ)) : Type 0 where
  pub said : List ℕ
  pub end : WorldData
  pub written : Appends before after said
  pub text : IsScriptText (world_of config features) script end said

-- The configuration of a run: the built-in one, or that of the named file. `held` gives what the
-- file of a name reads, if known.
abbrev pub IsConfigOf : (List ℕ → Option (List ℕ)) → Option (List ℕ) → ConfigData → Type 0
IsConfigOf held None config = config ≡ built_in_config
IsConfigOf held (Some name) config = IfSome (held name) (λ text. IsConfigText config text)

-- the configuration is the requested one, and the script in the file of this name is served
pub record RanScript (held : List ℕ → Option (List ℕ)) (config : Option (List ℕ)) (features : ℕ)
    (script : List ℕ) (before after : Option (List ℕ)) : Type 0 where
  pub configured : ConfigData
  pub is_config : IsConfigOf held config configured
  pub served : IfSome (held script) (λ text. Served configured features text before after)
