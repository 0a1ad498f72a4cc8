-- The built-in configuration.
use Rattle.std.specs.Prelude.{false, [], ◌∷◌, codes, None}
use Rattle.policy_documents.specs.Documents.{DocumentData, policy}
use Rattle.policy_documents.specs.declared.algorithms.Algorithm.TheVariants.{FirstApplicable}
use Rattle.policy_documents.specs.declared.algorithms.Effect.TheVariants.{Permit}
use Rattle.scripts.specs.BuiltIn.{built_in}
use Rattle.configuration.specs.Configs.{ConfigData}

-- everything is permitted, by the rule `open`
abbrev pub open_document : DocumentData
open_document = record {
  zones = [];
  root = policy (record { name = codes "start"; combine = FirstApplicable; target = [] })
      (record { name = codes "open"; effect = Permit; target = []; when = [] } ∷ []);
}

abbrev pub built_in_config : ConfigData
built_in_config = record {
  subjects = built_in;
  document = open_document;
  grid = None;
  web = record {
    anonymous = None;
    metrics = None;
    public = None;
    collections = [];
    keys = [];
    trusted_field = false;
  };
}
