-- Where in a configuration a fault is.
use Rattle.std.specs.Prelude.{ℕ, List, [], ◌++◌, codes}
use Rattle.std.specs.Fmt.{decimal}
use Rattle.configuration.specs.declared.paths.ConfigPath.{ConfigPath}
use Rattle.configuration.specs.declared.paths.ConfigPath.TheVariants.{Whole, Member, Item, ItemMember}
use Rattle.configuration.specs.declared.paths.MemberName.{MemberName}
use Rattle.configuration.specs.declared.paths.MemberName.TheVariants as member_names

-- a key as it is written
abbrev pub key_text : MemberName → List ℕ
key_text member_names.Subjects = codes "subjects"
key_text member_names.Policies = codes "policies"
key_text member_names.Grid = codes "grid"
key_text member_names.Anonymous = codes "anonymous"
key_text member_names.Metrics = codes "metrics"
key_text member_names.Public = codes "public"
key_text member_names.Collections = codes "collections"
key_text member_names.Keys = codes "keys"
key_text member_names.TrustedField = codes "trusted-field"
key_text member_names.Origin = codes "origin"
key_text member_names.Decimals = codes "decimals"
key_text member_names.Between = codes "between"
key_text member_names.Name = codes "name"
key_text member_names.Office = codes "office"
key_text member_names.Role = codes "role"
key_text member_names.Steward = codes "steward"
key_text member_names.Subject = codes "subject"
key_text member_names.Sha256 = codes "sha256"

-- a path as it is printed: a JSON Pointer (RFC 6901, section 3). No key of a configuration has a `~`
-- or a `/`, so no key is escaped
abbrev pub path_text : ConfigPath → List ℕ
path_text Whole = []
path_text (Member key) = codes "/" ++ key_text key
path_text (Item key index) = codes "/" ++ (key_text key ++ (codes "/" ++ decimal index))
path_text (ItemMember key index below) =
    codes "/" ++ (key_text key ++ (codes "/" ++ (decimal index ++ (codes "/" ++ key_text below))))
