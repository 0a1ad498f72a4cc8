-- Configurations: the configuration, or the first fault, that the JSON value of a text is read as.
use Rattle.std.specs.Prelude.{ℕ, ℤ, ◌+◌, ◌&&◌, ◌||◌, not, Bool, true, false, List, [], ◌∷◌, ◌++◌, codes, length, if◌then◌else◌, Option, Some, None, is_some, nat_eq, nat_le, option_and_then, option_map, string_bytes, Result, Ok, Err}
use Rattle.std.specs.List.{list_any}
use Rattle.std.specs.Cmp.Lexicographic.{pointwise}
use Rattle.std.specs.Option.{ok_or, option_map_or}
use Rattle.std.specs.Str.{bytes_eq, is_utf8}
use Rattle.serde_json.specs.Data.{Data, Items, no_items, item, Members, no_members, member}
use Rattle.serde_json.specs.Find.{get, as_bool, as_number, as_str, as_array, as_object, as_u64, at}
use Rattle.serde_json.specs.Read.{read}
use Rattle.credentials.specs.declared.keys.Key.{Key}
use Rattle.features.specs.Names.{name_of}
use Rattle.features.specs.Subjects.{subjects_of}
use Rattle.features.specs.declared.actors.Subject.{Subject}
use Rattle.features.specs.declared.actors.SubjectsFault.{SubjectsFault}
use Rattle.features.specs.declared.actors.SubjectsFault.TheVariants as lists
use Rattle.grid.specs.Grids.{origin_of}
use Rattle.grid.specs.declared.faults.GridFault.{GridFault}
use Rattle.grid.specs.declared.grids.Axis.TheVariants.{X, Y}
use Rattle.grid.specs.declared.grids.Between.{Between}
use Rattle.grid.specs.declared.grids.Between.TheVariants.{Nearest, Refuse}
use Rattle.grid.specs.declared.grids.Grid.{Grid}
use Rattle.grid.specs.declared.grids.TheConstants.{MOST_DECIMALS}
use Rattle.policy_documents.specs.Documents.{DocumentData}
use Rattle.policy_text.specs.Reading.{document_in}
use Rattle.policy_text.specs.declared.faults.TextFault.{TextFault}
use Rattle.configuration.specs.Paths.{key_text}
use Rattle.configuration.specs.Web.{WebData, digest_at, is_same_key, name_at, public_at, subject_at}
use Rattle.configuration.specs.declared.configs.Config.{Config}
use Rattle.configuration.specs.declared.config_faults.ConfigFault.{ConfigFault}
use Rattle.configuration.specs.declared.config_faults.ConfigFault.TheVariants as faults
use Rattle.configuration.specs.declared.keys.TheConstants.{KEY_LIMIT}
use Rattle.configuration.specs.declared.paths.ConfigPath.{ConfigPath}
use Rattle.configuration.specs.declared.paths.ConfigPath.TheVariants as paths
use Rattle.configuration.specs.declared.paths.MemberName.{MemberName}
use Rattle.configuration.specs.declared.paths.MemberName.TheVariants as member_names
use Rattle.configuration.specs.declared.web.TheConstants.{COLLECTION_LIMIT}
use Rattle.configuration.specs.declared.web.Web.{Web}

-- a grid as plain data: its origin in steps, its decimals, and what becomes of a number between two
-- steps
pub record GridData : Type 0 where
  pub x : ℤ
  pub y : ℤ
  pub decimals : ℕ
  pub between : Between

abbrev pub grid_data : Grid → GridData
grid_data g = record { x = g.x; y = g.y; decimals = g.decimals; between = g.between }

-- a configuration as plain data
pub record ConfigData : Type 0 where
  pub subjects : List Subject
  pub document : DocumentData
  pub grid : Option GridData
  pub web : WebData

-- the plain data of a `Web`, without its place in memory
abbrev pub web_data : {A : Type 0} → Web A → WebData
web_data w = record {
  anonymous = w.anonymous;
  metrics = w.metrics;
  public = option_map (λ text. string_bytes text) w.public;
  collections = w.collections.items;
  keys = w.keys.items;
  trusted_field = w.trusted_field;
}

-- the plain data of a `Config`, without its place in memory
abbrev pub config_data : {A : Type 0} → Config A → ConfigData
config_data c = record {
  subjects = c.subjects;
  document = c.document;
  grid = option_map grid_data c.grid;
  web = web_data c.web;
}

infixl 10 ◌>>=◌
abbrev pub ◌>>=◌ : {A B E : Type 0} → Result A E → (A → Result B E) → Result B E
(Ok x) >>= f = f x
(Err e) >>= f = Err e

-- ---- objects

-- the value under a key
abbrev pub value_of : MemberName → Data → Option Data
value_of key d = get (key_text key) d

-- the text is one of these keys
abbrev pub is_listed : List MemberName → List ℕ → Bool
is_listed listed text = list_any (λ key. bytes_eq (key_text key) text) listed

-- each key of an object is listed
abbrev pub has_only : List MemberName → Members → Bool
has_only listed no_members = true
has_only listed (member text d rest) = is_listed listed text && has_only listed rest

-- the value is an object, and each of its keys is listed
abbrev pub is_object_of : List MemberName → Data → Bool
is_object_of listed d = option_map_or (has_only listed) (as_object d) false

-- such an object is at a path
abbrev pub object_in : List MemberName → ConfigPath → Data → Result (Unit {0}) ConfigPath
object_in listed path d = if is_object_of listed d then Ok tt else Err path

-- ---- items

-- the items of an array, one after another; each is read behind those before it
unfoldable pub each : {X : Type 0} → (List X → Data → Result X ConfigPath) → List X → Items
    → Result (List X) ConfigPath
each read before no_items = Ok before
each read before (item d rest) = read before d >>= λ x. each read (before ++ x ∷ []) rest

-- how many items an array has
abbrev pub item_count : Items → ℕ
item_count no_items = 0
item_count (item d rest) = item_count rest + 1

-- ---- subjects

-- the name under a key of the subject of an index
abbrev pub name_in : MemberName → ℕ → Data → Result (List ℕ) ConfigPath
name_in key index d = ok_or (option_and_then name_at (value_of key d))
    (paths.ItemMember member_names.Subjects index key)

-- a flag; false if it is missing
abbrev pub flag_in : ConfigPath → Option Data → Result Bool ConfigPath
flag_in path None = Ok false
flag_in path (Some flag) = ok_or (as_bool flag) path

-- whether the subject of an index is a steward
abbrev pub steward_in : ℕ → Data → Result Bool ConfigPath
steward_in index d = flag_in (paths.ItemMember member_names.Subjects index member_names.Steward)
    (value_of member_names.Steward d)

abbrev pub subject_keys : List MemberName
subject_keys = member_names.Name ∷ member_names.Office ∷ member_names.Role ∷ member_names.Steward
    ∷ []

-- the subject of an index
unfoldable pub subject_in : ℕ → Data → Result Subject ConfigPath
subject_in index d =
    object_in subject_keys (paths.Item member_names.Subjects index) d >>= λ _.
    name_in member_names.Name index d >>= λ name. name_in member_names.Office index d >>= λ office.
    name_in member_names.Role index d >>= λ role. steward_in index d >>= λ steward.
    Ok (record { name = name; office = office; role = role; steward = steward })

abbrev pub subject_behind : List Subject → Data → Result Subject ConfigPath
subject_behind before d = subject_in (length before) d

-- the subjects of an array, in order
abbrev pub subjects_in : Items → Result (List Subject) ConfigPath
subjects_in listed = each subject_behind [] listed

-- how many subjects stand before the first one whose name one of them has
unfoldable pub count_before_again : List Subject → List Subject → ℕ
count_before_again before [] = length before
count_before_again before (subject ∷ rest) =
    if list_any (λ other. bytes_eq other.name subject.name) before then length before
    else count_before_again (before ++ subject ∷ []) rest

-- where a fault of the list of these subjects is: at the list, or at the second name
abbrev pub list_path : List Subject → SubjectsFault → ConfigPath
list_path subjects lists.NoneGiven = paths.Member member_names.Subjects
list_path subjects lists.TooMany = paths.Member member_names.Subjects
list_path subjects lists.NameTwice =
    paths.ItemMember member_names.Subjects (count_before_again [] subjects) member_names.Name

-- what has a fault at a path is not of the form of a configuration
abbrev pub of_form : {A : Type 0} → Result A ConfigPath → Result A ConfigFault
of_form (Ok x) = Ok x
of_form (Err path) = Err (faults.Form path)

-- the result of a subject list, or of a policy document, as a result of a configuration
abbrev pub of_list : List Subject → Result (List Subject) SubjectsFault
    → Result (List Subject) ConfigFault
of_list subjects (Ok taken) = Ok taken
of_list subjects (Err fault) = Err (faults.Subjects fault (list_path subjects fault))

abbrev pub of_policies : Result DocumentData TextFault → Result DocumentData ConfigFault
of_policies (Ok document) = Ok document
of_policies (Err fault) = Err (faults.Policies fault)

-- the checked list of subjects
abbrev pub taken_over : List Subject → Result (List Subject) ConfigFault
taken_over subjects = of_list subjects (subjects_of subjects)

-- the document that a value spells
abbrev pub policies_in : Data → Result DocumentData ConfigFault
policies_in d = of_policies (document_in d)

abbrev pub config_keys : List MemberName
config_keys = member_names.Subjects ∷ member_names.Policies ∷ member_names.Grid
    ∷ member_names.Anonymous ∷ member_names.Metrics ∷ member_names.Public
    ∷ member_names.Collections ∷ member_names.Keys ∷ member_names.TrustedField ∷ []

-- ---- the grid

-- whatever is wrong with the grid, the fault is at the whole of it
abbrev pub grid_path : ConfigPath
grid_path = paths.Member member_names.Grid

abbrev pub grid_keys : List MemberName
grid_keys = member_names.Origin ∷ member_names.Decimals ∷ member_names.Between ∷ []

-- the text at an index of an array
abbrev pub text_at : ℕ → Data → Option (List ℕ)
text_at index d = option_and_then as_str (at index d)

-- an origin: an array of two texts
abbrev pub origin_in : Data → Result (List ℕ × List ℕ) ConfigPath
origin_in d =
    ok_or (text_at 0 d) grid_path >>= λ x. ok_or (text_at 1 d) grid_path >>= λ y.
    if is_some (at 2 d) then Err grid_path else Ok (x, y)

-- what becomes of a number between two steps, by its name; it is refused where that is missing
abbrev pub between_named : List ℕ → Option Between
between_named name =
    if bytes_eq name (codes "refuse") then Some Refuse
    else if bytes_eq name (codes "nearest") then Some Nearest
    else None

abbrev pub between_in : Option Data → Result Between ConfigPath
between_in None = Ok Refuse
between_in (Some d) = ok_or (option_and_then between_named (as_str d)) grid_path

-- an origin on an axis in steps, as a result of a configuration
abbrev pub of_steps : Result ℤ GridFault → Result ℤ ConfigPath
of_steps (Ok steps) = Ok steps
of_steps (Err fault) = Err grid_path

-- the grid of an origin in steps
abbrev pub grid_at : ℕ → Between → Result ℤ ConfigPath → Result ℤ ConfigPath
    → Result GridData ConfigPath
grid_at decimals between x y =
    x >>= λ x. y >>= λ y. Ok (record { x = x; y = y; decimals = decimals; between = between })

-- the grid of an origin, decimals, and what becomes of a number between two steps
unfoldable pub grid_from : List ℕ → List ℕ → ℕ → Between → Result GridData ConfigPath
grid_from x y decimals between =
    if nat_le decimals MOST_DECIMALS
    then grid_at decimals between (of_steps (origin_of X decimals x))
    (of_steps (origin_of Y decimals y)) else Err grid_path

-- the grid that a value spells
unfoldable pub grid_in : Data → Result GridData ConfigPath
grid_in d =
    object_in grid_keys grid_path d >>= λ _. ok_or (value_of member_names.Origin d) grid_path >>=
    λ origin. origin_in origin >>= λ texts.
    ok_or (option_and_then as_u64 (option_and_then as_number (value_of member_names.Decimals d)))
    grid_path >>= λ decimals. between_in (value_of member_names.Between d) >>= λ between.
    grid_from texts.0 texts.1 decimals between

-- the grid under the key, if there is one
abbrev pub grid_member : Option Data → Result (Option GridData) ConfigPath
grid_member None = Ok None
grid_member (Some d) = grid_in d >>= λ grid. Ok (Some grid)

-- ---- what is said of HTTP

-- the subject under the key, if there is one
abbrev pub subject_member : List Subject → MemberName → Option Data
    → Result (Option (List ℕ)) ConfigPath
subject_member subjects key None = Ok None
subject_member subjects key (Some d) = ok_or (subject_at subjects d) (paths.Member key) >>= λ name.
    Ok (Some name)

-- what links begin with, if something is under the key
abbrev pub public_member : Option Data → Result (Option (List ℕ)) ConfigPath
public_member None = Ok None
public_member (Some d) = ok_or (public_at d) (paths.Member member_names.Public) >>= λ text.
    Ok (Some text)

-- the name may not be one more collection: it is `features`, that of the collection of all, or it
-- stands before
abbrev pub is_no_collection : List (List ℕ) → List ℕ → Bool
is_no_collection before name =
    bytes_eq name (codes "features") || list_any (λ other. pointwise nat_eq other name) before

-- the collection behind these
unfoldable pub collection_in : List (List ℕ) → Data → Result (List ℕ) ConfigPath
collection_in before d =
    ok_or (name_at d) (paths.Item member_names.Collections (length before)) >>= λ name.
    if is_no_collection before name
    then Err (paths.Item member_names.Collections (length before)) else Ok name

-- the collections of an array, which has not too many
abbrev pub collections_in : Items → Result (List (List ℕ)) ConfigPath
collections_in listed =
    if nat_le (item_count listed) COLLECTION_LIMIT then each collection_in [] listed
    else Err (paths.Member member_names.Collections)

-- the collections under the key; none, if nothing is there
abbrev pub collections_member : Option Data → Result (List (List ℕ)) ConfigPath
collections_member None = Ok []
collections_member (Some d) = ok_or (as_array d) (paths.Member member_names.Collections)
    >>= collections_in

abbrev pub key_keys : List MemberName
key_keys = member_names.Subject ∷ member_names.Sha256 ∷ []

-- the subject of the key of an index
abbrev pub key_subject : List Subject → ℕ → Data → Result (List ℕ) ConfigPath
key_subject subjects index d =
    ok_or (option_and_then (subject_at subjects) (value_of member_names.Subject d))
    (paths.ItemMember member_names.Keys index member_names.Subject)

-- the digest of the key of an index
abbrev pub key_digest : ℕ → Data → Result (List ℕ) ConfigPath
key_digest index d = ok_or (option_and_then digest_at (value_of member_names.Sha256 d))
    (paths.ItemMember member_names.Keys index member_names.Sha256)

-- the key of an index: an object of a subject's name and of a digest
unfoldable pub key_in : List Subject → ℕ → Data → Result Key ConfigPath
key_in subjects index d =
    object_in key_keys (paths.Item member_names.Keys index) d >>= λ _.
    key_subject subjects index d >>= λ subject. key_digest index d >>= λ digest.
    Ok (record { subject = subject; digest = digest })

-- the key behind these, none of which it is
unfoldable pub key_behind : List Subject → List Key → Data → Result Key ConfigPath
key_behind subjects before d = key_in subjects (length before) d >>= λ key.
    if list_any (is_same_key key) before
    then Err (paths.Item member_names.Keys (length before)) else Ok key

-- the keys of an array, which has not too many
abbrev pub keys_in : List Subject → Items → Result (List Key) ConfigPath
keys_in subjects listed =
    if nat_le (item_count listed) KEY_LIMIT then each (key_behind subjects) [] listed
    else Err (paths.Member member_names.Keys)

-- the keys under the key; none, if nothing is there
abbrev pub keys_member : List Subject → Option Data → Result (List Key) ConfigPath
keys_member subjects None = Ok []
keys_member subjects (Some d) = ok_or (as_array d) (paths.Member member_names.Keys)
    >>= keys_in subjects

-- whether a field is trusted; not, if nothing is there. Beside keys it is not
abbrev pub trusted_member : List Key → Option Data → Result Bool ConfigPath
trusted_member keys under = flag_in (paths.Member member_names.TrustedField) under >>= λ trusted.
    if trusted && not (nat_eq (length keys) 0)
    then Err (paths.Member member_names.TrustedField) else Ok trusted

-- what a configuration with these subjects says of HTTP
unfoldable pub web_in : List Subject → Data → Result WebData ConfigPath
web_in subjects d =
    subject_member subjects member_names.Anonymous (value_of member_names.Anonymous d) >>=
    λ anonymous.
    subject_member subjects member_names.Metrics (value_of member_names.Metrics d) >>= λ metrics.
    public_member (value_of member_names.Public d) >>= λ public.
    collections_member (value_of member_names.Collections d) >>= λ collections.
    keys_member subjects (value_of member_names.Keys d) >>= λ keys.
    trusted_member keys (value_of member_names.TrustedField d) >>= λ trusted_field. Ok (record {
      anonymous = anonymous;
      metrics = metrics;
      public = public;
      collections = collections;
      keys = keys;
      trusted_field = trusted_field;
    })

-- the configuration of an array of subjects, of policies, and of what else its value has: a grid,
-- and what is said of HTTP. The faults in order: of a subject, of the list of subjects, of the
-- document, of the grid, of HTTP
unfoldable pub config_from : Items → Data → Data → Result ConfigData ConfigFault
config_from listed policies d =
    of_form (subjects_in listed) >>= λ given. taken_over given >>= λ subjects.
    policies_in policies >>= λ document. of_form (grid_member (value_of member_names.Grid d)) >>=
    λ grid. of_form (web_in subjects d) >>= λ web.
    Ok (record { subjects = subjects; document = document; grid = grid; web = web })

-- the array of subjects, and what stands under the key of the policies
abbrev pub subject_items : Data → Result Items ConfigPath
subject_items d = ok_or (option_and_then as_array (value_of member_names.Subjects d))
    (paths.Member member_names.Subjects)

abbrev pub policies_value : Data → Result Data ConfigPath
policies_value d = ok_or (value_of member_names.Policies d) (paths.Member member_names.Policies)

-- the configuration that a JSON value spells, or its first fault
unfoldable pub config_in : Data → Result ConfigData ConfigFault
config_in d =
    of_form (object_in config_keys paths.Whole d) >>= λ _. of_form (subject_items d) >>= λ listed.
    of_form (policies_value d) >>= λ policies. config_from listed policies d

-- the configuration that bytes spell, or their first fault; a JSON text is UTF-8
unfoldable pub config_of : List ℕ → Result ConfigData ConfigFault
config_of bytes = if is_utf8 bytes then (ok_or (read bytes) faults.NotJson >>= config_in)
    else Err faults.NotJson
