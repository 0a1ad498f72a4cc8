-- What is told of a configuration.
use Rattle.std.specs.Prelude.{◌≡◌, ◌≤◌, ◌-ℤ◌, ◌&&◌, not, pos, ℕ, Bool, List, [], ◌++◌, codes, length, nat_eq, if◌then◌else◌, is_none, Option, None, Some, IfSome, option_map, Result, Ok, Err}
use Rattle.std.specs.Fmt.{decimal}
use Rattle.grid.specs.Printing.{coordinate_text, steps_text}
use Rattle.grid.specs.declared.grids.Axis.{Axis}
use Rattle.grid.specs.declared.grids.Axis.TheVariants.{X, Y}
use Rattle.grid.specs.declared.grids.Grid.{Grid}
use Rattle.plane.specs.declared.point.TheConstants.{LIMIT}
use Rattle.configuration.specs.ConfigFaults.{Fails, config_code_of}
use Rattle.configuration.specs.ConfigFiles.{IsUnread}
use Rattle.configuration.specs.Configs.{ConfigData, config_of, grid_data, web_data}
use Rattle.configuration.specs.Paths.{path_text}
use Rattle.configuration.specs.Summaries.{summary_of, summary_text}
use Rattle.configuration.specs.Web.{WebData}
use Rattle.configuration.specs.declared.checking.Checked.{Checked}
use Rattle.configuration.specs.declared.checking.Checked.TheVariants.{Right, Wrong}
use Rattle.configuration.specs.declared.config_faults.ConfigFault.{ConfigFault}
use Rattle.configuration.specs.declared.config_faults.ConfigFault.TheVariants.{NotJson, Form, Subjects, Policies, Memory}
use Rattle.configuration.specs.declared.files.FileFault.{FileFault}
use Rattle.configuration.specs.declared.files.TheConstants.{CONFIG_LIMIT}
use Rattle.configuration.specs.declared.paths.ConfigPath.{ConfigPath}
use Rattle.configuration.specs.declared.summaries.Summary.{Summary}
use Rattle.policy_text.specs.FaultPaths.{path_of}
use Rattle.policy_text.specs.Pointers.{path_text as document_path_text}
use Rattle.policy_text.specs.declared.faults.TextFault.{TextFault}
use Rattle.policy_text.specs.declared.paths.PathPart.{PathPart}
use Rattle.policy_text.specs.declared.faults.TextFault.TheVariants as texts
use Rattle.wkt.specs.declared.fault.WktFault.{WktFault}
use Rattle.wkt.specs.declared.fault.WktFault.TheVariants as shapes

-- the text is read as a configuration, which has this
abbrev pub IsRight : Summary → Option Grid → WebData → List ℕ → Type 0
IsRight summary grid web text = (config : ConfigData) × (config_of text ≡ Ok config)
    × (summary ≡ summary_of config) × (option_map grid_data grid ≡ config.grid)
    × (web ≡ config.web)

-- this is the first fault of the text, with its path
abbrev pub IsWrong : ConfigFault → List ℕ → Type 0
IsWrong fault text = Fails fault (config_of text)

abbrev pub IsCheckOf : {A : Type 0} → List ℕ → Checked A → Type 0
IsCheckOf text (Right summary grid web) = IsRight summary grid (web_data web) text
IsCheckOf text (Wrong fault) = IsWrong fault text

-- the byte, within the text of a zone's shape, at which that is at fault
abbrev pub shape_byte : WktFault → Option ℕ
shape_byte (shapes.UnknownWord byte) = Some byte
shape_byte (shapes.LeftOut byte) = Some byte
shape_byte (shapes.Syntax byte) = Some byte
shape_byte (shapes.Number byte) = Some byte
shape_byte (shapes.OutOfRange byte) = Some byte
shape_byte (shapes.Bad fault) = None

abbrev pub policy_byte : TextFault → Option ℕ
policy_byte (texts.BadZone path name fault) = shape_byte fault
policy_byte texts.NotJson = None
policy_byte (texts.Form path) = None
policy_byte (texts.UnknownKey path) = None
policy_byte (texts.NameTwice path name) = None
policy_byte (texts.NoZone path name) = None
policy_byte (texts.TooDeep path) = None
policy_byte (texts.TooMany path) = None
policy_byte (texts.Memory refused) = None

abbrev pub byte_of : ConfigFault → Option ℕ
byte_of (Policies fault) = policy_byte fault
byte_of NotJson = None
byte_of (Form path) = None
byte_of (Subjects fault path) = None
byte_of (Memory refused) = None

-- a place as it is printed, behind a code: the path of a fault, which of the policies begins there
abbrev pub path_part : ConfigPath → List ℕ
path_part path = codes " at \"" ++ (path_text path ++ codes "\"")

abbrev pub policies_part : Option (List PathPart) → List ℕ
policies_part None = []
policies_part (Some path) = codes " at \"/policies" ++ (document_path_text path ++ codes "\"")

abbrev pub place_part : ConfigFault → List ℕ
place_part (Form path) = path_part path
place_part (Subjects fault path) = path_part path
place_part (Policies fault) = policies_part (path_of fault)
place_part NotJson = []
place_part (Memory refused) = []

abbrev pub byte_part : Option ℕ → List ℕ
byte_part None = []
byte_part (Some byte) = codes ", byte " ++ decimal byte

-- what is printed: of what is right a line for each number, and of a fault one line
abbrev pub wrong_text : ConfigFault → List ℕ
wrong_text fault = config_code_of fault ++ place_part fault ++ byte_part (byte_of fault)
    ++ codes "\n"

-- the texts of a step of a grid, and of its least and its greatest coordinate on an axis
unfoldable pub step_words : Grid → List ℕ
step_words grid = steps_text grid.decimals 1

unfoldable pub least_words : Grid → Axis → List ℕ
least_words grid axis = coordinate_text grid axis (pos 0 -ℤ LIMIT)

unfoldable pub greatest_words : Grid → Axis → List ℕ
greatest_words grid axis = coordinate_text grid axis LIMIT

-- the step and the reach of a grid
abbrev pub grid_text : Grid → List ℕ
grid_text grid =
    codes "grid step " ++ (step_words grid
    ++ (codes "\ngrid x from " ++ (least_words grid X
    ++ (codes " to " ++ (greatest_words grid X
    ++ (codes "\ngrid y from " ++ (least_words grid Y
    ++ (codes " to " ++ (greatest_words grid Y ++ codes "\n")))))))))

abbrev pub grid_part : Option Grid → List ℕ
grid_part None = []
grid_part (Some grid) = grid_text grid

-- nothing is said of HTTP
abbrev pub is_silent : WebData → Bool
is_silent web =
    is_none web.anonymous && is_none web.metrics && is_none web.public
    && nat_eq (length web.collections) 0 && nat_eq (length web.keys) 0 && not web.trusted_field

abbrev pub collections_word : ℕ → List ℕ
collections_word count = if nat_eq count 1 then codes " collection" else codes " collections"

abbrev pub keys_part : ℕ → List ℕ
keys_part count =
    if nat_eq count 0 then [] else if nat_eq count 1 then codes ", 1 key"
    else codes ", " ++ (decimal count ++ codes " keys")

abbrev pub links_part : Option (List ℕ) → List ℕ
links_part None = []
links_part (Some public) = codes ", links begin with " ++ public

abbrev pub asker_part : Option (List ℕ) → List ℕ
asker_part None = []
asker_part (Some name) = codes ", requests without a name are " ++ (name ++ codes "'s")

abbrev pub metrics_part : Option (List ℕ) → List ℕ
metrics_part None = []
metrics_part (Some name) = codes ", metrics are for " ++ name

abbrev pub field_part : Bool → List ℕ
field_part trusted = if trusted then codes ", the field landmap-subject is trusted" else []

-- what is said of HTTP: how many collections and keys there are, what links begin with, whose
-- requests are that do not say who asks, who may read the metrics, and whether a field is trusted
-- that says who asks
abbrev pub web_text : WebData → List ℕ
web_text web =
    codes "http: " ++ (decimal (length web.collections)
    ++ (collections_word (length web.collections) ++ (keys_part (length web.keys)
    ++ (links_part web.public ++ (asker_part web.anonymous
    ++ (metrics_part web.metrics ++ (field_part web.trusted_field ++ codes "\n")))))))

abbrev pub web_part : WebData → List ℕ
web_part web = if is_silent web then [] else web_text web

abbrev pub checked_text : {A : Type 0} → Checked A → List ℕ
checked_text (Right summary grid web) =
    summary_text summary ++ (grid_part grid ++ web_part (web_data web))
checked_text (Wrong fault) = wrong_text fault

-- what a file gives, by the bytes that it has left, if they are known
abbrev pub CheckGives : {A : Type 0} → Result (Checked A) FileFault → Option (List ℕ) → Type 0
CheckGives (Ok checked) left =
    IfSome left (λ text. (length text ≤ CONFIG_LIMIT) × IsCheckOf text checked)
CheckGives (Err fault) left = IsUnread left fault
