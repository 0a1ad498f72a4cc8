-- The answers to requests to change that are at fault.
use Rattle.std.specs.Prelude.{ℕ, List, ◌++◌, codes, None, Some, if◌then◌else◌}
use Rattle.geojson.specs.FaultCodes.{code_of as cause_code}
use Rattle.geojson.specs.Faults.{is_memory}
use Rattle.geojson.specs.declared.faults.FeatureFault.{FeatureFault}
use Rattle.map_answers.specs.Answers.{AnswerData}
use Rattle.map_answers.specs.Problems.{detailed_data, problem_data}
use Rattle.map_answers.specs.declared.statuses.Status.{Status}
use Rattle.map_answers.specs.declared.statuses.Status.TheVariants.{BadRequest, NotFound, MethodNotAllowed, PreconditionFailed, UnsupportedMedia, Unprocessable, PreconditionRequired, Unavailable}
use Rattle.map_changes.specs.FaultCodes.{code_of}
use Rattle.map_changes.specs.declared.faults.ChangeFault.{ChangeFault}
use Rattle.map_changes.specs.declared.faults.ChangeFault.TheVariants as faults
use Rattle.map_edits.specs.Members.{place_member, place_text}

-- a problem with a place in the body, as a JSON pointer
abbrev pub placed_data : Status → List ℕ → List ℕ → AnswerData
placed_data status code place = detailed_data status code (place_member place)

-- a body that is no feature: with the place of its fault, but where an allocation was refused. What
-- is said of the feature begins at `front`, which is nothing where that is the whole body
abbrev pub feature_data : List ℕ → FeatureFault → AnswerData
feature_data front fault =
    if is_memory fault.cause then problem_data Unavailable (cause_code fault.cause) (Some 1)
    else placed_data BadRequest (cause_code fault.cause) (front ++ place_text fault)

-- a body that is a feature, and none that can be stored: with the member that is at fault
abbrev pub unstored_data : List ℕ → ChangeFault → List ℕ → AnswerData
unstored_data front fault member = placed_data Unprocessable (code_of fault) (front ++ member)

abbrev pub plain_data : Status → ChangeFault → AnswerData
plain_data status fault = problem_data status (code_of fault) None

-- a request at fault (RFC 9110, 13.1.1 and 15.5; RFC 6585, 3)
abbrev pub fault_data : List ℕ → ChangeFault → AnswerData
fault_data front faults.NoPage = plain_data NotFound faults.NoPage
fault_data front faults.Method = plain_data MethodNotAllowed faults.Method
fault_data front faults.Parameter = plain_data BadRequest faults.Parameter
fault_data front faults.NoVersion = plain_data PreconditionRequired faults.NoVersion
fault_data front faults.WrongTag = plain_data PreconditionFailed faults.WrongTag
fault_data front faults.Media = plain_data UnsupportedMedia faults.Media
fault_data front (faults.Feature fault) = feature_data front fault
fault_data front faults.Id = unstored_data front faults.Id (codes "/id")
fault_data front faults.Class = unstored_data front faults.Class (codes "/properties/class")
fault_data front faults.Parts = unstored_data front faults.Parts (codes "/geometry")
fault_data front (faults.Shape fault) =
    unstored_data front (faults.Shape fault) (codes "/geometry")
