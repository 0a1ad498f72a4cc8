-- Problems (RFC 9457).
use Rattle.std.specs.Prelude.{ℕ, List, ◌++◌, Option, None, codes, decimal}
use Rattle.map_asks.specs.declared.faults.AskFault.{AskFault}
use Rattle.map_asks.specs.declared.faults.AskFault.TheVariants.{NoPage, UnknownParameter, Twice, Value, Apart}
use Rattle.map_answers.specs.Answers.{AnswerData}
use Rattle.map_answers.specs.Statuses.{number_of, phrase_of}
use Rattle.map_answers.specs.Strings.{string_text}
use Rattle.map_answers.specs.declared.answers.MediaType.TheVariants.{Problem}
use Rattle.map_answers.specs.declared.statuses.Status.{Status}
use Rattle.map_answers.specs.declared.statuses.Status.TheVariants.{BadRequest, NotFound}

-- the status of a request at fault
abbrev pub status_of_fault : AskFault → Status
status_of_fault NoPage = NotFound
status_of_fault UnknownParameter = BadRequest
status_of_fault (Twice parameter) = BadRequest
status_of_fault (Value parameter) = BadRequest
status_of_fault Apart = BadRequest

-- the parts of a problem
unfoldable pub title_part : Status → List ℕ
title_part status =
    codes "{\"type\":\"about:blank\",\"title\":" ++ string_text (phrase_of status)

unfoldable pub status_part : Status → List ℕ
status_part status = codes ",\"status\":" ++ decimal (number_of status)

unfoldable pub code_part : List ℕ → List ℕ
code_part code = codes ",\"code\":" ++ string_text code

-- a problem of no type but its status (4.2.1): its title is the status's words; `code` is landmap's
abbrev pub problem_text : Status → List ℕ → List ℕ
problem_text status code = title_part status ++ status_part status ++ code_part code ++ codes "}"

-- the answer that tells of a problem
abbrev pub problem_data : Status → List ℕ → Option ℕ → AnswerData
problem_data status code retry_after = record {
  status = status;
  media = Problem;
  version = None;
  location = None;
  retry_after = retry_after;
  body = problem_text status code;
}

-- a problem with more members (3.2), each behind a comma
abbrev pub detailed_text : Status → List ℕ → List ℕ → List ℕ
detailed_text status code members =
    title_part status ++ status_part status ++ code_part code ++ members ++ codes "}"

-- the answer that tells of it
abbrev pub detailed_data : Status → List ℕ → List ℕ → AnswerData
detailed_data status code members = record {
  status = status;
  media = Problem;
  version = None;
  location = None;
  retry_after = None;
  body = detailed_text status code members;
}
