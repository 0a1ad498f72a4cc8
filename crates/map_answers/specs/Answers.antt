-- Answers, as plain data.
use Rattle.std.specs.Prelude.{ℕ, List, Option, None, option_map, Result, Ok, Err, codes}
use Rattle.memory.specs.declared.no_memory.NoMemory.{NoMemory}
use Rattle.map_answers.specs.declared.answers.Answer.{Answer}
use Rattle.map_answers.specs.declared.answers.MediaType.{MediaType}
use Rattle.map_answers.specs.declared.answers.MediaType.TheVariants.{Json, GeoJson, OpenApi, Html, Problem, Lines, Metrics}
use Rattle.map_answers.specs.declared.statuses.Status.{Status}
use Rattle.map_answers.specs.declared.statuses.Status.TheVariants.{Success}

abbrev pub media_text : MediaType → List ℕ
media_text Json = codes "application/json"
media_text GeoJson = codes "application/geo+json"
media_text OpenApi = codes "application/vnd.oai.openapi+json;version=3.0"
media_text Html = codes "text/html; charset=utf-8"
media_text Problem = codes "application/problem+json"
media_text Lines = codes "application/x-ndjson"
media_text Metrics = codes "text/plain; version=0.0.4; charset=utf-8"

-- what a client sees of an answer
pub record AnswerData : Type 0 where
  pub status : Status
  pub media : MediaType
  pub version : Option ℕ
  pub location : Option (List ℕ)
  pub retry_after : Option ℕ
  pub body : List ℕ

abbrev pub answer_data : {A : Type 0} → Answer A → AnswerData
answer_data answer = record {
  status = answer.status;
  media = answer.media;
  version = answer.version;
  location = option_map (λ address. address.items) answer.location;
  retry_after = answer.retry_after;
  body = answer.body.items;
}

-- a body that was found
abbrev pub found : MediaType → List ℕ → AnswerData
found media body = record {
  status = Success;
  media = media;
  version = None;
  location = None;
  retry_after = None;
  body = body;
}

-- what a client sees of it, if there was memory for it
abbrev pub answered : {A : Type 0} → Result (Answer A) NoMemory → Result AnswerData NoMemory
answered (Ok answer) = Ok (answer_data answer)
answered (Err refused) = Err refused
