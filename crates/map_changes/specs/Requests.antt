-- The data of a request to change a feature.
use Rattle.std.specs.Prelude.{ℕ, List}
use Rattle.map_changes.specs.declared.edits.ChangeRequest.{ChangeRequest}
use Rattle.map_changes.specs.declared.edits.Method.{Method}

pub record RequestData : Type 0 where
  pub method : Method
  pub path : List ℕ
  pub query : List ℕ
  pub media : List ℕ
  pub if_match : List ℕ
  pub body : List ℕ

abbrev pub request_data : ChangeRequest → RequestData
request_data request = record {
  method = request.method;
  path = request.path.now;
  query = request.query.now;
  media = request.media.now;
  if_match = request.if_match.now;
  body = request.body.now;
}
