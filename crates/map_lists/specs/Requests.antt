-- The data of a request to make a list of changes.
use Rattle.std.specs.Prelude.{ℕ, List}
use Rattle.map_lists.specs.declared.requests.ListRequest.{ListRequest}

pub record ListData : Type 0 where
  pub query : List ℕ
  pub media : List ℕ
  pub body : List ℕ

abbrev pub list_data : ListRequest → ListData
list_data request = record {
  query = request.query.now;
  media = request.media.now;
  body = request.body.now;
}
