-- The texts of fields.
use Rattle.std.proofs.Common.{◌≡◌, true, refl}
use Rattle.http_header.specs.FieldValue.{is_visible_text}
use Rattle.map_answers.specs.Answers.{media_text}
use Rattle.map_answers.specs.declared.answers.MediaType.{MediaType}
use Rattle.map_answers.specs.declared.answers.MediaType.TheVariants.{Json, GeoJson, OpenApi, Html, Problem, Lines, Metrics}

-- each type is a text that a field may have
pub media_is_visible : (media : MediaType) → is_visible_text (media_text media) ≡ true
media_is_visible Json = refl
media_is_visible GeoJson = refl
media_is_visible OpenApi = refl
media_is_visible Html = refl
media_is_visible Problem = refl
media_is_visible Lines = refl
media_is_visible Metrics = refl
