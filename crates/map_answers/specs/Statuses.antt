-- Status codes of HTTP (RFC 9110, section 15; 428 is RFC 6585, section 3; 507 is RFC 4918, section 11.5).
use Rattle.std.specs.Prelude.{ℕ, List, codes}
use Rattle.map_answers.specs.declared.statuses.Status.{Status}
use Rattle.map_answers.specs.declared.statuses.Status.TheVariants.{Success, Created, NoContent, NotModified, BadRequest, Unauthorized, Forbidden, NotFound, MethodNotAllowed, Conflict, Gone, PreconditionFailed, UnsupportedMedia, MisdirectedRequest, Unprocessable, PreconditionRequired, Internal, Unavailable, InsufficientStorage}

abbrev pub number_of : Status → ℕ
number_of Success = 200
number_of Created = 201
number_of NoContent = 204
number_of NotModified = 304
number_of BadRequest = 400
number_of Unauthorized = 401
number_of Forbidden = 403
number_of NotFound = 404
number_of MethodNotAllowed = 405
number_of Conflict = 409
number_of Gone = 410
number_of PreconditionFailed = 412
number_of UnsupportedMedia = 415
number_of MisdirectedRequest = 421
number_of Unprocessable = 422
number_of PreconditionRequired = 428
number_of Internal = 500
number_of Unavailable = 503
number_of InsufficientStorage = 507

abbrev pub phrase_of : Status → List ℕ
phrase_of Success = codes "OK"
phrase_of Created = codes "Created"
phrase_of NoContent = codes "No Content"
phrase_of NotModified = codes "Not Modified"
phrase_of BadRequest = codes "Bad Request"
phrase_of Unauthorized = codes "Unauthorized"
phrase_of Forbidden = codes "Forbidden"
phrase_of NotFound = codes "Not Found"
phrase_of MethodNotAllowed = codes "Method Not Allowed"
phrase_of Conflict = codes "Conflict"
phrase_of Gone = codes "Gone"
phrase_of PreconditionFailed = codes "Precondition Failed"
phrase_of UnsupportedMedia = codes "Unsupported Media Type"
phrase_of MisdirectedRequest = codes "Misdirected Request"
phrase_of Unprocessable = codes "Unprocessable Content"
phrase_of PreconditionRequired = codes "Precondition Required"
phrase_of Internal = codes "Internal Server Error"
phrase_of Unavailable = codes "Service Unavailable"
phrase_of InsufficientStorage = codes "Insufficient Storage"
