-- The bytes of a reply, and the replies that do not look at the diagram.
use Rattle.std.specs.Prelude.{ℕ, ◌++◌, Bool, true, false, List, [], ◌∷◌, length, decimal, unwrap_or, codes, Option, None, Some}
use Rattle.http.specs.StatusCode.{reason_phrase}
use Rattle.wb_http.specs.declared.refusals.HttpRefusal.{HttpRefusal}
use Rattle.wb_http.specs.declared.refusals.HttpRefusal.TheVariants.{HeadTooLarge, BadHead, NotImplemented, BadLength, LengthRequired, BodyTooLarge}
use Rattle.wb_http.specs.declared.replies.FixedReply.{FixedReply}
use Rattle.wb_http.specs.declared.replies.FixedReply.TheVariants.{Http, NotFound, MethodNotAllowed, BadBody, UnknownElement, Keeper, NoMemory, Stopped}

-- a line, with CR LF behind it
abbrev pub line : List ℕ → List ℕ
line text = text ++ 13 ∷ 10 ∷ []

-- the phrase of a status
abbrev pub phrase : ℕ → List ℕ
phrase status = unwrap_or (reason_phrase status) []

abbrev pub allow_line : Option (List ℕ) → List ℕ
allow_line None = []
allow_line (Some method) = line (codes "Allow: " ++ method)

abbrev pub close_line : Bool → List ℕ
close_line false = []
close_line true = line (codes "Connection: close")

-- the lines of a head before those two
abbrev pub first_lines : ℕ → ℕ → List ℕ
first_lines status count =
    line (codes "HTTP/1.1 " ++ decimal status ++ codes " " ++ phrase status) ++ line (codes "Content-Type: application/json") ++ line (codes "Content-Length: " ++ decimal count)

-- the bytes of a reply
abbrev pub response : ℕ → Option (List ℕ) → Bool → List ℕ → List ℕ
response status allow close body = first_lines status (length body) ++ allow_line allow ++ close_line close ++ line [] ++ body

abbrev pub quoted : List ℕ → List ℕ
quoted text = 34 ∷ text ++ 34 ∷ []

abbrev pub refusal_text : List ℕ → List ℕ
refusal_text code = codes "{" ++ quoted (codes "refusal") ++ codes ":" ++ quoted code ++ codes "}"

abbrev pub http_status : HttpRefusal → ℕ
http_status HeadTooLarge = 431
http_status BadHead = 400
http_status NotImplemented = 501
http_status BadLength = 400
http_status LengthRequired = 411
http_status BodyTooLarge = 413

abbrev pub http_text : HttpRefusal → List ℕ
http_text HeadTooLarge = refusal_text (codes "head_too_large")
http_text BadHead = refusal_text (codes "bad_head")
http_text NotImplemented = refusal_text (codes "not_implemented")
http_text BadLength = refusal_text (codes "bad_length")
http_text LengthRequired = refusal_text (codes "length_required")
http_text BodyTooLarge = refusal_text (codes "body_too_large")

abbrev pub fixed_status : FixedReply → ℕ
fixed_status (Http refusal) = http_status refusal
fixed_status NotFound = 404
fixed_status MethodNotAllowed = 405
fixed_status BadBody = 400
fixed_status UnknownElement = 404
fixed_status Keeper = 503
fixed_status NoMemory = 507
fixed_status Stopped = 200

abbrev pub fixed_text : FixedReply → List ℕ
fixed_text (Http refusal) = http_text refusal
fixed_text NotFound = refusal_text (codes "not_found")
fixed_text MethodNotAllowed = refusal_text (codes "method_not_allowed")
fixed_text BadBody = refusal_text (codes "bad_body")
fixed_text UnknownElement = refusal_text (codes "unknown_element")
fixed_text Keeper = refusal_text (codes "keeper")
fixed_text NoMemory = refusal_text (codes "no_memory")
fixed_text Stopped = codes "{" ++ quoted (codes "stopped") ++ codes ":true}"
