-- Requests: what the bytes of a connection begin with. A head is read by the grammar of `httparse`, with at most 64 fields.
use Rattle.std.specs.Prelude.{◌≡◌, ℕ, ◌==◌, ◌&&◌, ◌||◌, ◌≤◌, ◌⊎◌, not, Bool, true, false, List, [], ◌∷◌, length, map, take, drop, nat_lt, codes, bytes_eq, Option, None, Some, Result, Ok, Err, if◌then◌else◌}
use Rattle.std.specs.List.{list_any}
use Rattle.httparse.specs.Grammar.{RequestHead, ReadsRequest}
use Rattle.httparse.specs.Spans.{name_and_value}
use Rattle.wb_http.specs.declared.refusals.HttpRefusal.{HttpRefusal}
use Rattle.wb_http.specs.declared.refusals.HttpRefusal.TheVariants.{HeadTooLarge, BadHead, NotImplemented, BadLength, LengthRequired, BodyTooLarge}
use Rattle.wb_http.specs.declared.requests.Request.{Request}
use Rattle.wb_http.specs.Ends.{head_length, lines_of}
use Rattle.wb_http.specs.Fields.{values, length_of, says_close}

-- so many bytes without the end of a head are refused
abbrev pub head_limit : ℕ
head_limit = 16384

-- a head has at most so many lines
abbrev pub line_limit : ℕ
line_limit = 66

-- a body has at most so many bytes
abbrev pub body_limit : ℕ
body_limit = 1048576

-- the bytes are this head
pub record IsHead (bytes : List ℕ) (head : RequestHead) : Type 0 where
  pub reads : ReadsRequest bytes head []
  pub room : length head.fields ≤ 64

-- the values of the fields of a name
abbrev pub values_in : RequestHead → List ℕ → List (List ℕ)
values_in head name = values name (map name_and_value head.fields)

-- a head of HTTP/1.1 has exactly one Host field
abbrev pub breaks_host : RequestHead → Bool
breaks_host head = head.minor == 1 && not (length (values_in head (codes "host")) == 1)

abbrev pub within_limit : Option ℕ → Result ℕ HttpRefusal
within_limit None = Err BadLength
within_limit (Some n) = if nat_lt body_limit n then Err BodyTooLarge else Ok n

-- the length of the body that the values of Content-Length announce
abbrev pub length_by : Bool → List (List ℕ) → Result ℕ HttpRefusal
length_by is_post [] = if is_post then Err LengthRequired else Ok 0
length_by is_post (value ∷ []) = within_limit (length_of value)
length_by is_post (value ∷ other ∷ more) = Err BadLength

-- the length of the body that a head announces, or the first refusal that holds of it
abbrev pub announced : RequestHead → Result ℕ HttpRefusal
announced head =
    if breaks_host head then Err BadHead
    else (if not (length (values_in head (codes "transfer-encoding")) == 0) then Err NotImplemented
    else length_by (bytes_eq head.method (codes "POST")) (values_in head (codes "content-length")))

-- the connection closes after a request of HTTP/1.0, or with a Connection field that has the member `close`
abbrev pub closes : RequestHead → Bool
closes head = head.minor == 0 || list_any says_close (values_in head (codes "connection"))

-- what bytes begin with: a request, and the bytes after it; a refusal; or less than a request
pub data Taken : Type 0 where
  Whole : Request → List ℕ → Taken
  Bad : HttpRefusal → Taken
  Short : Taken

abbrev pub request_of : RequestHead → List ℕ → Request
request_of head body = record { method = head.method; target = head.target; body = body; close = closes head }

-- a head, and the bytes behind it
abbrev pub with_body : RequestHead → Result ℕ HttpRefusal → List ℕ → Taken
with_body head (Err refusal) behind = Bad refusal
with_body head (Ok n) behind = if nat_lt (length behind) n then Short else Whole (request_of head (take n behind)) (drop n behind)

-- by the grammar: the bytes are a head, or no head at all
abbrev pub Judges : List ℕ → List ℕ → Taken → Type 0
Judges bytes behind taken =
    ((head : RequestHead) × IsHead bytes head × (taken ≡ with_body head (announced head) behind))
    ⊎ (((head : RequestHead) → ¬ (IsHead bytes head)) × (taken ≡ Bad BadHead))

-- by its lines: whether they are too many
abbrev pub JudgesLines : Bool → List ℕ → List ℕ → Taken → Type 0
JudgesLines true bytes behind taken = taken ≡ Bad HeadTooLarge
JudgesLines false bytes behind taken = Judges bytes behind taken

abbrev pub JudgesHead : List ℕ → List ℕ → Taken → Type 0
JudgesHead bytes behind taken = JudgesLines (nat_lt line_limit (lines_of bytes)) bytes behind taken

-- by the length of the head
abbrev pub TakesAt : Option ℕ → List ℕ → Taken → Type 0
TakesAt None bytes taken = taken ≡ (if nat_lt (length bytes) head_limit then Short else Bad HeadTooLarge)
TakesAt (Some n) bytes taken = JudgesHead (take n bytes) (drop n bytes) taken

-- what the bytes begin with
unfoldable pub Takes : List ℕ → Taken → Type 0
Takes bytes taken = TakesAt (head_length (take head_limit bytes)) bytes taken
