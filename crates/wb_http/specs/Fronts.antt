-- What stands at the front of the bytes held, as reading goes on.
use Rattle.std.specs.Prelude.{◌≡◌, ℕ, ◌+◌, ◌<◌, ◌≤◌, ⊤, false, List, ◌++◌, length, take, drop, nat_lt, Option, None, Some, Ok}
use Rattle.httparse.specs.Spans.{span_bytes}
use Rattle.wb_outer.specs.Door.{DoorTold, Reads}
use Rattle.wb_outer.specs.declared.door.Got.{Got}
use Rattle.wb_outer.specs.declared.door.Got.TheVariants as got
use Rattle.wb_http.specs.declared.ends.Progress.{Progress}
use Rattle.wb_http.specs.declared.requests.Front.{Front}
use Rattle.wb_http.specs.declared.requests.Request.{Request}
use Rattle.wb_http.specs.declared.requests.RequestEnd.{RequestEnd}
use Rattle.wb_http.specs.declared.requests.RequestEnd.TheVariants as ends
use Rattle.wb_http.specs.Ends.{head_length, lines_of, Tells}
use Rattle.wb_http.specs.Heads.{IsJudgedShort}
use Rattle.wb_http.specs.Requests.{head_limit, line_limit, Bad, Short, Takes}
use Rattle.wb_http.specs.Reading.{Gives}

-- bytes that are less than a request are fewer than this
abbrev pub request_limit : ℕ
request_limit = 1064960

-- the bytes held grew by those that the door gave
pub record Fills (held held' : List ℕ) (old new : DoorTold) (end : Option RequestEnd) : Type 0 where
  pub got : List ℕ
  pub grown : held' ≡ held ++ got
  pub gives : Gives old new end got

-- the door ended the call
abbrev pub IsDoorEnd : RequestEnd → Type 0
IsDoorEnd ends.Ended = ⊤
IsDoorEnd ends.Failed = ⊤
IsDoorEnd (ends.Bad refusal) = ⊥
IsDoorEnd ends.NoMemory = ⊥

-- how many bytes a read gives
abbrev pub read_of : Got → ℕ
read_of (got.Bytes n) = n
read_of got.End = 0
read_of got.Failed = 0

abbrev pub IsWithinRoom : Got → ℕ → ℕ → Type 0
IsWithinRoom (got.Bytes n) len room = (0 < n) × (len + n ≤ room)
IsWithinRoom got.End len room = ⊤
IsWithinRoom got.Failed len room = ⊤

-- a read into the room behind these bytes, and the bytes behind it
abbrev pub ReadsBehind : List ℕ → List ℕ → ℕ → DoorTold → DoorTold → Got → Type 0
ReadsBehind room room' len old new result = (piece : List ℕ) × Reads old new piece result × (take (len + read_of result) room' ≡ take len room ++ take (read_of result) piece)

-- the bytes within the limit were looked through so far
pub record IsSeen (progress : Progress) (bytes : List ℕ) : Type 0 where
  pub within : progress.seen ≤ length (take head_limit bytes)
  pub tells : Tells progress.mark (take progress.seen (take head_limit bytes))

-- the head ends there; there is no end where too many bytes stand without one
abbrev pub IsEnd : List ℕ → Option ℕ → Type 0
IsEnd bytes (Some n) = head_length (take head_limit bytes) ≡ Some n
IsEnd bytes None = (head_length (take head_limit bytes) ≡ None) × (head_limit ≤ length bytes)

-- a head that is not refused stands at the front
pub record HasFront (bytes : List ℕ) (front : Front) : Type 0 where
  pub ends : head_length (take head_limit bytes) ≡ Some front.end
  pub lines : nat_lt line_limit (lines_of (take front.end bytes)) ≡ false
  pub judged : IsJudgedShort (take front.end bytes) (Ok front.head)

-- why no head, or no whole body, stands there
abbrev pub Misses : List ℕ → RequestEnd → Type 0
Misses bytes (ends.Bad refusal) = Takes bytes (Bad refusal)
Misses bytes ends.Ended = Takes bytes Short
Misses bytes ends.Failed = Takes bytes Short
Misses bytes ends.NoMemory = ⊥

-- the request that stands at the front
abbrev pub request_at : List ℕ → Front → Request
request_at bytes front = record {
  method = span_bytes (take front.end bytes) front.head.method;
  target = span_bytes (take front.end bytes) front.head.target;
  body = take front.head.body (drop front.end bytes);
  close = front.head.close;
}
