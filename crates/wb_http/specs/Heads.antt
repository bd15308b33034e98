-- What the code keeps of a head.
use Rattle.std.specs.Prelude.{◌≡◌, ℕ, false, List, length, map, nat_lt, Result, Ok, Err}
use Rattle.httparse.specs.Grammar.{RequestHead}
use Rattle.httparse.specs.Spans.{span_bytes, IsWithin, name_and_value}
use Rattle.httparse.specs.declared.spans.HeaderSpan.{HeaderSpan}
use Rattle.httparse.specs.declared.spans.RequestSpans.{RequestSpans}
use Rattle.wb_http.specs.declared.refusals.HttpRefusal.{HttpRefusal}
use Rattle.wb_http.specs.declared.heads.Head.{Head}
use Rattle.wb_http.specs.Ends.{lines_of}
use Rattle.wb_http.specs.Fields.{fields_at}
use Rattle.wb_http.specs.Requests.{IsHead, announced, closes, line_limit, Judges, JudgesHead, Bad}

-- the spans cover the parts of a head
pub record Covers (bytes : List ℕ) (spans : RequestSpans) (fields : List HeaderSpan) (head : RequestHead) : Type 0 where
  pub method : span_bytes bytes spans.method ≡ head.method
  pub target : span_bytes bytes spans.path ≡ head.target
  pub version : spans.version ≡ head.minor
  pub listed : fields_at bytes fields ≡ map name_and_value head.fields

-- what is kept of a head that is not refused
pub record IsKept (bytes : List ℕ) (kept : Head) (head : RequestHead) : Type 0 where
  pub method : span_bytes bytes kept.method ≡ head.method
  pub target : span_bytes bytes kept.target ≡ head.target
  pub close : kept.close ≡ closes head
  pub body : announced head ≡ Ok kept.body

-- its spans lie in the head
pub record IsWithinHead (bytes : List ℕ) (kept : Head) : Type 0 where
  pub method : IsWithin (length bytes) kept.method
  pub target : IsWithin (length bytes) kept.target

abbrev pub Announces : List ℕ → RequestHead → Result Head HttpRefusal → Type 0
Announces bytes head (Ok kept) = IsKept bytes kept head × IsWithinHead bytes kept
Announces bytes head (Err refusal) = announced head ≡ Err refusal

-- the bytes of a head of not too many lines were judged
abbrev pub IsJudgedShort : List ℕ → Result Head HttpRefusal → Type 0
IsJudgedShort bytes (Ok kept) = (head : RequestHead) × IsHead bytes head × IsKept bytes kept head × IsWithinHead bytes kept
IsJudgedShort bytes (Err refusal) = (behind : List ℕ) → Judges bytes behind (Bad refusal)

-- the bytes of a head, up to its end, were judged
abbrev pub IsJudged : List ℕ → Result Head HttpRefusal → Type 0
IsJudged bytes (Ok kept) = (nat_lt line_limit (lines_of bytes) ≡ false) × IsJudgedShort bytes (Ok kept)
IsJudged bytes (Err refusal) = (behind : List ℕ) → JudgesHead bytes behind (Bad refusal)
