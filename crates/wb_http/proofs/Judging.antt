-- Heads are judged by their lines first, and then by the grammar.
use Rattle.std.proofs.Common.{◌≡◌, sym, subst, ℕ, false, List, Result, Ok, Err, nat_lt}
use Rattle.wb_http.specs.declared.refusals.HttpRefusal.{HttpRefusal}
use Rattle.wb_http.specs.declared.heads.Head.{Head}
use Rattle.wb_http.specs.Ends.{lines_of}
use Rattle.wb_http.specs.Heads.{IsJudged, IsJudgedShort}
use Rattle.wb_http.specs.Requests.{line_limit, JudgesLines, Bad}

pub judged : (bytes : List ℕ) (result : Result Head HttpRefusal) → nat_lt line_limit (lines_of bytes) ≡ false → IsJudgedShort bytes result → IsJudged bytes result
judged bytes (Ok kept) few short = (few, short)
judged bytes (Err refusal) few short = λ behind. subst (λ too_many. JudgesLines too_many bytes behind (Bad refusal)) (sym few) (short behind)
