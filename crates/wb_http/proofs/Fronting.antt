-- What stands at the front of bytes says what they begin with.
use Rattle.std.proofs.Common.{◌≡◌, refl, ◌∙◌, sym, ap, subst, ℕ, ◌+◌, ◌-◌, ◌<◌, ◌≤◌, inl, not, ◌==◌, Bool, true, false, cond, nat_lt, List, [], ◌∷◌, ◌++◌, length, take, drop, Option, None, Some, IfOk, IfErr, OnOk, OnErr, Result, Ok, Err, codes, min, length-drop, arith}
use Rattle.std.specs.Str.{IsUtf8, bytes_eq}
use Rattle.std.proofs.lemmas.List.{take-append-le, drop-drop, take_min}
use Rattle.std.proofs.lemmas.List.Elements.{All-weaker}
use Rattle.std.proofs.lemmas.Str.{IsUtf8-from_ascii}
use Rattle.std.proofs.lemmas.Str.Ascii.{IsAscii-from_all}
use Rattle.std.proofs.lemmas.Bool.{ltb-false, lt-ltb, le-ltb}
use Rattle.std.proofs.lemmas.Bool.Decides.{nat_tests}
use Rattle.httparse.specs.Grammar.{RequestHead, IsRequestHead, is_token_byte}
use Rattle.httparse.specs.Spans.{span_bytes}
use Rattle.wb_outer.specs.Door.{DoorTold}
use Rattle.wb_http.specs.declared.heads.Head.{Head}
use Rattle.wb_http.specs.declared.refusals.HttpRefusal.{HttpRefusal}
use Rattle.wb_http.specs.declared.refusals.HttpRefusal.TheVariants.{HeadTooLarge, BadHead, NotImplemented, BodyTooLarge}
use Rattle.wb_http.specs.declared.requests.Front.{Front}
use Rattle.wb_http.specs.declared.requests.Request.{Request}
use Rattle.wb_http.specs.declared.requests.RequestEnd.{RequestEnd}
use Rattle.wb_http.specs.declared.requests.RequestEnd.TheVariants as ends
use Rattle.wb_http.specs.Ends.{head_length, lines_of, Tells}
use Rattle.wb_http.specs.Fields.{length_of}
use Rattle.wb_http.specs.Heads.{IsJudged, IsJudgedShort}
use Rattle.wb_http.specs.Requests.{head_limit, body_limit, line_limit, within_limit, length_by, breaks_host, values_in, announced, request_of, with_body, Taken, Whole, Bad, Short, JudgesLines, TakesAt, Takes}
use Rattle.wb_http.specs.Fronts.{Fills, HasFront, IsDoorEnd, IsEnd, IsSeen, Misses, request_at, request_limit}
use Rattle.wb_http.specs.declared.ends.Progress.{Progress}
use Rattle.wb_http.specs.declared.ends.Mark.TheVariants.{Blank}
use Rattle.wb_http.specs.Reading.{Answers, ReadsOne}
use Rattle.wb_http.proofs.Ending.{tells_none}
use Rattle.wb_http.proofs.Moving.{IsOwnEnd, gives_own}
use Rattle.wb_http.proofs.Staying.{front_stays, front_fits, seen_stays, seen_within}

pub takes_by : (bytes : List ℕ) (found : Option ℕ) (taken : Taken) → head_length (take head_limit bytes) ≡ found → TakesAt found bytes taken → Takes bytes taken
unfolding Takes
takes_by bytes found taken is by = subst (λ f. TakesAt f bytes taken) (sym is) by

-- no head ends in these bytes yet
pub takes_short : (bytes : List ℕ) → head_length (take head_limit bytes) ≡ None → length bytes < head_limit → Takes bytes Short
takes_short bytes is less = takes_by bytes None Short is (sym (ap (λ b. cond b Short (Bad HeadTooLarge)) (lt-ltb (length bytes) head_limit less)))

pub takes_long : (bytes : List ℕ) → IsEnd bytes None → Takes bytes (Bad HeadTooLarge)
takes_long bytes long = takes_by bytes None (Bad HeadTooLarge) long.0 (sym (ap (λ b. cond b Short (Bad HeadTooLarge)) (le-ltb (length bytes) head_limit long.1)))

pub takes_bad : (bytes : List ℕ) (n : ℕ) (refusal : HttpRefusal) → head_length (take head_limit bytes) ≡ Some n → IsJudged (take n bytes) (Err refusal) → Takes bytes (Bad refusal)
takes_bad bytes n refusal is judged = takes_by bytes (Some n) (Bad refusal) is (judged (drop n bytes))

-- a body is announced within the limit
limit_small : (found : Option ℕ) (n : ℕ) → within_limit found ≡ Ok n → n ≤ body_limit
limit_small None n is = absurd (cc is)
limit_small (Some m) n is = by (nat_lt body_limit m) refl is
  where
    by : (u : Bool) → nat_lt body_limit m ≡ u → cond u (Err BodyTooLarge) (Ok m) ≡ Ok n → n ≤ body_limit
    by true less is = absurd (cc is)
    by false less is =
        let same : m ≡ n = cc in
        omega (arith, same, ltb-false body_limit m less)

length_small : (is_post : Bool) (found : List (List ℕ)) (n : ℕ) → length_by is_post found ≡ Ok n → n ≤ body_limit
length_small true [] n is = absurd (cc is)
length_small false [] n is =
    let same : 0 ≡ n = cc in
    omega (arith, same)
length_small is_post (value ∷ []) n is = limit_small (length_of value) n is
length_small is_post (value ∷ other ∷ more) n is = absurd (cc is)

pub announced_small : (head : RequestHead) (n : ℕ) → announced head ≡ Ok n → n ≤ body_limit
announced_small head n is = by (breaks_host head) (not (length (values_in head (codes "transfer-encoding")) == 0)) is
  where
    by : (u v : Bool) → cond u (Err BadHead) (cond v (Err NotImplemented) (length_by (bytes_eq head.method (codes "POST")) (values_in head (codes "content-length")))) ≡ Ok n → n ≤ body_limit
    by true v is = absurd (cc is)
    by false true is = absurd (cc is)
    by false false is = length_small (bytes_eq head.method (codes "POST")) (values_in head (codes "content-length")) n is

pub front_small : (bytes : List ℕ) (n : ℕ) (kept : Head) → head_length (take head_limit bytes) ≡ Some n → IsJudged (take n bytes) (Ok kept) → n + kept.body ≤ request_limit
front_small bytes n kept is judged =
    let fits = front_fits bytes n is in
    let small = announced_small judged.1.0 kept.body judged.1.2.body in
    omega (arith, fits.0, small)

token_is_ascii : (b : ℕ) → is_token_byte b ≡ true → b < 128
unfolding is_token_byte
token_is_ascii b token = grind (arith, nat_tests)

method_text : (head : RequestHead) → IsRequestHead head → IsUtf8 head.method
method_text head is = IsUtf8-from_ascii _ (IsAscii-from_all _ (All-weaker (λ b. is_token_byte b ≡ true) (λ b. b < 128) token_is_ascii _ is.method.1))

-- a method is a text
pub front_text : (bytes : List ℕ) (front : Front) → HasFront bytes front → IsUtf8 (span_bytes (take front.end bytes) front.head.method)
front_text bytes front has = subst IsUtf8 (sym has.judged.2.method) (method_text has.judged.0 has.judged.1.reads.0)

-- a head at the front stays there
pub front_grows : (bytes more : List ℕ) (front : Front) → HasFront bytes front → HasFront (bytes ++ more) front
front_grows bytes more front has =
    let fits = front_fits bytes front.end has.ends in
    let same : take front.end bytes ≡ take front.end (bytes ++ more) = sym (take-append-le front.end bytes more fits.1) in
    record {
      ends = front_stays bytes more front.end has.ends;
      lines = subst (λ head. nat_lt line_limit (lines_of head) ≡ false) same has.lines;
      judged = subst (λ head. IsJudgedShort head (Ok front.head)) same has.judged;
    }

pub front_filled : (held held' : List ℕ) (old new : DoorTold) (end : Option RequestEnd) (front : Front) → Fills held held' old new end → HasFront held front → HasFront held' front
front_filled held held' old new end front fills has = subst (λ bytes. HasFront bytes front) (sym fills.grown) (front_grows held fills.got front has)

takes_front : (bytes : List ℕ) (front : Front) (taken : Taken) (has : HasFront bytes front) → taken ≡ with_body has.judged.0 (Ok front.head.body) (drop front.end bytes) → Takes bytes taken
takes_front bytes front taken has is =
    let announces = ap (λ a. with_body has.judged.0 a (drop front.end bytes)) (sym has.judged.2.body) in
    takes_by bytes (Some front.end) taken has.ends (subst (λ many. JudgesLines many (take front.end bytes) (drop front.end bytes) taken) (sym has.lines) (inl (has.judged.0, has.judged.1, is ∙ announces)))

-- its body is not whole yet
pub front_short : (bytes : List ℕ) (front : Front) → HasFront bytes front → length bytes < front.end + front.head.body → Takes bytes Short
front_short bytes front has less =
    let fits = front_fits bytes front.end has.ends in
    let count : length (drop front.end bytes) ≡ length bytes - front.end = length-drop front.end bytes in
    let few : length (drop front.end bytes) < front.head.body = omega (arith, count, less, fits.1) in
    takes_front bytes front Short has (sym (ap (λ b. cond b Short (Whole (request_of has.judged.0 (take front.head.body (drop front.end bytes))) (drop front.head.body (drop front.end bytes)))) (lt-ltb (length (drop front.end bytes)) front.head.body few)))

-- its body is whole
pub front_whole : (bytes : List ℕ) (front : Front) → HasFront bytes front → front.end + front.head.body ≤ length bytes → Takes bytes (Whole (request_at bytes front) (drop (front.end + front.head.body) bytes))
front_whole bytes front has whole =
    let fits = front_fits bytes front.end has.ends in
    let count : length (drop front.end bytes) ≡ length bytes - front.end = length-drop front.end bytes in
    let enough : front.head.body ≤ length (drop front.end bytes) = omega (arith, count, whole, fits.1) in
    let body = take front.head.body (drop front.end bytes) in
    let rest = drop front.head.body (drop front.end bytes) in
    let kept = has.judged.2 in
    let same : request_at bytes front ≡ request_of has.judged.0 body =
    ap (λ (method : List ℕ). record { method = method; target = span_bytes (take front.end bytes) front.head.target; body = body; close = front.head.close }) kept.method
    ∙ ap (λ (target : List ℕ). record { method = has.judged.0.method; target = target; body = body; close = front.head.close }) kept.target
    ∙ ap (λ (close : Bool). record { method = has.judged.0.method; target = has.judged.0.target; body = body; close = close }) kept.close in
    let all : Whole (request_at bytes front) (drop (front.end + front.head.body) bytes) ≡ Whole (request_of has.judged.0 body) rest =
    ap (λ q. Whole q (drop (front.end + front.head.body) bytes)) same ∙ ap (Whole (request_of has.judged.0 body)) (sym (drop-drop front.head.body front.end bytes)) in
    takes_front bytes front _ has (all ∙ sym (ap (λ b. cond b Short (Whole (request_of has.judged.0 body) rest)) (le-ltb (length (drop front.end bytes)) front.head.body enough)))

-- the door ended the call in bytes that are less than a request
pub misses_by : (bytes : List ℕ) (end : RequestEnd) → IsDoorEnd end → Takes bytes Short → Misses bytes end
misses_by bytes ends.Ended by short = short
misses_by bytes ends.Failed by short = short
misses_by bytes (ends.Bad refusal) by short = absurd by
misses_by bytes ends.NoMemory by short = absurd by

-- the head is refused
pub own_bad : (bytes : List ℕ) (end : RequestEnd) → (refusal : HttpRefusal) × (end ≡ ends.Bad refusal) × Takes bytes (Bad refusal) → IsOwnEnd end
own_bad bytes end bad = subst IsOwnEnd (sym bad.1) tt

pub misses_bad : (bytes : List ℕ) (end : RequestEnd) → (refusal : HttpRefusal) × (end ≡ ends.Bad refusal) × Takes bytes (Bad refusal) → Misses bytes end
misses_bad bytes end bad = subst (Misses bytes) (sym bad.1) bad.2

-- what was seen of the bytes stays seen
pub seen_on : (progress : Progress) (held got held' : List ℕ) → held' ≡ held ++ got → IsSeen progress held → IsSeen progress held'
seen_on progress held got held' grown seen =
    let longer : take progress.seen (take head_limit held') ≡ take progress.seen (take head_limit held) = ap (λ bytes. take progress.seen (take head_limit bytes)) grown ∙ seen_stays held got progress.seen seen.within in
    record {
      within = subst (λ bytes. progress.seen ≤ length (take head_limit bytes)) (sym grown) (seen_within held got progress.seen seen.within);
      tells = subst (Tells progress.mark) (sym longer) seen.tells;
    }

pub seen_none : (bytes : List ℕ) → IsSeen (record { seen = 0; mark = Blank }) bytes
seen_none bytes = record { within = omega arith; tells = tells_none (take head_limit bytes) }

-- what a call found where none or a whole request stands is what it answers
pub answers_miss : (bytes held' : List ℕ) (end : RequestEnd) → held' ≡ bytes → Misses held' end → Answers (Err end) bytes held'
answers_miss bytes held' ends.Ended is misses = (subst (λ b. Takes b Short) is misses, is)
answers_miss bytes held' ends.Failed is misses = (subst (λ b. Takes b Short) is misses, is)
answers_miss bytes held' (ends.Bad refusal) is misses = (subst (λ b. Takes b (Bad refusal)) is misses, is)
answers_miss bytes held' ends.NoMemory is misses = absurd misses

pub one_missed : (held held' : List ℕ) (old new : DoorTold) (end : RequestEnd) → Fills held held' old new (Some end) → Misses held' end → ReadsOne held held' old new (Err end)
one_missed held held' old new end fills misses = record { got = fills.got; gives = fills.gives; answered = answers_miss (held ++ fills.got) held' end fills.grown misses }

pub one_made : (held held' rest : List ℕ) (old new : DoorTold) (front : Front) (request : Request) → Fills held held' old new None → HasFront held' front → front.end + front.head.body ≤ length held'
    → request ≡ request_at held' front → rest ≡ drop (front.end + front.head.body) held' → ReadsOne held rest old new (Ok request)
one_made held held' rest old new front request fills has whole made left =
    let taken : Takes held' (Whole (request_at held' front) (drop (front.end + front.head.body) held')) = front_whole held' front has whole in
    let same : Whole (request_at held' front) (drop (front.end + front.head.body) held') ≡ Whole request rest = ap (λ q. Whole q (drop (front.end + front.head.body) held')) (sym made) ∙ ap (Whole request) (sym left) in
    record {
      got = fills.got;
      gives = fills.gives;
      answered = subst (λ bytes. Takes bytes (Whole request rest)) fills.grown (subst (Takes held') same taken);
    }

unmade : (held held' : List ℕ) (old new : DoorTold) → Fills held held' old new None → ReadsOne held held' old new (Err ends.NoMemory)
unmade held held' old new fills = record { got = fills.got; gives = gives_own ends.NoMemory old new fills.got tt fills.gives; answered = fills.grown }

pub one_unmade : (held held' rest : List ℕ) (old new : DoorTold) (end : RequestEnd) → Fills held held' old new None → rest ≡ held' → end ≡ ends.NoMemory → ReadsOne held rest old new (Err end)
one_unmade held held' rest old new end fills same is = subst (λ e. ReadsOne held rest old new (Err e)) (sym is) (subst (λ (r : List ℕ). ReadsOne held r old new (Err ends.NoMemory)) (sym same) (unmade held held' old new fills))

-- the request, or want of memory for it
pub one_taken : (held held' rest : List ℕ) (old new : DoorTold) (front : Front) (result : Result Request RequestEnd) → Fills held held' old new None → HasFront held' front → front.end + front.head.body ≤ length held'
    → IfOk result (λ request. request ≡ request_at held' front) → OnOk result (rest ≡ drop (front.end + front.head.body) held') → OnErr result (rest ≡ held') → IfErr result (λ end. end ≡ ends.NoMemory) → ReadsOne held rest old new result
one_taken held held' rest old new front (Ok request) fills has whole made left same is = one_made held held' rest old new front request fills has whole made left
one_taken held held' rest old new front (Err end) fills has whole made left same is = one_unmade held held' rest old new end fills same is

pub taken_within : (n m : ℕ) (bytes : List ℕ) → m ≡ min (length bytes) n → take m bytes ≡ take n bytes
taken_within n m bytes is =
    let turned : m ≡ min n (length bytes) = omega (arith, is) in
    ap (λ (k : ℕ). take k bytes) turned ∙ take_min n bytes

-- what is seen under one name is seen under another
pub seen_at : (progress : Progress) (a b : List ℕ) → a ≡ b → IsSeen progress a → IsSeen progress b
seen_at progress a b is = subst (IsSeen progress) is
