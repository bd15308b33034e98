-- What is decided stays decided, whatever bytes follow; bytes have one answer; less than a request is short.
use Rattle.std.proofs.Common.{◌≡◌, refl, ◌∙◌, sym, ap, subst, ℕ, ◌+◌, ◌-◌, ◌<◌, ◌≤◌, inl, inr, Bool, true, false, cond, nat_lt, List, [], ◌++◌, length, take, drop, Option, None, Some, Result, Ok, Err, length-drop, length-append, arith}
use Rattle.std.proofs.lemmas.List.{take-append-le, drop-append-le}
use Rattle.std.proofs.lemmas.Bool.{ltb-true, ltb-false, le-ltb}
use Rattle.httparse.specs.Grammar.{RequestHead}
use Rattle.httparse.proofs.GrammarLemmas.{request_unique}
use Rattle.wb_http.specs.declared.refusals.HttpRefusal.{HttpRefusal}
use Rattle.wb_http.specs.declared.refusals.HttpRefusal.TheVariants.{HeadTooLarge}
use Rattle.wb_http.specs.Ends.{head_length, lines_of}
use Rattle.wb_http.specs.Requests.{head_limit, line_limit, body_limit, announced, request_of, with_body, Taken, Whole, Bad, Short, JudgesLines, TakesAt, Takes}
use Rattle.wb_http.specs.Fronts.{request_limit}
use Rattle.wb_http.specs.Laws.{IsDecided, with_more}
use Rattle.wb_http.proofs.Staying.{front_stays, front_fits}
use Rattle.wb_http.proofs.Fronting.{takes_by, takes_long, announced_small}

-- by the length of the head
cases_of : {P : Type 0} (bytes : List ℕ) (taken : Taken) → ((found : Option ℕ) → head_length (take head_limit bytes) ≡ found → TakesAt found bytes taken → P) → Takes bytes taken → P
unfolding Takes
cases_of bytes taken by takes = by (head_length (take head_limit bytes)) refl takes

whole_stays : (head : RequestHead) (n : ℕ) (behind more : List ℕ) (taken : Taken) → taken ≡ with_body head (Ok n) behind → IsDecided taken → with_more taken more ≡ with_body head (Ok n) (behind ++ more)
whole_stays head n behind more taken is decided = by (nat_lt (length behind) n) refl is
  where
    by : (u : Bool) → nat_lt (length behind) n ≡ u → taken ≡ cond u Short (Whole (request_of head (take n behind)) (drop n behind)) → with_more taken more ≡ with_body head (Ok n) (behind ++ more)
    by true less is = absurd (subst IsDecided is decided)
    by false less is =
        let within : n ≤ length behind = ltb-false (length behind) n less in
        let count : length (behind ++ more) ≡ length behind + length more = length-append behind more in
        let longer : nat_lt (length (behind ++ more)) n ≡ false = le-ltb (length (behind ++ more)) n (omega (arith, within, count)) in
        let body : take n (behind ++ more) ≡ take n behind = take-append-le n behind more within in
        let rest : drop n (behind ++ more) ≡ drop n behind ++ more = drop-append-le n behind more within in
        ap (λ t. with_more t more) is ∙ ap (λ b. Whole (request_of head b) (drop n behind ++ more)) (sym body) ∙ ap (Whole (request_of head (take n (behind ++ more)))) (sym rest)
        ∙ ap (λ u. cond u Short (Whole (request_of head (take n (behind ++ more))) (drop n (behind ++ more)))) (sym longer)

body_stays : (head : RequestHead) (length_is : Result ℕ HttpRefusal) (behind more : List ℕ) (taken : Taken) → taken ≡ with_body head length_is behind → IsDecided taken → with_more taken more ≡ with_body head length_is (behind ++ more)
body_stays head (Err refusal) behind more taken is decided = ap (λ t. with_more t more) is
body_stays head (Ok n) behind more taken is decided = whole_stays head n behind more taken is decided

judged_stays : (many : Bool) (bytes behind more : List ℕ) (taken : Taken) → JudgesLines many bytes behind taken → IsDecided taken → JudgesLines many bytes (behind ++ more) (with_more taken more)
judged_stays true bytes behind more taken is decided = ap (λ t. with_more t more) is
judged_stays false bytes behind more taken (inl read) decided = inl (read.0, read.1, body_stays read.0 (announced read.0) behind more taken read.2 decided)
judged_stays false bytes behind more taken (inr none) decided = inr (none.0, ap (λ t. with_more t more) none.1)

long_stays : (bytes more : List ℕ) (taken : Taken) → head_length (take head_limit bytes) ≡ None → taken ≡ cond (nat_lt (length bytes) head_limit) Short (Bad HeadTooLarge) → IsDecided taken → Takes (bytes ++ more) (with_more taken more)
long_stays bytes more taken none is decided = by (nat_lt (length bytes) head_limit) refl is
  where
    by : (u : Bool) → nat_lt (length bytes) head_limit ≡ u → taken ≡ cond u Short (Bad HeadTooLarge) → Takes (bytes ++ more) (with_more taken more)
    by true less is = absurd (subst IsDecided is decided)
    by false less is =
        let all : head_limit ≤ length bytes = ltb-false (length bytes) head_limit less in
        let count : length (bytes ++ more) ≡ length bytes + length more = length-append bytes more in
        let still : head_length (take head_limit (bytes ++ more)) ≡ None = ap head_length (take-append-le head_limit bytes more all) ∙ none in
        subst (Takes (bytes ++ more)) (ap (λ t. with_more t more) (sym is)) (takes_long (bytes ++ more) (still, omega (arith, all, count)))

pub stays_decided : (bytes more : List ℕ) (taken : Taken) → Takes bytes taken → IsDecided taken → Takes (bytes ++ more) (with_more taken more)
stays_decided bytes more taken takes decided = cases_of bytes taken by takes
  where
    by : (found : Option ℕ) → head_length (take head_limit bytes) ≡ found → TakesAt found bytes taken → Takes (bytes ++ more) (with_more taken more)
    by None is takes = long_stays bytes more taken is takes decided
    by (Some n) is takes =
        let fits = front_fits bytes n is in
        let front : take n bytes ≡ take n (bytes ++ more) = sym (take-append-le n bytes more fits.1) in
        let back : drop n bytes ++ more ≡ drop n (bytes ++ more) = sym (drop-append-le n bytes more fits.1) in
        let judged = judged_stays (nat_lt line_limit (lines_of (take n bytes))) (take n bytes) (drop n bytes) more taken takes decided in
        let moved = subst (λ head. JudgesLines (nat_lt line_limit (lines_of head)) head (drop n bytes ++ more) (with_more taken more)) front judged in
        takes_by (bytes ++ more) (Some n) (with_more taken more) (front_stays bytes more n is)
        (subst (λ behind. JudgesLines (nat_lt line_limit (lines_of (take n (bytes ++ more)))) (take n (bytes ++ more)) behind (with_more taken more)) back moved)

body_short : (head : RequestHead) (length_is : Result ℕ HttpRefusal) (behind : List ℕ) → ((n : ℕ) → length_is ≡ Ok n → n ≤ body_limit) → Short ≡ with_body head length_is behind → length behind < body_limit
body_short head (Err refusal) behind small is = absurd (cc is)
body_short head (Ok n) behind small is = by (nat_lt (length behind) n) refl is
  where
    by : (u : Bool) → nat_lt (length behind) n ≡ u → Short ≡ cond u Short (Whole (request_of head (take n behind)) (drop n behind)) → length behind < body_limit
    by true less is = omega (arith, ltb-true (length behind) n less, small n refl)
    by false less is = absurd (cc is)

judged_short : (many : Bool) (bytes behind : List ℕ) → JudgesLines many bytes behind Short → length behind < body_limit
judged_short true bytes behind is = absurd (cc is)
judged_short false bytes behind (inl read) = body_short read.0 (announced read.0) behind (announced_small read.0) read.2
judged_short false bytes behind (inr none) = absurd (cc none.1)

pub short_within : (bytes : List ℕ) → Takes bytes Short → length bytes < request_limit
short_within bytes takes = cases_of bytes Short by takes
  where
    few : (u : Bool) → nat_lt (length bytes) head_limit ≡ u → Short ≡ cond u Short (Bad HeadTooLarge) → length bytes < request_limit
    few true less is = omega (arith, ltb-true (length bytes) head_limit less)
    few false less is = absurd (cc is)

    by : (found : Option ℕ) → head_length (take head_limit bytes) ≡ found → TakesAt found bytes Short → length bytes < request_limit
    by None is takes = few (nat_lt (length bytes) head_limit) refl takes
    by (Some n) is takes =
        let fits = front_fits bytes n is in
        let behind = judged_short (nat_lt line_limit (lines_of (take n bytes))) (take n bytes) (drop n bytes) takes in
        let count : length (drop n bytes) ≡ length bytes - n = length-drop n bytes in
        omega (arith, fits.0, fits.1, behind, count)

judged_once : (many : Bool) (bytes behind : List ℕ) (t u : Taken) → JudgesLines many bytes behind t → JudgesLines many bytes behind u → t ≡ u
judged_once true bytes behind t u one two = one ∙ sym two
judged_once false bytes behind t u (inl one) (inl two) =
    let same = request_unique bytes one.0 two.0 [] [] one.1.reads two.1.reads in
    one.2 ∙ ap (λ (head : RequestHead). with_body head (announced head) behind) same.0 ∙ sym two.2
judged_once false bytes behind t u (inl one) (inr none) = absurd (none.0 one.0 one.1)
judged_once false bytes behind t u (inr none) (inl two) = absurd (none.0 two.0 two.1)
judged_once false bytes behind t u (inr none) (inr none') = none.1 ∙ sym none'.1

pub one_answer : (bytes : List ℕ) (t u : Taken) → Takes bytes t → Takes bytes u → t ≡ u
unfolding Takes
one_answer bytes t u one two = by (head_length (take head_limit bytes)) one two
  where
    by : (found : Option ℕ) → TakesAt found bytes t → TakesAt found bytes u → t ≡ u
    by None one two = one ∙ sym two
    by (Some n) one two = judged_once (nat_lt line_limit (lines_of (take n bytes))) (take n bytes) (drop n bytes) t u one two
