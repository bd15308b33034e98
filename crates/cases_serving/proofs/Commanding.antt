-- What a command is answered, by its body and the count.
use Rattle.std.proofs.Common.{◌≡◌, ◌∙◌, refl, sym, ap, ℕ, ◌+◌, ◌<◌, ◌≤◌, Bool, true, false, List, nat_lt, arith}
use Rattle.std.specs.Prelude.{bytes_eq, codes, None}
use Rattle.std.proofs.lemmas.Bool.Decides.{nat_tests}
use Rattle.wb_http.specs.Replies.{response}
use Rattle.wb_http.specs.declared.routes.Route.TheVariants.{Command}
use Rattle.wb_serving.specs.Machines.{Outcome, MachineTold, Answers, text_of}
use Rattle.wb_serving.specs.declared.machine.Answer.{Answer}
use Rattle.wb_serving.specs.declared.machine.Answer.TheVariants.{Made, NoMemory, Unkept}
use Rattle.cases_serving.specs.Tallies.{Says, Adds, says, commanded, digit_of, tally_law}

pub is_less : (n : ℕ) → n < 9 → nat_lt n 9 ≡ true
is_less n less = grind (arith, nat_tests)

pub is_not_less : (n : ℕ) → 9 ≤ n → nat_lt n 9 ≡ false
is_not_less n more = grind (arith, nat_tests)

module _ (told : MachineTold ℕ) (body : List ℕ) (close : Bool) where
  pub said : (status : ℕ) (text : List ℕ) (answer : Answer) → commanded (bytes_eq body (codes "+")) (nat_lt told.state 9) told.state ≡ says status text told.state → Says (response status None close text) answer → Answers tally_law told told Command body close answer
  said status text (Made given) is due = record { answered = (due ∙ ap (λ o. text_of o close) (sym is), ap (λ o. o.after) (sym is)); keeps = record { rows = λ was. was; later = omega arith }; failed = λ f. cc }
  said status text NoMemory is due = record { answered = refl; keeps = record { rows = λ was. was; later = omega arith }; failed = λ f. cc }
  said status text Unkept is due = absurd due

  pub added : (new : MachineTold ℕ) (answer : Answer) → bytes_eq body (codes "+") ≡ true → nat_lt told.state 9 ≡ true → Adds told new close answer → Answers tally_law told new Command body close answer
  added new answer is less adds = by answer adds
    where
      is_both : commanded (bytes_eq body (codes "+")) (nat_lt told.state 9) told.state ≡ says 200 (digit_of (told.state + 1)) (told.state + 1)
      is_both = ap (λ b. commanded b (nat_lt told.state 9) told.state) is ∙ ap (λ b. commanded true b told.state) less

      by : (answer : Answer) → Adds told new close answer → Answers tally_law told new Command body close answer
      by (Made given) adds = record { answered = (adds.added.0 ∙ ap (λ o. text_of o close) (sym is_both), adds.added.1 ∙ ap (λ o. o.after) (sym is_both)); keeps = adds.keeps; failed = adds.failed }
      by NoMemory adds = record { answered = adds.added; keeps = adds.keeps; failed = adds.failed }
      by Unkept adds = record { answered = (adds.added, (refl, ap (λ o. o.status) is_both)); keeps = adds.keeps; failed = adds.failed }

  -- a count that is full
  pub full : (answer : Answer) → bytes_eq body (codes "+") ≡ true → 9 ≤ told.state → Says (response 422 None close (codes "full")) answer → Answers tally_law told told Command body close answer
  full answer is more = said 422 (codes "full") answer (ap (λ b. commanded b (nat_lt told.state 9) told.state) is ∙ ap (λ b. commanded true b told.state) (is_not_less told.state more))
