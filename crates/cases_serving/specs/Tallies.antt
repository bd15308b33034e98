-- A machine that counts from 0 to 9.
use Rattle.std.specs.Prelude.{◌≡◌, ⊤, ℕ, ◌+◌, ◌%◌, ◌≤◌, Bool, true, false, List, [], ◌∷◌, nat_lt, bytes_eq, codes, Option, None, Some}
use Rattle.wb_outer.specs.Faults.{Rose}
use Rattle.wb_outer.specs.Keeper.{KeeperTold}
use Rattle.wb_outer.specs.declared.keeper.Committed.{Committed}
use Rattle.wb_outer.specs.declared.keeper.Committed.TheVariants.{Done, Failed, NoMemory as Lacked}
use Rattle.wb_outer.specs.declared.keeper.Row.{Row}
use Rattle.wb_http.specs.declared.replies.FixedReply.TheVariants.{BadBody, UnknownElement}
use Rattle.wb_http.specs.declared.routes.Route.{Route}
use Rattle.wb_http.specs.declared.routes.Route.TheVariants.{Diagram, Element, Model, Command, Stop}
use Rattle.wb_http.specs.Replies.{response, fixed_text}
use Rattle.wb_keepers.specs.MemoryKeepers.{memory_told}
use Rattle.wb_serving.specs.Machines.{Outcome, Law, MachineTold, Keeps}
use Rattle.wb_serving.specs.declared.machine.Answer.{Answer}
use Rattle.wb_serving.specs.declared.machine.Answer.TheVariants.{Made, NoMemory, Unkept}
use Rattle.cases_serving.specs.declared.tally.Tally.{Tally}

abbrev pub digit_of : ℕ → List ℕ
digit_of total = (48 + total % 10) ∷ []

abbrev pub says : ℕ → List ℕ → ℕ → Outcome ℕ
says status body total = record { status = status; allow = None; body = body; after = total }

-- `+` is the one command; it is accepted below 9
abbrev pub commanded : Bool → Bool → ℕ → Outcome ℕ
commanded false less total = says 400 (fixed_text BadBody) total
commanded true false total = says 422 (codes "full") total
commanded true true total = says 200 (digit_of (total + 1)) (total + 1)

abbrev pub reply : ℕ → Route → List ℕ → Outcome ℕ
reply total Diagram body = says 200 (digit_of total) total
reply total (Element key) body = says 404 (fixed_text UnknownElement) total
reply total Model body = says 200 [] total
reply total Command body = commanded (bytes_eq body (codes "+")) (nat_lt total 9) total
reply total Stop body = says 200 [] total

-- one row is kept
abbrev pub rows_of : ℕ → List Row
rows_of total = record { key = codes "total"; text = digit_of total } ∷ []

abbrev pub tally_law : Law ℕ
tally_law = record { reply = reply; rows_of = rows_of }

abbrev pub tally_told : Tally → MachineTold ℕ
tally_told tally = record { state = tally.total; rows = (memory_told tally.keeper).rows; faults = (memory_told tally.keeper).faults }

-- the reply, or want of memory
abbrev pub Says : List ℕ → Answer → Type 0
Says due (Made text) = text ≡ due
Says due NoMemory = ⊤
Says due Unkept = ⊥

-- where a count's row was kept, that of the new one is
abbrev pub IsKeptBy : Option (List Row) → Option (List Row) → ℕ → Committed → Type 0
IsKeptBy old new total Done = (s : ℕ) → old ≡ Some (rows_of s) → new ≡ Some (rows_of total)
IsKeptBy old new total Failed = new ≡ old
IsKeptBy old new total Lacked = new ≡ old

pub record IsKept (old new : KeeperTold) (total : ℕ) (committed : Committed) : Type 0 where
  pub rows : IsKeptBy old.rows new.rows total committed
  pub later : old.faults ≤ new.faults
  pub failed : committed ≡ Failed → Rose old.faults new.faults

-- one more was counted, or the count stays
abbrev pub AddsBy : ℕ → ℕ → Bool → Answer → Type 0
AddsBy old new close (Made text) = (text ≡ response 200 None close (digit_of (old + 1))) × (new ≡ old + 1)
AddsBy old new close NoMemory = new ≡ old
AddsBy old new close Unkept = new ≡ old

pub record Adds (old new : MachineTold ℕ) (close : Bool) (answer : Answer) : Type 0 where
  pub added : AddsBy old.state new.state close answer
  pub keeps : Keeps tally_law old new
  pub failed : answer ≡ Unkept → Rose old.faults new.faults
