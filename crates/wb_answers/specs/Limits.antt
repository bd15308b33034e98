-- Asking where there is a limit on how many may be declared.
use Rattle.std.specs.Prelude.{◌≡◌, ◌≤◌, ◌<◌, ◌⊎◌, ℕ, true, List, Result, Ok, Err}
use Rattle.wb_diagram.specs.declared.units.Unit.{Unit}
use Rattle.wb_answers.specs.declared.answers.Stop.{Stop}
use Rattle.wb_answers.specs.declared.answers.Stop.TheVariants.{TooLarge}
use Rattle.wb_answers.specs.Seen.{Seen, after, Stopped}

-- how many elements and edges are declared at most
abbrev pub limit : ℕ
limit = 100000

-- all units were asked, and so many are within the limit
pub record WithinLimit (before : Seen) (units : List Unit) (count : ℕ) (now : Seen) : Type 0 where
  pub asked : now ≡ after before units
  pub few : count ≤ limit

-- a refusal came while the units were asked; it is `TooLarge` only where those asked are too many or weigh too much, or so many pass the limit
pub record Limited (before : Seen) (units : List Unit) (count : ℕ) (stop : Stop) (now : Seen) : Type 0 where
  pub stopped : Stopped before units now
  pub large : stop ≡ TooLarge → (now.over ≡ true) ⊎ (limit < count)

abbrev pub AsksUpTo : {A : Type 0} → Seen → List Unit → (count : ℕ) → Result A Stop → Seen → Type 0
AsksUpTo before units count (Ok _) now = WithinLimit before units count now
AsksUpTo before units count (Err stop) now = Limited before units count stop now
