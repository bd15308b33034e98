-- Edges that are put while their units are asked.
use Rattle.std.specs.Prelude.{◌≡◌, ◌≤◌, ◌<◌, ◌⊎◌, ℕ, true, List, length, Result, Ok, Err}
use Rattle.wb_diagram.specs.declared.keys.EdgeKey.{EdgeKey}
use Rattle.wb_diagram.specs.declared.units.Unit.{Unit}
use Rattle.wb_answers.specs.Seen.{Seen, Stopped, after}
use Rattle.wb_answers.specs.declared.answers.Stop.{Stop}
use Rattle.wb_answers.specs.declared.answers.Stop.TheVariants.{TooLarge}
use Rattle.wb_edges.specs.Puts.{put_all}

-- the units were asked and the edges put
pub record Drawn (before : Seen) (units : List Unit) (edges more : List EdgeKey) (room : ℕ) (now : Seen) (new : List EdgeKey) : Type 0 where
  pub asked : now ≡ after before units
  pub put : new ≡ put_all edges more
  pub few : length new ≤ room

-- a refusal came meanwhile; it is `TooLarge` only where those asked are too many or weigh too much, or there is no room for the edges
pub record Undrawn (before : Seen) (units : List Unit) (edges more : List EdgeKey) (room : ℕ) (stop : Stop) (now : Seen) : Type 0 where
  pub stopped : Stopped before units now
  pub large : stop ≡ TooLarge → (now.over ≡ true) ⊎ (room < length (put_all edges more))

abbrev pub Draws : {A : Type 0} → Seen → List Unit → (edges more : List EdgeKey) → (room : ℕ) → Result A Stop → Seen → List EdgeKey → Type 0
Draws before units edges more room (Ok _) now new = Drawn before units edges more room now new
Draws before units edges more room (Err stop) now new = Undrawn before units edges more room stop now
