-- What is seen of a source of answers, before and after it is asked.
use Rattle.std.specs.Prelude.{◌≡◌, ℕ, ◌+◌, ◌≤◌, Bool, true, List, ◌++◌, map, Result, Ok, Err}
use Rattle.std.specs.List.{sum_by}
use Rattle.std.specs.Borrow.{GName}
use Rattle.wb_metamodel.specs.Metamodel.{Metamodel}
use Rattle.wb_aql_values.specs.declared.values.Answer.{Answer}
use Rattle.wb_diagram.specs.declared.units.Unit.{Unit}
use Rattle.wb_answers.specs.declared.answers.Stop.{Stop}
use Rattle.wb_answers.specs.declared.answers.Stop.TheVariants.{TooLarge}
use Rattle.wb_answers.specs.declared.rows.Row.{Row}

-- the answer of each unit
abbrev pub Told : Type 0
Told = Unit → Answer

-- The metamodel that values are over, the answer of each unit, the units asked so far, and whether they are too many or weigh too much.
-- Then each unit with its outcome, what is kept of those asked, what was spent and what a unit costs, and the names of what is lent.
pub record Seen : Type 0 where
  pub metamodel : Metamodel
  pub told : Told
  pub asked : List Unit
  pub over : Bool
  pub row : Unit → Row
  pub kept : List Row
  pub spent : ℕ
  pub cost : Unit → ℕ
  pub lenders : List GName

-- after these units were asked, one after the other
unfoldable pub after : Seen → List Unit → Seen
after s us = record {
  metamodel = s.metamodel;
  told = s.told;
  asked = s.asked ++ us;
  over = s.over;
  row = s.row;
  kept = s.kept ++ map s.row us;
  spent = s.spent + sum_by s.cost us;
  cost = s.cost;
  lenders = s.lenders;
}

-- a refusal came while these units were asked: a front of them was asked, and at most all were paid for
pub record Stopped (before : Seen) (units : List Unit) (now : Seen) : Type 0 where
  pub front : List Unit
  pub rest : List Unit
  pub is : front ++ rest ≡ units
  pub asked : now.asked ≡ before.asked ++ front
  pub kept : now.kept ≡ before.kept ++ map before.row front
  pub spent : now.spent ≤ before.spent + sum_by before.cost units
  pub metamodel : now.metamodel ≡ before.metamodel
  pub told : now.told ≡ before.told
  pub row : now.row ≡ before.row
  pub cost : now.cost ≡ before.cost
  pub lenders : now.lenders ≡ before.lenders

-- the same, and the refusal is `TooLarge` only where the units asked are too many now, or weigh too much
pub record Refused (before : Seen) (units : List Unit) (stop : Stop) (now : Seen) : Type 0 where
  pub stopped : Stopped before units now
  pub large : stop ≡ TooLarge → now.over ≡ true

-- these units were asked one after the other, or a refusal came while they were
abbrev pub Asks : {A : Type 0} → Seen → List Unit → Result A Stop → Seen → Type 0
Asks before units (Ok _) now = now ≡ after before units
Asks before units (Err stop) now = Refused before units stop now
