-- A diagram that was evaluated from scratch.
use Rattle.std.specs.Prelude.{◌≡◌, ℕ, Bool, ◌||◌, nat_lt, List, length, map, Option, Some, None, option_map, if◌then◌else◌}
use Rattle.std.specs.List.{list_any}
use Rattle.std.specs.Map.{lookup}
use Rattle.wb_diagram.specs.declared.diagrams.Look.{Look}
use Rattle.wb_diagram.specs.declared.diagrams.Problem.{Problem}
use Rattle.wb_diagram.specs.declared.keys.EdgeKey.{EdgeKey}
use Rattle.wb_diagram.specs.declared.keys.Key.{Key}
use Rattle.wb_diagram.specs.declared.units.Unit.{Unit}
use Rattle.wb_aql_values.specs.declared.values.Answer.{Answer}
use Rattle.wb_aql_eval.specs.declared.env.Outcome.{Outcome}
use Rattle.wb_answers.specs.declared.rows.Row.{Row}
use Rattle.wb_nodes.specs.Nodes.{nodes}
use Rattle.wb_refresh.specs.Diagrams.{edges_of, filtered_of, looks_of, size_of, units_of}
use Rattle.wb_refresh.specs.Faults.{problems_of}
use Rattle.wb_refresh.specs.Outcomes.{Gives, outcome, row, told}
use Rattle.wb_refresh.specs.SameUnits.{same_unit}
use Rattle.wb_refresh.specs.Subjects.{Subject, scene}
use Rattle.wb_refresh.specs.Weights.{is_over}

-- what is kept: the keys of the declared elements and edges, the looks by key, and by filter which keys it hides; the problems, the number of units, and units with their outcomes
pub record Kept : Type 0 where
  pub nodes : List Key
  pub edges : List EdgeKey
  pub looks : List Look
  pub filtered : List (List Bool)
  pub problems : List Problem
  pub units : ℕ
  pub outcomes : List (Unit × Outcome)

-- the outcome that is kept of a unit
abbrev pub outcome_in : Kept → Unit → Option Outcome
outcome_in kept unit = lookup (same_unit unit) kept.outcomes

abbrev pub answer_in : Kept → Unit → Option Answer
answer_in kept unit = option_map (λ (it : Outcome). it.answer) (outcome_in kept unit)

-- ---- the diagram of a subject

-- its units, in order
abbrev pub all_units : Gives → Subject → List Unit
all_units gives s = units_of (scene s) (told gives s.setting)

-- its units with their outcomes
abbrev pub all_rows : Gives → Subject → List Row
all_rows gives s = map (row gives s.setting) (all_units gives s)

-- is the unit one of these?
abbrev pub is_among : List Unit → Unit → Bool
is_among units unit = list_any (same_unit unit) units

-- there are more than 100,000 units, or elements and edges together, or all outcomes together weigh more than 2,000,000
abbrev pub is_too_large : Gives → Subject → Bool
is_too_large gives s = is_over (all_rows gives s) || nat_lt 100000 (size_of (scene s) (told gives s.setting))

-- what is kept is the diagram of the subject, with the outcome of each of its units, and of no other
pub record IsOpened (gives : Gives) (s : Subject) (kept : Kept) : Type 0 where
  pub nodes : kept.nodes ≡ nodes (scene s) (told gives s.setting)
  pub edges : kept.edges ≡ edges_of (scene s) (told gives s.setting)
  pub looks : kept.looks ≡ looks_of (scene s) (told gives s.setting)
  pub filtered : kept.filtered ≡ filtered_of (scene s) (told gives s.setting)
  pub problems : kept.problems ≡ problems_of s.setting.model.metamodel (all_rows gives s)
  pub units : kept.units ≡ length (all_units gives s)
  pub outcomes : (unit : Unit) → outcome_in kept unit ≡ (if is_among (all_units gives s) unit then Some (outcome gives s.setting unit) else None)
