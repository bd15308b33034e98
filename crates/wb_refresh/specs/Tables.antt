-- Tables of outcomes while units are evaluated, and what is seen of answers by evaluating.
use Rattle.std.specs.Prelude.{◌≡◌, ◌⊎◌, ℕ, ◌-◌, ◌^◌, min, true, false, List, [], ◌∷◌, ◌++◌, map, All, Some, None, Result, Ok, Err, IfOk, refl, if◌then◌else◌}
use Rattle.std.specs.List.{list_any}
use Rattle.std.specs.Map.{lookup}
use Rattle.std.specs.Borrow.{GName}
use Rattle.std.specs.Coded.{Coded, code_by, coded×, coded_list, coded_ℕ}
use Rattle.wb_metamodel.specs.Metamodel.{Metamodel}
use Rattle.wb_store.specs.Contents.{Contents}
use Rattle.wb_diagram.specs.declared.units.Unit.{Unit}
use Rattle.wb_aql_values.specs.Bounds.{IsBounded}
use Rattle.wb_aql_values.specs.Runs.{answered}
use Rattle.wb_aql_eval.specs.declared.env.Outcome.{Outcome}
use Rattle.wb_spec_check.specs.Checked.{Specification}
use Rattle.wb_answers.specs.Seen.{Seen}
use Rattle.wb_answers.specs.declared.answers.Stop.{Stop}
use Rattle.wb_answers.specs.declared.answers.Stop.TheVariants.{NoMemory}
use Rattle.wb_answers.specs.declared.rows.Row.{Row}
use Rattle.wb_refresh.specs.Outcomes.{Gives, cost, row, told}
use Rattle.wb_refresh.specs.SameUnits.{same_unit}
use Rattle.wb_refresh.specs.Subjects.{Setting, setting}
use Rattle.wb_refresh.specs.Weights.{is_over}

-- the units that were evaluated over a setting, in order, with their outcomes
pub record Evaluated : Type 0 where
  pub setting : Setting
  pub rows : List Row

abbrev pub units_in : List Row → List Unit
units_in rows = map (λ (r : Row). r.unit) rows

abbrev pub none_evaluated : Setting → Evaluated
none_evaluated s = record { setting = s; rows = [] }

abbrev pub with_row : Evaluated → Row → Evaluated
with_row t r = record { setting = t.setting; rows = t.rows ++ r ∷ [] }

abbrev pub row_with : Unit × Outcome → Row
row_with p = record { unit = p.0; outcome = p.1 }

abbrev pub evaluated : Specification → Contents → (root : ℕ) → List (Unit × Outcome) → Evaluated
evaluated spec m root outcomes = record { setting = setting spec m root; rows = map row_with outcomes }

abbrev pub evaluated_code : Coded Specification → Coded Contents → Coded Row → Coded Evaluated
evaluated_code spec model row =
    code_by (Specification × (Contents × (ℕ × List Row))) (coded× spec (coded× model (coded× coded_ℕ (coded_list row))))
    (λ t. (t.setting.spec, (t.setting.model, (t.setting.root, t.rows))))
    (λ p. record { setting = setting p.0 p.1.0 p.1.1.0; rows = p.1.1.1 })
    (λ _. refl)

-- a number as a u64 has it that stays at its last value
abbrev pub capped : ℕ → ℕ
capped n = min n (2 ^ 64 - 1)

-- the answers are within the bounds of the metamodel
abbrev pub AreWithin : Metamodel → List Row → Type 0
AreWithin mm rows = All (λ (r : Row). IfOk (answered r.outcome.answer) (IsBounded mm)) rows

-- a row is kept last, and the rows are not too many and do not weigh too much
pub record IsKept (t : Evaluated) (r : Row) (now : Evaluated) : Type 0 where
  pub last : now ≡ with_row t r
  pub fine : is_over now.rows ≡ false

-- the row was kept; or memory was wanting before, or the rows are too many with it or weigh too much
abbrev pub Keeps : {A : Type 0} → Evaluated → Row → Result A Stop → Evaluated → Type 0
Keeps t r (Ok _) now = IsKept t r now
Keeps t r (Err stop) now = ((now ≡ t) × (stop ≡ NoMemory)) ⊎ ((now ≡ with_row t r) × (is_over now.rows ≡ true))

-- what is seen of answers by evaluating: all that was evaluated is kept
abbrev pub seen_by : Gives → Evaluated → (count : ℕ) → (lenders : List GName) → Seen
seen_by gives t count lenders = record {
  metamodel = t.setting.model.metamodel;
  told = told gives t.setting;
  asked = units_in t.rows;
  over = is_over t.rows;
  row = row gives t.setting;
  kept = t.rows;
  spent = count;
  cost = cost t.setting;
  lenders = lenders;
}

-- entries by unit: where each of these units has its outcome by a function, they have that outcome of each, and none of others
abbrev pub Indexes : List Row → List (Unit × Outcome) → Type 0
Indexes rows entries =
    (f : Unit → Outcome) → All (λ (r : Row). r.outcome ≡ f r.unit) rows → (unit : Unit)
    → lookup (same_unit unit) entries ≡ (if list_any (same_unit unit) (units_in rows) then Some (f unit) else None)
