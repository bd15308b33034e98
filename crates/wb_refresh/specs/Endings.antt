-- What is left when the diagram of a subject was declared by evaluating.
use Rattle.std.specs.Prelude.{◌≡◌, ◌+◌, ◌≤◌, ℕ, true, false, length, Result, OnOk, IfErr}
use Rattle.wb_refresh.specs.Faults.{problems_of}
use Rattle.wb_answers.specs.declared.answers.Stop.{Stop}
use Rattle.wb_answers.specs.declared.answers.Stop.TheVariants.{TooLarge}
use Rattle.wb_refresh.specs.Openings.{Kept, all_rows, all_units, is_too_large}
use Rattle.wb_refresh.specs.Outcomes.{Gives}
use Rattle.wb_refresh.specs.Subjects.{Subject}
use Rattle.wb_refresh.specs.Tables.{Evaluated, Indexes}
use Rattle.wb_refresh.specs.declared.declared.Declared.{Declared}

-- all units were evaluated, and nothing is too large; or it was refused while they were, with `TooLarge` only where something is
pub record Ends {A : Type 0} (gives : Gives) (s : Subject) (count : ℕ) (result : Result A Stop) (now : Evaluated) (risen : ℕ) : Type 0 where
  pub rows : OnOk result (now.rows ≡ all_rows gives s)
  pub metamodel : now.setting.model.metamodel ≡ s.setting.model.metamodel
  pub few : OnOk result (is_too_large gives s ≡ false)
  pub large : IfErr result (λ stop. stop ≡ TooLarge → is_too_large gives s ≡ true)
  pub counted : OnOk result (risen ≡ count + length (all_units gives s))
  pub most : risen ≤ count + length (all_units gives s)

-- what was declared is kept, with the outcomes that were evaluated
pub record Holds (declared : Declared) (t : Evaluated) (kept : Kept) : Type 0 where
  pub nodes : kept.nodes ≡ declared.nodes
  pub edges : kept.edges ≡ declared.edges
  pub looks : kept.looks ≡ declared.shown.looks
  pub filtered : kept.filtered ≡ declared.shown.filtered
  pub problems : kept.problems ≡ problems_of t.setting.model.metamodel t.rows
  pub units : kept.units ≡ length t.rows
  pub outcomes : Indexes t.rows kept.outcomes
