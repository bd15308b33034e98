-- What the check of a viewpoint answers.
use Rattle.std.specs.Prelude.{◌≡◌, None}
use Rattle.wb_metamodel.specs.Metamodel.{Metamodel}
use Rattle.wb_viewpoint.specs.declared.content.Content.{Content}
use Rattle.wb_spec_check.specs.Checked.{IsCheckedBy, checked, problems}
use Rattle.wb_spec_check.specs.Validated.{value_of}
use Rattle.wb_spec_check.specs.declared.checking.Checking.{Checking}
use Rattle.wb_spec_check.specs.declared.checking.Checking.TheVariants.{Good, Bad}

-- it is good where there is no problem, and else tells all
abbrev pub Answers : Metamodel → Content → Checking → Type 0
Answers mm content (Good spec) = IsCheckedBy mm spec × (spec.0 ≡ content)
Answers mm content (Bad ps) = (value_of (checked mm content) ≡ None) × (ps ≡ problems mm content)
