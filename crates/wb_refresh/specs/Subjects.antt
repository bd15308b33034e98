-- What a diagram is of.
use Rattle.std.specs.Prelude.{ℕ, List}
use Rattle.wb_store.specs.Contents.{Contents}
use Rattle.wb_diagram.specs.declared.keys.Key.{Key}
use Rattle.wb_spec_check.specs.Checked.{Specification}
use Rattle.wb_nodes.specs.Nodes.{Scene, scene_of}

-- what units are evaluated over: a model under a viewpoint, with the root element
pub record Setting : Type 0 where
  pub spec : Specification
  pub model : Contents
  pub root : ℕ

-- what a diagram is of: a setting, and the keys that are marked shown
pub record Subject : Type 0 where
  pub setting : Setting
  pub shown : List Key

abbrev pub setting : Specification → Contents → (root : ℕ) → Setting
setting spec m root = record { spec = spec; model = m; root = root }

abbrev pub subject_in : Setting → (shown : List Key) → Subject
subject_in s shown = record { setting = s; shown = shown }

abbrev pub subject : Specification → Contents → (root : ℕ) → (shown : List Key) → Subject
subject spec m root shown = subject_in (setting spec m root) shown

-- what elements are declared over
abbrev pub scene : Subject → Scene
scene s = scene_of s.setting.spec s.setting.model s.shown
