-- Marks that are dropped.
use Rattle.std.specs.Prelude.{◌≡◌, true, List, filter}
use Rattle.wb_diagram.specs.declared.keys.Key.{Key}
use Rattle.wb_answers.specs.SameKeys.{among}
use Rattle.wb_refresh.specs.Outcomes.{Gives}
use Rattle.wb_refresh.specs.Subjects.{Setting, subject_in}
use Rattle.wb_declared.specs.Declarations.{declared_nodes}

-- the second marks no key that the first does not, and each declared element that the first does
pub record DropsUndeclared (declared a b : List Key) : Type 0 where
  pub fewer : (key : Key) → among b key ≡ true → among a key ≡ true
  pub kept : (key : Key) → among declared key ≡ true → among a key ≡ true → among b key ≡ true

-- the marks of declared elements, in their order
abbrev pub settled : Gives → Setting → List Key → List Key
settled gives s marks = filter (among (declared_nodes gives (subject_in s marks))) marks
