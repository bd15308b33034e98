-- When two units are the same.
use Rattle.std.specs.Prelude.{Bool, true, false, nat_eq, ◌&&◌, Option, Some, None}
use Rattle.wb_diagram.specs.declared.keys.Key.{Key}
use Rattle.wb_diagram.specs.declared.units.Unit.{Unit}
use Rattle.wb_diagram.specs.declared.units.Unit.TheVariants.{Candidates, Precondition, EdgeCandidates, EdgePrecondition, Source, Target, Style, Label, Filter}
use Rattle.wb_answers.specs.SameKeys.{same_pair, same_key}
use Rattle.wb_answers.specs.SameKeys.{same_any}

-- the same element, or both the diagram
abbrev pub same_parent : Option Key → Option Key → Bool
same_parent None None = true
same_parent (Some a) (Some b) = same_key a b
same_parent _ _ = false

abbrev pub same_unit : Unit → Unit → Bool
same_unit (Candidates m a) (Candidates n b) = nat_eq m n && same_parent a b
same_unit (Precondition a) (Precondition b) = same_key a b
same_unit (EdgeCandidates m) (EdgeCandidates n) = nat_eq m n
same_unit (EdgePrecondition a) (EdgePrecondition b) = same_pair a b
same_unit (Source a) (Source b) = same_pair a b
same_unit (Target a) (Target b) = same_pair a b
same_unit (Style m a) (Style n b) = nat_eq m n && same_any a b
same_unit (Label m a) (Label n b) = nat_eq m n && same_any a b
same_unit (Filter m a) (Filter n b) = nat_eq m n && same_any a b
same_unit _ _ = false
