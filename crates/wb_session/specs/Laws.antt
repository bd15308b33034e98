-- Words of the laws of undo and redo.
use Rattle.std.specs.Prelude.{ℕ}
use Rattle.wb_diagram.specs.declared.commands.Action.{Action}
use Rattle.wb_diagram.specs.declared.commands.Action.TheVariants.{Create, Set, Add, Take, Unset, MoveTo, Remove, Tool, Move, Arrange, Undo, Redo, Show, Unshow, Hide, Reveal, Layer, Filter}
use Rattle.wb_diagram.specs.declared.commands.Command.{Command}

-- the action goes a step further, and neither back nor again
abbrev pub IsForward : Action → Type 0
IsForward (Create class slot) = Unit {0}
IsForward (Set slot value) = Unit {0}
IsForward (Add slot value) = Unit {0}
IsForward (Take slot value) = Unit {0}
IsForward (Unset slot) = Unit {0}
IsForward (MoveTo o slot) = Unit {0}
IsForward (Remove o) = Unit {0}
IsForward (Tool tool arguments) = Unit {0}
IsForward (Move key x y) = Unit {0}
IsForward Arrange = Unit {0}
IsForward Undo = ⊥
IsForward Redo = ⊥
IsForward (Show parent mapping o) = Unit {0}
IsForward (Unshow key) = Unit {0}
IsForward (Hide key) = Unit {0}
IsForward (Reveal key) = Unit {0}
IsForward (Layer layer active) = Unit {0}
IsForward (Filter filter active) = Unit {0}

abbrev pub undo : (revision : ℕ) → Command
undo revision = record { revision = revision; action = Undo }

abbrev pub redo : (revision : ℕ) → Command
redo revision = record { revision = revision; action = Redo }
