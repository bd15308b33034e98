-- Objects of which some are marked, by place.
use Rattle.std.specs.Prelude.{ℕ, Bool, if◌then◌else◌, List, ◌∷◌, Option, Some, None}
use Rattle.wb_store.specs.declared.records.Record.{Record}

abbrev pub first_marked : List Record → List Bool → Option ℕ
first_marked (r ∷ records) (mark ∷ marks) = if mark then Some r.id else first_marked records marks
first_marked _ _ = None
