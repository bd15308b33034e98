use Rattle.std.proofs.Common.{◌≡◌, ℕ, ◌<◌, ◌≤◌, ◌||◌, false, length, get_or}
use Rattle.wb_metamodel.proofs.hierarchy.or_row.Given as goal

abbrev pub invariant-loop-b : goal.invariant-loop-b
invariant-loop-b l =
    (length l.row.items ≡ length l.initial.row.items) × ((k : ℕ) → k < l.b → get_or l.row.items k false ≡ (get_or l.initial.row.items k false || get_or l.via k false))
    × ((k : ℕ) → l.b ≤ k → get_or l.row.items k false ≡ get_or l.initial.row.items k false)
