-- Counts of replies and of faults.
use Rattle.std.specs.Prelude.{ℕ, ◌+◌, ◌-◌, ◌^◌, ◌≤◌, ◌⊎◌, List, [], ◌∷◌, Option, Some, None}
use Rattle.wb_serving.specs.Turns.{Turn, Replied, Refused, NoRoom, NoRoomReading, Unkept}

-- a count rose by at least so many, or stands at the last value of its type
abbrev pub IsRiseOf : ℕ → ℕ → ℕ → Type 0
IsRiseOf count before now = (count + before ≤ now) ⊎ (2 ^ 64 - 1 ≤ now)

-- a reply that says that the keeper failed
abbrev pub unkept_in : Turn → ℕ
unkept_in (Replied q) = 0
unkept_in (Refused refusal) = 0
unkept_in (NoRoom q) = 0
unkept_in NoRoomReading = 0
unkept_in (Unkept q) = 1

abbrev pub unkept_among : List Turn → ℕ
unkept_among [] = 0
unkept_among (t ∷ ts) = unkept_in t + unkept_among ts

abbrev pub unkept_last : Option Turn → ℕ
unkept_last None = 0
unkept_last (Some t) = unkept_in t
