-- A door that does not tell what is to come, and whose count is raised by each failed call.
use Rattle.std.proofs.Common.{◌≡◌, refl, ℕ, ◌≤◌, List, Option, None, Some, arith}
use Rattle.wb_outer.specs.Faults.{counted}
use Rattle.wb_outer.specs.Door.{Connection, DoorTold, Comes, taken_after}
use Rattle.wb_outer.specs.declared.door.Next.{Next}
use Rattle.wb_outer.specs.declared.door.Next.TheVariants.{Line as IsLine, Closed, Failed as NextFailed}
use Rattle.wb_doors.specs.MemoryDoors.{next_failed}

abbrev telling : Option Next → List Connection → ℕ → DoorTold
telling last taken faults = record { last = last; taken = taken; to_come = None; faults = faults }

pub comes_counted : (last : Option Next) (old new : List Connection) (before now : ℕ) (next : Next) → new ≡ taken_after next old → before ≤ now → now ≡ counted (next_failed next) before
    → Comes (telling last old before) (telling (Some next) new now) next
comes_counted last old new before now IsLine is later count = record { last = refl; taken = is; to_come = tt; later = later; failed = λ (none : IsLine ≡ NextFailed). absurd (cc none) }
comes_counted last old new before now Closed is later count = record { last = refl; taken = is; to_come = tt; later = later; failed = λ (none : Closed ≡ NextFailed). absurd (cc none) }
comes_counted last old new before now NextFailed is later count = record { last = refl; taken = is; to_come = tt; later = later; failed = λ _. omega (arith, count) }
