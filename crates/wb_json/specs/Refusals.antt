-- Refusals of a file's text: a code that says what is wrong, with its place.
use Rattle.std.specs.Prelude.{◌≡◌, ⊤, ◌++◌, Option, Some, None, Result, Ok, Err, codes}
use Rattle.wb_json.specs.Place.{Place}
use Rattle.wb_json.specs.declared.file_refusal.FileRefusal.{FileRefusal}
use Rattle.wb_json.specs.declared.file_refusal.FileRefusal.TheVariants.{At, NoMemory}

-- the code and the place that a refusal names; want of memory names none
abbrev pub code_at : {C : Type 0} → FileRefusal C → Option (C × Place)
code_at (At code place) = Some (code, place)
code_at NoMemory = None

-- what was found, where a wrong place is refused under this code; places are seen from the whole text
abbrev pub coded : {A C : Type 0} → C → Result A Place → Result A (C × Place)
coded code (Ok v) = Ok v
coded code (Err place) = Err (code, codes "#" ++ place)

-- the refusal has this code and place, seen from the whole text, or is want of memory
abbrev pub Refuses : {C : Type 0} → C → Place → FileRefusal C → Type 0
Refuses wanted from (At code place) = (code ≡ wanted) × (place ≡ codes "#" ++ from)
Refuses wanted from NoMemory = ⊤
