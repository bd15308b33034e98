-- What is read from the tables.
use Rattle.std.proofs.Common.{◌≡◌, ℕ, ◌<◌, Bool, true, ◌||◌, List, length, map, get_or, Some, None, refl, sym, ap, ◌∙◌, ⊎_elim, arith}
use Rattle.std.specs.List.{slice_get}
use Rattle.std.specs.Option.{option_and_then}
use Rattle.std.proofs.lemmas.Bool.{cases_lt, or_left, eq-eqb, ne_eqb}
use Rattle.std.proofs.lemmas.Option.{none-some, slice_get_past, slice_get_read}
use Rattle.std.proofs.lemmas.List.FromFn.{length-map-range_with_len, get_or-map-range_with_len}
use Rattle.wb_metamodel.specs.Metamodel.{Metamodel, same_name, numbers, is_below, conforms, features_of, feature_named}
use Rattle.wb_metamodel.specs.invariants.Tables.{below_table, features_table, entry, feature_place}
use Rattle.wb_ecore.specs.declared.features.Feature.{Feature}
use Rattle.wb_base.proofs.Positions.{find-none, at-false, position-None}

pub length-below_table : (mm : Metamodel) → length (below_table mm) ≡ length mm.classes
unfolding below_table
length-below_table mm = length-map-range_with_len _ 0 (length mm.classes)

below_row : (mm : Metamodel) (a : ℕ) (d : List Bool) → a < length mm.classes → get_or (below_table mm) a d ≡ map (is_below mm a) (numbers (length mm.classes))
unfolding below_table
below_row mm a d h = get_or-map-range_with_len _ 0 (length mm.classes) a a d h (omega arith)

pub length-below_row : (mm : Metamodel) (a : ℕ) (row : List Bool) → a < length mm.classes → row ≡ get_or (below_table mm) a row → length row ≡ length mm.classes
length-below_row mm a row h e = ap length (e ∙ below_row mm a row h) ∙ length-map-range_with_len _ 0 (length mm.classes)

pub below_read : (mm : Metamodel) (a b : ℕ) (row : List Bool) (d : Bool) → a < length mm.classes → b < length mm.classes → row ≡ get_or (below_table mm) a row → get_or row b d ≡ is_below mm a b
below_read mm a b row d h k e =
    ap (λ r. get_or r b d) (e ∙ below_row mm a row h) ∙ get_or-map-range_with_len (is_below mm a) 0 (length mm.classes) b b d k (omega arith)

pub length-features_table : (mm : Metamodel) → length (features_table mm) ≡ length mm.classes
unfolding features_table
length-features_table mm = length-map-range_with_len _ 0 (length mm.classes)

pub features_read : (mm : Metamodel) (c : ℕ) (row : List ℕ) → c < length mm.classes → row ≡ get_or (features_table mm) c row → row ≡ features_of mm c
unfolding features_table
features_read mm c row h e = e ∙ get_or-map-range_with_len _ 0 (length mm.classes) c c row h (omega arith)

-- a table that has an entry has its row
pub entry-row : {X : Type 0} (rows : List (List X)) (i k : ℕ) (x : X) → entry rows i k ≡ Some x → i < length rows
entry-row {X} rows i k x e =
    ⊎_elim
    (λ l. l)
    (λ past. absurd (none-some x (sym (ap (option_and_then (λ (row : List X). slice_get row k)) (slice_get_past rows i past)) ∙ e)))
    (cases_lt i (length rows))

-- and the row has it
pub entry-cell : {X : Type 0} (rows : List (List X)) (i k : ℕ) (x : X) (row : List X) → entry rows i k ≡ Some x → row ≡ get_or rows i row → slice_get row k ≡ Some x
entry-cell {X} rows i k x row e r =
    ap (λ o. option_and_then (λ (row : List X). slice_get row k) o) (sym (slice_get_read rows (length rows) i row refl (entry-row rows i k x e) r)) ∙ e

-- a name that no feature has is none of a class's features
pub feature_named-unknown : (mm : Metamodel) (c : ℕ) (name : List ℕ) → feature_place mm name ≡ None → feature_named mm c name ≡ None
feature_named-unknown mm c name none =
    find-none _ (features_of mm c)
    (λ f. at-false (λ (feature : Feature). same_name feature.name name) (slice_get mm.features f) (λ feature at. position-None (λ (one : Feature). same_name one.name name) mm.features f feature none at))

pub conforms-same : (mm : Metamodel) (a b : ℕ) → a ≡ b → conforms mm a b ≡ true
unfolding conforms
conforms-same mm a b e = or_left _ _ (eq-eqb a b e)

pub conforms-apart : (mm : Metamodel) (a b : ℕ) → (a ≡ b → ⊥) → conforms mm a b ≡ is_below mm a b
unfolding conforms
conforms-apart mm a b apart = ap (λ e. e || is_below mm a b) (ne_eqb a b apart)
