-- The test `conforms` holds exactly where a path of supertypes leads.
use Rattle.std.proofs.Common.{◌≡◌, ℕ, ◌+◌, ◌<◌, ◌≤◌, true, eqb, List, [], ◌∷◌, length, sym, ap, ◌∙◌, ◌↔◌, inl, inr, ⊎_elim, arith, zero, suc}
use Rattle.std.proofs.lemmas.Bool.{false≢true, cases_eq, cases_lt, or_cases, or_left, or_right, eqb-true, eq-eqb}
use Rattle.std.proofs.lemmas.Option.{slice_get_past}
use Rattle.std.specs.Option.{option_map_or}
use Rattle.std.specs.List.{list_any, range_with_len, slice_get}
use Rattle.wb_base.specs.Paths.{Leads}
use Rattle.wb_base.specs.Paths.Leads.{directly}
use Rattle.wb_base.proofs.Paths.{leads_through-decides_all, leads-joined, leads-first}
use Rattle.wb_ecore.specs.declared.classes.Class.{Class}
use Rattle.wb_metamodel.specs.Metamodel.{Metamodel, numbers, is_supertype, Conforms, is_below, conforms}

pub among_range : (x a n : ℕ) → a ≤ x → x < a + n → list_any (eqb x) (range_with_len a n) ≡ true
among_range x a zero h l = absurd (omega arith)
among_range x a (suc n) h l =
    ⊎_elim
    (λ e. or_left _ _ (eq-eqb x a e))
    (λ apart. let m : a + 1 ≤ x = omega arith in or_right (eqb x a) _ (among_range x (a + 1) n m (omega arith)))
    (cases_eq x a)

-- a class that has supertypes is one of the metamodel
pub supertype-known : (mm : Metamodel) (a b : ℕ) → is_supertype mm a b ≡ true → a < length mm.classes
supertype-known mm a b h =
    ⊎_elim
    (λ l. l)
    (λ p.
    let none : slice_get mm.classes a ≡ _ = slice_get_past mm.classes a p in
    absurd (false≢true (sym (ap (λ o. list_any (eqb b) (option_map_or (λ (class : Class). class.supertypes) o [])) none) ∙ h)))
    (cases_lt a (length mm.classes))

among_classes : (mm : Metamodel) (a b : ℕ) → is_supertype mm a b ≡ true → list_any (eqb a) (numbers (length mm.classes)) ≡ true
among_classes mm a b h = let l = supertype-known mm a b h in among_range a 0 (length mm.classes) (omega arith) (omega arith)

-- the test of one or more steps holds exactly where a path leads
pub below-decides : (mm : Metamodel) (a b : ℕ) → (is_below mm a b ≡ true) ↔ Leads (is_supertype mm) a b
unfolding is_below
below-decides mm a b = leads_through-decides_all (is_supertype mm) (numbers (length mm.classes)) (among_classes mm) a b

pub below-known : (mm : Metamodel) (a b : ℕ) → is_below mm a b ≡ true → a < length mm.classes
below-known mm a b h = let first = leads-first (is_supertype mm) a b ((below-decides mm a b).0 h) in supertype-known mm a first.0 first.1

pub below-step : (mm : Metamodel) (a b : ℕ) → is_supertype mm a b ≡ true → is_below mm a b ≡ true
below-step mm a b h = (below-decides mm a b).1 (directly h)

pub below-joined : (mm : Metamodel) (a b c : ℕ) → is_below mm a b ≡ true → is_below mm b c ≡ true → is_below mm a c ≡ true
below-joined mm a b c p q = (below-decides mm a c).1 (leads-joined (is_supertype mm) a b c ((below-decides mm a b).0 p) ((below-decides mm b c).0 q))

pub conforms-path : (mm : Metamodel) (a b : ℕ) → conforms mm a b ≡ true → Conforms mm a b
unfolding conforms
conforms-path mm a b h = ⊎_elim (λ e. inl (eqb-true a b e)) (λ g. inr ((below-decides mm a b).0 g)) (or_cases (eqb a b) _ h)

pub path-conforms : (mm : Metamodel) (a b : ℕ) → Conforms mm a b → conforms mm a b ≡ true
unfolding conforms
path-conforms mm a b p = ⊎_elim (λ e. or_left _ _ (eq-eqb a b e)) (λ g. or_right (eqb a b) _ ((below-decides mm a b).1 g)) p
