-- What was declared and evaluated, and is kept, is the diagram.
use Rattle.std.proofs.Common.{◌≡◌, ℕ, List, [], ◌∷◌, map, length, Ok, refl, sym, ap, subst, ◌∙◌, Some, None, if◌then◌else◌}
use Rattle.std.specs.Prelude.{All}
use Rattle.std.specs.List.{list_any}
use Rattle.std.proofs.lemmas.List.{length-map}
use Rattle.std.proofs.lemmas.List.Elements.{All-map}
use Rattle.wb_metamodel.specs.Metamodel.{Metamodel}
use Rattle.wb_diagram.specs.declared.units.Unit.{Unit as Place}
use Rattle.wb_answers.specs.declared.rows.Row.{Row}
use Rattle.wb_answers.specs.declared.answers.Stop.{Stop}
use Rattle.wb_refresh.specs.Declarations.{AreDeclared}
use Rattle.wb_refresh.specs.Endings.{Ends, Holds}
use Rattle.wb_refresh.specs.Faults.{problems_of}
use Rattle.wb_refresh.specs.Openings.{IsOpened, Kept, all_rows, all_units}
use Rattle.wb_refresh.specs.Outcomes.{Gives, outcome, row, told}
use Rattle.wb_refresh.specs.SameUnits.{same_unit}
use Rattle.wb_refresh.specs.Subjects.{Setting, Subject, scene, subject_in}
use Rattle.wb_refresh.specs.Tables.{Evaluated, units_in}
use Rattle.wb_refresh.specs.declared.declared.Declared.{Declared}

units_of_rows : (gives : Gives) (s : Setting) (us : List Place) → units_in (map (row gives s) us) ≡ us
units_of_rows gives s [] = refl
units_of_rows gives s (u ∷ us) = ap (λ vs. u ∷ vs) (units_of_rows gives s us)

own_outcomes : (gives : Gives) (s : Setting) (us : List Place) → All (λ (r : Row). r.outcome ≡ outcome gives s r.unit) (map (row gives s) us)
own_outcomes gives s us = All-map (λ (r : Row). r.outcome ≡ outcome gives s r.unit) (row gives s) us (λ k d within. refl)

of_subject : (gives : Gives) (s : Subject) (declared : Declared) (now : Evaluated) (kept : Kept) → AreDeclared (scene s) (told gives s.setting) declared → now.rows ≡ all_rows gives s → now.setting.model.metamodel ≡ s.setting.model.metamodel
    → Holds declared now kept → IsOpened gives s kept
of_subject gives s declared now kept are rows mm holds =
    let units = all_units gives s in
    record {
      nodes = holds.nodes ∙ are.nodes;
      edges = holds.edges ∙ are.edges;
      looks = holds.looks ∙ are.shown.looks;
      filtered = holds.filtered ∙ are.shown.filtered;
      problems = holds.problems ∙ (ap (problems_of now.setting.model.metamodel) rows ∙ ap (λ (m : Metamodel). problems_of m (all_rows gives s)) mm);
      units = holds.units ∙ (ap length rows ∙ length-map units (row gives s.setting));
      outcomes = λ unit.
          let P : List Row → Type 0 = λ rs. All (λ (r : Row). r.outcome ≡ outcome gives s.setting r.unit) rs in
          holds.outcomes (outcome gives s.setting) (subst P (sym rows) (own_outcomes gives s.setting units)) unit
          ∙ ap (λ us. if list_any (same_unit unit) us then Some (outcome gives s.setting unit) else None) (ap units_in rows ∙ units_of_rows gives s.setting units);
    }

pub opened : (gives : Gives) (x own : Setting) (s : Subject) (declared : Declared) (now : Evaluated) (kept : Kept) (count risen : ℕ) → subject_in own s.shown ≡ s → x ≡ own
    → AreDeclared (scene (subject_in x s.shown)) (told gives x) declared → Ends gives (subject_in x s.shown) count (Ok declared) now risen → Holds declared now kept → IsOpened gives s kept
opened gives x own s declared now kept count risen is same are ends holds =
    let P : Setting → Type 0 = λ y. IsOpened gives (subject_in y s.shown) kept in
    subst (λ (t : Subject). IsOpened gives t kept) is (subst P same (of_subject gives (subject_in x s.shown) declared now kept are ends.rows ends.metamodel holds))
