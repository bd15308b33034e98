-- Looks are asked, and then filters.
use Rattle.std.proofs.Common.{◌≡◌, List, [], ◌++◌, refl, ap, subst, ◌∙◌, append-nil}
use Rattle.std.specs.Prelude.{Bool, Result, Ok, Err, IsErr, IsErrAnd, flat_map}
use Rattle.wb_metamodel.specs.Metamodel.{Metamodel}
use Rattle.wb_diagram.specs.declared.diagrams.Look.{Look}
use Rattle.wb_diagram.specs.declared.keys.AnyKey.{AnyKey}
use Rattle.wb_diagram.specs.declared.units.Unit.{Unit as Place}
use Rattle.wb_spec_check.specs.Checked.{Specification}
use Rattle.wb_answers.specs.Seen.{Told, Seen, after, Refused, Asks}
use Rattle.wb_answers.specs.declared.answers.Stop.{Stop}
use Rattle.wb_answers.proofs.SeenLaws.{passed_on}
use Rattle.wb_answers.proofs.SeenLoops.{asked_both, refused_first, told_of}
use Rattle.wb_looks.specs.Filters.{filtered, filter_units}
use Rattle.wb_looks.specs.Looks.{look_units}
use Rattle.wb_refresh.specs.Declarations.{AreShown}
use Rattle.wb_refresh.specs.Diagrams.{looks_at, units_at}
use Rattle.wb_refresh.specs.declared.declared.Shown.{Shown}

module _ (spec : Specification) (s : Seen) (keys ks : List AnyKey) (same : ks ≡ keys) where
  abbrev looks_units : List AnyKey → List Place
  looks_units = flat_map (look_units spec s.told)

  pub looks_refused : {A : Type 0} (now : Seen) (r : Result A Stop) (e : Stop) → IsErr r × IsErrAnd r (λ f. f ≡ e) → Refused s (flat_map (look_units spec s.told) ks) e now → Asks s (units_at spec s.told keys) r now
  looks_refused now r e h refused =
      let P : List AnyKey → Type 0 = λ xs. Refused s (looks_units xs) e now in
      refused_first s now (looks_units keys) (filter_units spec keys) (units_at spec s.told keys) r e h refl (subst P same refused)

  module _ (mid : Seen) (asked : mid ≡ after s (flat_map (look_units spec s.told) ks)) (others : List AnyKey) (other_same : others ≡ keys) where
    own_asked : mid ≡ after s (looks_units keys)
    own_asked = asked ∙ ap (λ xs. after s (looks_units xs)) same

    pub filters_refused : {A : Type 0} (now : Seen) (r : Result A Stop) (e : Stop) → IsErr r × IsErrAnd r (λ f. f ≡ e) → Refused mid (filter_units spec others) e now → Asks s (units_at spec s.told keys) r now
    filters_refused now r e h refused =
        let P : List AnyKey → Type 0 = λ xs. Refused mid (filter_units spec xs) e now in
        passed_on s mid now (looks_units keys) (filter_units spec keys) [] (units_at spec s.told keys) r e h own_asked (ap (λ us. looks_units keys ++ us) (append-nil (filter_units spec keys))) (subst P other_same refused)

    pub shown_asked : (now : Seen) → now ≡ after mid (filter_units spec others) → now ≡ after s (units_at spec s.told keys)
    shown_asked now is = asked_both s mid now (looks_units keys) (filter_units spec keys) own_asked (is ∙ ap (λ xs. after mid (filter_units spec xs)) other_same)

    pub shown_so : (mm : Metamodel) (looks : List Look) (hidden : List (List Bool)) → looks ≡ looks_at spec mm s.told ks → hidden ≡ filtered spec mid.told others → AreShown spec mm s.told keys (record { looks = looks; filtered = hidden })
    shown_so mm looks hidden looks_are hidden_are = record {
      looks = looks_are ∙ ap (looks_at spec mm s.told) same;
      filtered = hidden_are ∙ (ap (filtered spec mid.told) other_same ∙ ap (λ (t : Told). filtered spec t keys) (told_of s mid (looks_units keys) own_asked));
    }
