use Rattle.std.proofs.Common.{◌≡◌, ◌∙◌, sym, ap, subst, true, Err, List}
use Rattle.std.proofs.lemmas.List.Folds.{list_all-map}
use Rattle.std.specs.List.Sorted.{IsPermutation}
use Rattle.wb_store.specs.declared.parts.Part.{Part}
use Rattle.wb_model.specs.declared.building.BuildRefusal.{BuildRefusal}
use Rattle.wb_validity.specs.Broken.{broken, miswritten}
use Rattle.wb_store.specs.Contents.{Contents}
use Rattle.wb_model.specs.Building.{NamesBreach, MakeModel, Refutes}
use Rattle.wb_store.specs.Parts.{made_of, record_of, are_known}
use Rattle.wb_store.specs.Records.{is_known}
use Rattle.wb_model.proofs.Made.{made_valid, made_model, model_whole, same_breach, names, refutes}
use Rattle.wb_model.proofs.building.build.Goals as goal

pub miswritten-requires : goal.miswritten-requires
miswritten-requires c =
    subst (λ (parts : List Part). are_known c.args.metamodel parts ≡ true) (sym c.as_slice.ensures) (sym (list_all-map (is_known c.args.metamodel) record_of c.args.objects) ∙ c.requires.known)

pub new-requires-in-Ok : goal.new-requires-in-Ok
new-requires-in-Ok c =
    let wrong = subst (λ ws. IsPermutation ws c.in_ok-wrong.wrong) (c.in_ok-listed.ensures ∙ ap (miswritten c.args.metamodel) c.as_slice.ensures) c.in_ok-wrong.ensures in
    made_valid c.args.metamodel c.args.next c.args.objects c.args.roots c.in_ok-store.store c.in_ok-store.ensures c.is_kept.ensures.0 c.is_kept.ensures.1 c.in_ok-wrong.wrong wrong c.requires.few c.in-Ok.ensures

pub returns-in-Ok-clause-accepted : goal.returns-in-Ok-clause-accepted
returns-in-Ok-clause-accepted c =
    let wrong = subst (λ ws. IsPermutation ws c.in_ok-wrong.wrong) (c.in_ok-listed.ensures ∙ ap (miswritten c.args.metamodel) c.as_slice.ensures) c.in_ok-wrong.ensures in
    made_model c.args.metamodel c.args.next c.args.objects c.args.roots c.in_ok-store.store c.in_ok-store.ensures c.is_kept.ensures.0 c.is_kept.ensures.1 c.in_ok-wrong.wrong wrong c.requires.few c.in-Ok.ensures

pub returns-clause-refused : goal.returns-clause-refused
returns-clause-refused c =
    let wrong = subst (λ ws. IsPermutation ws c.in_ok-wrong.wrong) (c.in_ok-listed.ensures ∙ ap (miswritten c.args.metamodel) c.as_slice.ensures) c.in_ok-wrong.ensures in
    subst (λ (r : BuildRefusal). Refutes r (MakeModel c.args.metamodel c.args.next c.args.objects c.args.roots)) (sym c.refusal_of.ensures)
    (refutes c.in-Err.flaw (broken c.in_ok-store.store c.in_ok-wrong.wrong) (MakeModel c.args.metamodel c.args.next c.args.objects c.args.roots)
    (model_whole c.args.metamodel c.args.next c.args.objects c.args.roots c.in_ok-store.store c.in_ok-store.ensures c.is_kept.ensures.0 c.is_kept.ensures.1 c.in_ok-wrong.wrong wrong) c.in-Err.ensures)

pub returns-in-Ok-clause-named : goal.returns-in-Ok-clause-named
returns-in-Ok-clause-named c =
    let wrong = subst (λ ws. IsPermutation ws c.in_ok-wrong.wrong) (c.in_ok-listed.ensures ∙ ap (miswritten c.args.metamodel) c.as_slice.ensures) c.in_ok-wrong.ensures in
    same_breach c.args.metamodel c.args.next c.args.objects c.args.roots c.in_ok-store.store c.in_ok-store.ensures c.is_kept.ensures.0 c.is_kept.ensures.1 c.in_ok-wrong.wrong wrong ∙ c.in-Ok.ensures

pub returns-clause-named : goal.returns-clause-named
returns-clause-named c =
    let wrong = subst (λ ws. IsPermutation ws c.in_ok-wrong.wrong) (c.in_ok-listed.ensures ∙ ap (miswritten c.args.metamodel) c.as_slice.ensures) c.in_ok-wrong.ensures in
    let breach = broken (made_of c.args.metamodel c.args.next c.args.objects c.args.roots) (miswritten c.args.metamodel c.args.objects) in
    subst (λ (r : BuildRefusal). NamesBreach {A = Contents} (Err r) breach) (sym c.refusal_of.ensures)
    (names c.in-Err.flaw (broken c.in_ok-store.store c.in_ok-wrong.wrong) breach (same_breach c.args.metamodel c.args.next c.args.objects c.args.roots c.in_ok-store.store c.in_ok-store.ensures c.is_kept.ensures.0 c.is_kept.ensures.1 c.in_ok-wrong.wrong wrong) c.in-Err.ensures)
