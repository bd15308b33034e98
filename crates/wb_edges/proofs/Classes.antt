-- The class of an edge mapping's candidates is one of the metamodel that its viewpoint was checked against.
use Rattle.std.proofs.Common.{◌≡◌, ◌<◌, ℕ, length, Option, Some, None, subst}
use Rattle.std.specs.Prelude.{IfSome}
use Rattle.wb_base.specs.Options.{◌>>=◌}
use Rattle.wb_metamodel.specs.Metamodel.{Metamodel}
use Rattle.wb_answers.proofs.CheckedParts.{FitForm, FitMapping, FitSource, mapping_of_fits}
use Rattle.wb_answers.proofs.Yields.{OfSome}
use Rattle.wb_spec_check.specs.Checked.{IsCheckedBy, Specification}
use Rattle.wb_spec_check.specs.Units.{mapping_of}
use Rattle.wb_spec_check.specs.declared.checked_mappings.CheckedEdge.{CheckedEdge}
use Rattle.wb_spec_check.specs.declared.checked_mappings.CheckedForm.{CheckedForm}
use Rattle.wb_spec_check.specs.declared.checked_mappings.CheckedForm.TheVariants.{Node, Edge}
use Rattle.wb_spec_check.specs.declared.checked_mappings.CheckedMapping.{CheckedMapping}
use Rattle.wb_spec_check.specs.declared.checked_mappings.CheckedSource.{CheckedSource}
use Rattle.wb_edges.specs.Edges.{edge_in, edge_mapping}

abbrev HasClasses : Metamodel → CheckedEdge → Type 0
HasClasses mm edge = IfSome edge.object_edge (λ (source : CheckedSource). source.objects.domain < length mm.classes)

of_source : (mm : Metamodel) (found : Option CheckedSource) → OfSome (FitSource mm) found → IfSome found (λ (source : CheckedSource). source.objects.domain < length mm.classes)
of_source mm None fit = tt
of_source mm (Some source) fit = fit.0.0

in_form : (mm : Metamodel) (form : CheckedForm) (edge : CheckedEdge) → FitForm mm form → edge_in form ≡ Some edge → HasClasses mm edge
in_form mm (Node it) edge fit is = cc
in_form mm (Edge it) edge fit is = let same : it ≡ edge = cc in subst (HasClasses mm) same (of_source mm it.object_edge fit.0)

pub class_of_candidates : (mm : Metamodel) (spec : Specification) (n : ℕ) (edge : CheckedEdge) → IsCheckedBy mm spec → edge_mapping spec n ≡ Some edge → HasClasses mm edge
unfolding edge_mapping
class_of_candidates mm spec n edge checked is = by (mapping_of spec n) (mapping_of_fits mm spec n checked) is
  where
    by : (found : Option CheckedMapping) → OfSome (FitMapping mm) found → (found >>= (λ (mapping : CheckedMapping). edge_in mapping.form)) ≡ Some edge → HasClasses mm edge
    by None known is = cc
    by (Some mapping) fit is = in_form mm mapping.form edge fit.0 is
