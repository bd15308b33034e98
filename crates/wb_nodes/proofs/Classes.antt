-- The class of a mapping's objects is one of the metamodel that its viewpoint was checked against.
use Rattle.std.proofs.Common.{◌≡◌, ◌<◌, ℕ, length, Option, Some, None, subst}
use Rattle.wb_base.specs.Options.{◌>>=◌}
use Rattle.wb_metamodel.specs.Metamodel.{Metamodel}
use Rattle.wb_answers.proofs.CheckedParts.{FitForm, FitMapping, IsClass, mapping_of_fits}
use Rattle.wb_answers.proofs.Yields.{OfSome}
use Rattle.wb_spec_check.specs.Checked.{IsCheckedBy, Specification}
use Rattle.wb_spec_check.specs.Units.{mapping_of}
use Rattle.wb_spec_check.specs.declared.checked_mappings.CheckedForm.{CheckedForm}
use Rattle.wb_spec_check.specs.declared.checked_mappings.CheckedForm.TheVariants.{Node, Edge}
use Rattle.wb_spec_check.specs.declared.checked_mappings.CheckedMapping.{CheckedMapping}
use Rattle.wb_spec_check.specs.declared.checked_mappings.CheckedNode.{CheckedNode}
use Rattle.wb_nodes.specs.Nodes.{node_in, node_mapping}

in_form : (mm : Metamodel) (form : CheckedForm) (node : CheckedNode) → FitForm mm form → node_in form ≡ Some node → IsClass mm node.objects.domain
in_form mm (Node it) node fit is = let same : it ≡ node = cc in subst (λ (n : CheckedNode). IsClass mm n.objects.domain) same fit.0
in_form mm (Edge it) node fit is = cc

pub node_class : (mm : Metamodel) (spec : Specification) (n : ℕ) (node : CheckedNode) → IsCheckedBy mm spec → node_mapping spec n ≡ Some node → node.objects.domain < length mm.classes
unfolding node_mapping
node_class mm spec n node checked is = by (mapping_of spec n) (mapping_of_fits mm spec n checked) is
  where
    by : (found : Option CheckedMapping) → OfSome (FitMapping mm) found → (found >>= (λ (mapping : CheckedMapping). node_in mapping.form)) ≡ Some node → IsClass mm node.objects.domain
    by None known is = cc
    by (Some mapping) fit is = in_form mm mapping.form node fit.0 is
