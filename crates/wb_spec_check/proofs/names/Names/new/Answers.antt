use Rattle.wb_spec_check.proofs.names.Names.new.Goals as goal

pub invariant_of-result : goal.invariant_of-result
invariant_of-result c = (
  record {
    layer = rw c.as_slice.ensures.same at c.in_ok-layers.ensures;
    mapping = rw c.as_slice-2.ensures at c.in_ok-mappings.ensures;
    feature = c.in_ok-features.ensures;
    containment = c.in_ok-containments.ensures;
  },
  (c.in_ok-self_alone.ensures, c.in_ok-with_container.ensures),
)
