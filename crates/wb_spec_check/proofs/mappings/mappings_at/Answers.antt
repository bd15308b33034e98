use Rattle.std.proofs.Common.{◌≡◌, ℕ, Some, sym, ap, ◌∙◌, subst}
use Rattle.wb_viewpoint.specs.declared.content.Content.{Content}
use Rattle.wb_viewpoint.specs.declared.mappings.Mapping.{Mapping}
use Rattle.wb_spec_check.specs.Mappings.{mapping_at}
use Rattle.wb_spec_check.specs.Places.{◌!◌, place_of}
use Rattle.wb_spec_check.specs.Validated.{Validated}
use Rattle.wb_spec_check.specs.declared.checked_mappings.CheckedMapping.{CheckedMapping}
use Rattle.wb_spec_check.specs.invariants.Reports.{Gathers}
use Rattle.wb_spec_check.specs.invariants.Taken.{TakenBy}
use Rattle.wb_spec_check.proofs.Children.{lists_more}
use Rattle.wb_spec_check.proofs.Joined.{gathers_none, gathers_on, gathers_all}
use Rattle.wb_spec_check.proofs.Steps.{place_item}
use Rattle.wb_spec_check.proofs.mappings.mappings_at.Goals as goal

abbrev mapping_check : goal.After-new → ℕ → Mapping → Validated CheckedMapping
mapping_check c i mapping = mapping_at c.args.names.now.0 c.args.names.now.1 i (place_of c.args.path.now ! i) mapping

pub loop-number-init : goal.loop-number-init
loop-number-init c = record {
  taken = c.requires;
  told = subst (λ none. Gathers (mapping_check c) c.args.names.now.1.mappings 0 c.args.problems.now (Some none) c.args.problems.now) (sym c.new.ensures) (gathers_none (mapping_check c) c.args.names.now.1.mappings c.args.problems.now);
}

pub mapping_at-requires : goal.mapping_at-requires
mapping_at-requires c = c.loop-number.invariant.taken

pub loop-number-preserved : goal.loop-number-preserved
loop-number-preserved c =
    let listed : c.as_slice-mappings.result.now ≡ c.args.names.now.1.mappings = c.as_slice-mappings.ensures ∙ ap (λ (content : Content). content.mappings) c.content.ensures in
    let inside = rw listed at c.loop-number-test.true in
    let here = rw listed at c.index-mappings-number.is in
    record {
      taken = subst (λ lists. TakenBy c.args.names.now.1 lists c.mapping_at.new.taken) (sym (lists_more c.args.names.now.1 c.loop-number.number c.index-mappings-number.result inside here)) c.in_ok-found.ensures.takes;
      told = gathers_on c.index-mappings-number.result c.gather.new.items c.loop-number.invariant.told inside here (rw place_item at c.in_ok-found.ensures.reports) c.in_ok-gather.ensures;
    }

pub returns : goal.returns
returns c =
    let listed : c.as_slice-mappings.result.now ≡ c.args.names.now.1.mappings = c.as_slice-mappings.ensures ∙ ap (λ (content : Content). content.mappings) c.content.ensures in
    gathers_all c.loop-number.invariant.told (rw listed at c.loop-number-test.false)
