use Rattle.std.proofs.Common.{◌∙◌, List, ap, refl}
use Rattle.wb_spec_check.specs.declared.checked_mappings.CheckedMapping.{CheckedMapping}
use Rattle.wb_spec_check.specs.declared.parts.Parts.{Parts}
use Rattle.wb_looks.specs.Conditions.{active_mappings}
use Rattle.wb_looks.specs.Visible.{is_clear, switches_of}
use Rattle.wb_looks.proofs.TellLaws.{made_tell}
use Rattle.wb_looks.proofs.visibility.visible.Goals as goal

pub returns : goal.returns
returns c = λ told is.
    let spec = c.args.spec.now in
    let s = switches_of c.args.switches.now in
    let mappings = c.as_slice.ensures ∙ ap (λ (parts : Parts). parts.mappings) c.parts.ensures.same in
    let active = c.as_slice-2.ensures.value ∙ (c.in_ok-active.ensures ∙ ap (λ (ms : List CheckedMapping). active_mappings ms s.layers) mappings) in
    let tell = made_tell spec told c.args.keys.now s _ (record { active = active; filters = refl; hides = is; hidden = c.in_ok-hidden.ensures }) in
    c.visible_each.ensures (is_clear spec told s) tell (c.in_ok-blocked.ensures (is_clear spec told s) tell)
