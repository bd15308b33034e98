use Rattle.std.proofs.Common.{◌∙◌, sym, ap}
use Rattle.wb_ecore.specs.invariants.NumberedNames.{number_of}
use Rattle.wb_spec_check.proofs.OwnNames.{repeated, not_repeated, not_there}
use Rattle.wb_spec_check.proofs.own_names.own_name.Goals as goal

pub returns-in-Some : goal.returns-in-Some
returns-in-Some c = λ all known.
    repeated all c.args.name.now c.args.number c.in-Some.place
    (sym (known c.args.name.now) ∙ ap (number_of c.args.first.now) (sym c.as_bytes.ensures.value) ∙ sym c.get.ensures ∙ c.in-Some.is) c.if-place-number.true

pub returns-in_default : goal.returns-in_default
returns-in_default c = λ all known.
    not_repeated all c.args.name.now c.args.number c.in-Some.place
    (sym (known c.args.name.now) ∙ ap (number_of c.args.first.now) (sym c.as_bytes.ensures.value) ∙ sym c.get.ensures ∙ c.in-Some.is) c.if-place-number.false

pub returns-in_default-2 : goal.returns-in_default-2
returns-in_default-2 c = λ all known.
    not_there all c.args.name.now c.args.number
    (sym (known c.args.name.now) ∙ ap (number_of c.args.first.now) (sym c.as_bytes.ensures.value) ∙ sym c.get.ensures ∙ c.in_default.is)
