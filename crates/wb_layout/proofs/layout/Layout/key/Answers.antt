use Rattle.std.proofs.Common.{◌∙◌, ap}
use Rattle.std.specs.Prelude.{slice_get}
use Rattle.wb_layout.proofs.Searches.{key_at, no_key_at}
use Rattle.wb_layout.proofs.layout.Layout.key.Goals as goal

pub returns-in-Some : goal.returns-in-Some
returns-in-Some c = key_at c.self.inside.positions.items c.args.self.now c.self.view_is c.self.invariant.0 c.args.i c.in-Some.entry.now (c.in-Some.ensures ∙ ap (λ es. slice_get es c.args.i) c.as_slice.ensures.value)

pub returns-in-None : goal.returns-in-None
returns-in-None c = no_key_at c.self.inside.positions.items c.args.self.now c.self.view_is c.self.invariant.0 c.args.i (c.in-None.ensures ∙ ap (λ es. slice_get es c.args.i) c.as_slice.ensures.value)
