use Rattle.std.proofs.Common.{◌≡◌, ℕ, ◌<◌, length, refl}
use Rattle.std.specs.Prelude.{Option, Some, None, IfSome}
use Rattle.std.proofs.lemmas.Option.{slice_get_within}
use Rattle.wb_model.proofs.edits.checks.opposite_of.Goals as goal

if_some : (n : ℕ) (r : Option ℕ) → ((g : ℕ) → r ≡ Some g → g < n) → IfSome r (λ g. g < n)
if_some n None h = tt
if_some n (Some g) h = h g refl

pub returns-clause-known : goal.returns-clause-known
returns-clause-known c =
    let metamodel = c.args.metamodel.now in
    if_some (length metamodel.features) c.feature.result.now.opposite
    (λ g e. let other = c.well_formed-2.ensures.opposites c.args.f g c.feature.result.now c.feature.ensures e in slice_get_within metamodel.features g other.0 other.1)
