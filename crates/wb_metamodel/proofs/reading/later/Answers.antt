use Rattle.wb_base.specs.Results.{◌>>=◌}
use Rattle.wb_base.proofs.Answered.{answered_then}
use Rattle.wb_json.specs.Refusals.{code_at, coded}
use Rattle.wb_ecore.specs.declared.refusal.MetamodelCode.TheVariants.{DuplicateName, OppositeMismatch, TooMany}
use Rattle.wb_metamodel.specs.Checks.{later, no_clash, opposites_match, within_limits}
use Rattle.wb_metamodel.proofs.reading.later.Goals as goal

pub returns : goal.returns
unfolding later
returns c =
    let mm = c.args.elements.now in
    answered_then code_at (coded DuplicateName (no_clash mm)) (λ _. coded OppositeMismatch (opposites_match mm) >>= (λ _. coded TooMany (within_limits mm))) tt c.coded-3.result (c.in_ok-coded.ensures (no_clash mm) c.no_clash.ensures)
    (answered_then code_at (coded OppositeMismatch (opposites_match mm)) (λ _. coded TooMany (within_limits mm)) tt c.coded-3.result (c.in_ok-coded-2.ensures (opposites_match mm) c.opposites_match.ensures) (c.coded-3.ensures (within_limits mm) c.within_limits.ensures))
