use Rattle.std.proofs.Common.{◌∙◌, ap, subst}
use Rattle.std.specs.FinMap.{get}
use Rattle.std.specs.List.{IsDistinct}
use Rattle.wb_layout.specs.Orders.{same_key}
use Rattle.wb_layout.specs.Grid.{arranged}
use Rattle.wb_layout.proofs.Each.{laid_once, others_stay}
use Rattle.wb_layout.proofs.laws.each_is_laid_once.Goals as goal

pub returns-clause-laid : goal.returns-clause-laid
returns-clause-laid c = λ before key after is.
    ap (λ ks. get (arranged c.args.layout.now ks) key) is ∙ laid_once c.args.layout.now before key after (subst (IsDistinct same_key) is c.requires)

pub returns-clause-others : goal.returns-clause-others
returns-clause-others c = λ key none. others_stay c.args.layout.now c.args.placeable.now key none
