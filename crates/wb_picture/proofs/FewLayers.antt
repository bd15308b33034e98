-- A viewpoint has few layers.
use Rattle.std.proofs.Common.{◌≡◌, ◌≤◌, true, length}
use Rattle.std.proofs.lemmas.Bool.{and_parts, leb-true}
use Rattle.wb_viewpoint.specs.Limits.{is_small}
use Rattle.wb_viewpoint.specs.declared.content.Content.{Content}

pub few_layers : (content : Content) → is_small content ≡ true → length content.layers ≤ 64
unfolding is_small
few_layers content small =
    let parts = (and_parts _ _ (and_parts _ _ small).0).0 in
    leb-true _ _ (and_parts _ _ (and_parts _ _ (and_parts _ _ parts).0).0).1
