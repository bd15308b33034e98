use Rattle.std.proofs.Common.{◌≡◌, refl, rules}
use Rattle.std.specs.Ordering.{is_lt}
use Rattle.std.proofs.lemmas.Fn.{answers_by}
use Rattle.wb_diagram.specs.declared.keys.Key.{Key}
use Rattle.wb_layout.specs.Orders.{key_cmp}
use Rattle.wb_layout.specs.Positions.{Position}
use Rattle.wb_layout.proofs.Searches.{partitioned, is_place}
use Rattle.wb_layout.proofs.search.place_of.Goals as goal

pub returns : goal.returns
returns c =
    let facts = c.partition_point.ensures in
    let apart = facts.partitioned (λ (e : Key × Position). is_lt (key_cmp e.0 c.args.key.now)) (answers_by _ _ (λ f. f.0.now ≡ c.args.key.now) (λ f a r g called same. (search rules, search rules)) _ refl) in
    is_place c.args.key.now c.args.entries.now c.partition_point.result facts.bound (apart (partitioned c.args.key.now c.args.entries.now c.requires))
