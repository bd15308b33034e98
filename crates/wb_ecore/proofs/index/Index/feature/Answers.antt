use Rattle.std.proofs.Common.{◌+◌, sym, ap, ◌∙◌, arith}
use Rattle.std.specs.Option.{option_map}
use Rattle.wb_ecore.specs.invariants.NumberedNames.{number_of}
use Rattle.wb_ecore.specs.Resolving.{own_feature}
use Rattle.wb_ecore.proofs.Numbered.{own-within, own-at, own-found, own-fits}
use Rattle.wb_ecore.proofs.index.Index.feature.Goals as goal

pub index-own-requires : goal.index-own-requires
index-own-requires c =
    omega (arith, own-within c.args.self.now.features.items c.args.document.now.classes c.class.inside.0 c.requires.index.features (omega arith), c.args.self.now.features.ok.0)

pub overflow_add-result : goal.overflow_add-result
overflow_add-result c =
    let own = own-at c.args.self.now.features.items c.args.document.now.classes c.class.inside.0 c.index-own.result.now c.requires.index.features (omega arith) c.index-own.ensures in
    omega (arith, own-fits c.as_bytes.result.now c.index-own.result.now own.0 c.in-Some.number own.2 (sym c.in-Some.ensures))

pub returns-in-Some : goal.returns-in-Some
returns-in-Some c =
    let own = own-at c.args.self.now.features.items c.args.document.now.classes c.class.inside.0 c.index-own.result.now c.requires.index.features (omega arith) c.index-own.ensures in
    let name = c.as_bytes.ensures.value ∙ c.as_str.ensures.same in
    ap (option_map (λ i. c.index-own.result.now.first + i)) (c.in-Some.ensures ∙ ap (number_of c.index-own.result.now.names) name)
    ∙ sym (own-found c.args.document.now c.class.inside.0 c.args.name.now c.index-own.result.now own.0 own.1 own.2)
    ∙ ap (λ k. own_feature c.args.document.now k c.args.name.now) c.class.view_is

pub returns-in-None : goal.returns-in-None
returns-in-None c =
    let own = own-at c.args.self.now.features.items c.args.document.now.classes c.class.inside.0 c.index-own.result.now c.requires.index.features (omega arith) c.index-own.ensures in
    let name = c.as_bytes.ensures.value ∙ c.as_str.ensures.same in
    ap (option_map (λ i. c.index-own.result.now.first + i)) (c.in-None.ensures ∙ ap (number_of c.index-own.result.now.names) name)
    ∙ sym (own-found c.args.document.now c.class.inside.0 c.args.name.now c.index-own.result.now own.0 own.1 own.2)
    ∙ ap (λ k. own_feature c.args.document.now k c.args.name.now) c.class.view_is
