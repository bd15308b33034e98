use Rattle.std.proofs.Common.{◌≡◌, None, Some, ap, ◌∙◌}
use Rattle.std.specs.Option.{option_map}
use Rattle.wb_diagram.specs.Keys.{Spells}
use Rattle.wb_diagram.proofs.Spelling.{cut_edge, node_is_whole}
use Rattle.wb_diagram.specs.declared.keys.AnyKey.TheVariants.{Node, Edge}
use Rattle.wb_diagram.proofs.key_reader.read_loosely.Goals as goal

pub returns-in_ok-read_path-in-None-clause-complete : goal.returns-in_ok-read_path-in-None-clause-complete
returns-in_ok-read_path-in-None-clause-complete c = λ key spells.
    elim key as (λ k. Spells c.args.text.now k → c.node.result ≡ Some k) [
      | Node k ↦ λ s.
          c.node.ensures ∙ ap (option_map Node) (c.in_ok-read_path-in-None.ensures.complete k s.writable.not_empty s.numbered s.written)
      | Edge k ↦ λ s. absurd (cut_edge c.args.text.now None c.in-None.ensures.cases k s.numbered.0 s.written)
    ] spells

pub returns-in_ok-read_edge-in-Some-clause-complete : goal.returns-in_ok-read_edge-in-Some-clause-complete
returns-in_ok-read_edge-in-Some-clause-complete c = λ key spells.
    elim key as (λ k. Spells c.args.text.now k → c.edge.result ≡ Some k) [
      | Node k ↦ λ s. absurd (node_is_whole c.args.text.now c.in-Some.own c.in-Some.ends c.in-Some.ensures.cases k s.numbered s.written)
      | Edge k ↦ λ s.
          let cut = cut_edge c.args.text.now (Some (c.in-Some.own, c.in-Some.ends)) c.in-Some.ensures.cases k s.numbered.0 s.written in
          c.edge.ensures ∙ ap (option_map Edge) (c.in_ok-read_edge-in-Some.ensures.complete k s.writable s.numbered cut.0 cut.1)
    ] spells
