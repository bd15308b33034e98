use Rattle.std.proofs.Common.{◌++◌, [], refl, sym, ap, ◌∙◌, subst, append_assoc}
use Rattle.wb_aql_tokens.specs.Lexes.{Means, means_none}
use Rattle.wb_aql_tokens.proofs.Pieces.{means_more}
use Rattle.wb_aql_tokens.proofs.quotes.unescaped.Goals as goal

pub loop-meaning-init : goal.loop-meaning-init
loop-meaning-init c = ([], refl, subst (Means []) (sym c.new-value.ensures) means_none)

pub loop-meaning-preserved : goal.loop-meaning-preserved
loop-meaning-preserved c =
    let so_far = c.loop-meaning.invariant in
    let next = c.in-Some.ensures in (
      so_far.0 ++ next.piece,
      so_far.1 ∙ ap (λ r. so_far.0 ++ r) next.whole ∙ sym (append_assoc so_far.0 next.piece c.in-Some.more.now),
      subst (Means (so_far.0 ++ next.piece)) (sym c.in_ok-push.ensures.ok) (means_more so_far.2 next.means),
    )
