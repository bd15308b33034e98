-- The trees of expressions, and what is told where there is none.
use Rattle.std.proofs.Common.{◌≡◌, ◌∙◌, sym, ap, ℕ, List, Option, Some, None, Result, Ok, Err, option_map}
use Rattle.std.specs.Prelude.{decimal}
use Rattle.std.specs.Option.{IfSome}
use Rattle.wb_base.specs.Answering.{IsRefusal}
use Rattle.wb_aql_grammar.specs.Tree.{Tree}
use Rattle.wb_aql_grammar.specs.Expressions.{SpellsText, Refuses}
use Rattle.wb_aql_grammar.specs.declared.refusal.ParseRefusal.TheVariants as r
use Rattle.wb_aql_check.specs.declared.checked.Origin.{Origin}
use Rattle.wb_aql_check.specs.declared.refusal.CheckRefusal.{CheckRefusal}
use Rattle.wb_expressions.specs.Expressions.{spelled_tree, known_tree, misnamed}
use Rattle.wb_expressions.specs.Parsed.{parsed}
use Rattle.wb_expressions.specs.declared.problem.ProblemCode.{ProblemCode}
use Rattle.wb_expressions.specs.declared.problem.ProblemCode.TheVariants as c
use Rattle.wb_expressions.proofs.OneAnswer.{the_answer}

-- the name that is told is the one that is not known
pub known_refusal : (named : Option CheckRefusal) (told : Option (ProblemCode × List ℕ)) (given : Result (Origin × List (List ℕ)) CheckRefusal) →
    IfSome told (λ t. option_map misnamed named ≡ Some t) → IsRefusal named given → IsRefusal told (known_tree given)
known_refusal named None given same is = tt
known_refusal None (Some t) given same is = absurd (cc)
known_refusal (Some refusal) (Some t) given same is = ap known_tree is ∙ ap Err (some_same same)
  where
    some_same : {x y : ProblemCode × List ℕ} → Some x ≡ Some y → x ≡ y
    some_same e = cc

-- what is told is the refusal; want of memory tells nothing
pub told_refusal : {A R : Type 0} (told : Option R) (given : Result A R) (refusal : R) → IfSome told (λ t. t ≡ refusal) → given ≡ Err refusal → IsRefusal told given
told_refusal (Some t) given refusal same is = is ∙ ap Err (sym same)
told_refusal None given refusal same is = tt

pub tree_spelled : (text : List ℕ) (x : Tree) → SpellsText text x → spelled_tree (parsed text) ≡ Ok x
tree_spelled text x h = ap spelled_tree (sym (the_answer text (Ok x) h))

pub tree_misspelled : (text : List ℕ) (offset : ℕ) → Refuses text (r.Syntax offset) → spelled_tree (parsed text) ≡ Err (c.Syntax, decimal offset)
tree_misspelled text offset h = ap spelled_tree (sym (the_answer text (Err (r.Syntax offset)) h))

pub tree_too_deep : (text : List ℕ) (offset : ℕ) → Refuses text (r.TooDeep offset) → spelled_tree (parsed text) ≡ Err (c.TooDeep, decimal offset)
tree_too_deep text offset h = ap spelled_tree (sym (the_answer text (Err (r.TooDeep offset)) h))
