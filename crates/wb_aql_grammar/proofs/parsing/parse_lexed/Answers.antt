use Rattle.std.proofs.Common.{◌≡◌, ℕ, Ok, sym, ap, ◌∙◌}
use Rattle.wb_aql_grammar.specs.declared.spelled.TokenRefusal.TheVariants.{Syntax, TooDeep, NoMemory}
use Rattle.wb_aql_grammar.proofs.Texts.{text_spells}
use Rattle.wb_aql_grammar.proofs.parsing.parse_lexed.Goals as goal

syntax_or_memory : (place : ℕ) → Syntax place ≡ NoMemory → ⊥
syntax_or_memory place e = cc

depth_or_memory : (place : ℕ) → TooDeep place ≡ NoMemory → ⊥
depth_or_memory place e = cc

pub returns-in-Ok-clause-taken : goal.returns-in-Ok-clause-taken
returns-in-Ok-clause-taken c x spelled =
    ap Ok (sym (c.new.ensures ∙ c.in-Ok.ensures.taken x (text_spells c.requires spelled)))

pub returns-in-Err-Syntax-clause-taken : goal.returns-in-Err-Syntax-clause-taken
returns-in-Err-Syntax-clause-taken c x spelled = absurd (syntax_or_memory _ (sym c.in-Err-Syntax.field-0-is
    ∙ c.in-Err-Syntax.ensures.taken x (text_spells c.requires spelled)))

pub returns-in-Err-TooDeep-clause-taken : goal.returns-in-Err-TooDeep-clause-taken
returns-in-Err-TooDeep-clause-taken c x spelled = absurd (depth_or_memory _ (sym c.in-Err-TooDeep.field-0-is
    ∙ c.in-Err-TooDeep.ensures.taken x (text_spells c.requires spelled)))
