use Rattle.std.proofs.Common.{refl}
use Rattle.wb_aql_tokens.specs.Lexes.{word_of, is_reserved, reserved}
use Rattle.std.proofs.lemmas.Bool.{or_from}
use Rattle.wb_aql_tokens.proofs.Words.{differs}
use Rattle.wb_aql_tokens.proofs.signs.reserved_word.Goals as goal

pub returns-in_default : goal.returns-in_default
unfolding word_of is_reserved reserved
returns-in_default c = or_from _ _ (differs c.in_default.not-if) (or_from _ _ (differs c.in_default.not-then) (or_from _ _ (differs c.in_default.not-else) (or_from _ _ (differs c.in_default.not-endif) (or_from _ _ (differs c.in_default.not-let) (or_from _ _ (differs c.in_default.not-in) (or_from _ _ (differs c.in_default.not-and) (or_from _ _ (differs c.in_default.not-or) (or_from _ _ (differs c.in_default.not-xor) (or_from _ _ (differs c.in_default.not-implies) (or_from _ _ (differs c.in_default.not-not) (or_from _ _ (differs c.in_default.not-div) (or_from _ _ (differs c.in_default.not-null) (or_from _ _ (differs c.in_default.not-true) (or_from _ _ (differs c.in_default.not-false) (or_from _ _ (differs c.in_default.not-Sequence) (or_from _ _ (differs c.in_default.not-OrderedSet) (refl)))))))))))))))))
