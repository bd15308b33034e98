use Rattle.std.proofs.Common.{map}
use Rattle.wb_program.proofs.Texts.{AreTexts}
use Rattle.wb_program.proofs.words.texts_of.Given as goal

abbrev pub invariant-loop-word : goal.invariant-loop-word
invariant-loop-word l = AreTexts (map (λ text. text.now) l.texts.items) l.words l.word-index
