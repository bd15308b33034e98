-- Words that are made texts, one after another.
use Rattle.std.proofs.Common.{◌≡◌, ◌∙◌, sym, ap, refl, ℕ, ◌+◌, ◌<◌, ◌≤◌, Bool, true, false, cond, List, [], ◌∷◌, ◌++◌, length, take, get_or, Some, None}
use Rattle.std.specs.List.{list_all}
use Rattle.std.specs.Str.{IsUtf8, is_utf8}
use Rattle.std.proofs.lemmas.Str.{IsUtf8-from_is_utf8, is_utf8-from_IsUtf8}
use Rattle.std.proofs.lemmas.List.{take_more, take_all}
use Rattle.std.proofs.lemmas.Option.{cond_some}
use Rattle.std.specs.Cmp.Derive.{both_true}
use Rattle.std.proofs.lemmas.List.Folds.{list_all_more, list_all_at}
use Rattle.wb_program.specs.Words.{text_in, texts_of}

pub is_a_text : (word : List ℕ) → IsUtf8 word → text_in word ≡ Some word
is_a_text word h = ap (λ b. cond b (Some word) None) (is_utf8-from_IsUtf8 word h)

pub is_no_text : (word : List ℕ) → ¬ (IsUtf8 word) → text_in word ≡ None
is_no_text word h = by (is_utf8 word) refl
  where
    by : (b : Bool) → is_utf8 word ≡ b → cond b (Some word) None ≡ None
    by true is = absurd (h (IsUtf8-from_is_utf8 word is))
    by false is = refl

-- the first words are texts, and these are they
pub record AreTexts (texts : List (List ℕ)) (words : List (List ℕ)) (count : ℕ) : Type 0 where
  pub same : texts ≡ take count words
  pub utf8 : list_all is_utf8 (take count words) ≡ true

pub none_yet : (words : List (List ℕ)) → AreTexts [] words 0
none_yet words = record { same = refl; utf8 = refl }

pub one_more : (texts words : List (List ℕ)) (i : ℕ) (word text : List ℕ) → AreTexts texts words i → i < length words → word ≡ get_or words i word → Some text ≡ text_in word → AreTexts (texts ++ text ∷ []) words (i + 1)
one_more texts words i word text h within at is =
    let parts = cond_some (is_utf8 word) word text (sym is) in
    let next : take (i + 1) words ≡ take i words ++ word ∷ [] = take_more words i word within ∙ ap (λ (w : List ℕ). take i words ++ w ∷ []) (sym at) in
    record {
      same = ap (λ (t : List ℕ). texts ++ t ∷ []) (sym parts.1) ∙ ap (λ (ts : List (List ℕ)). ts ++ word ∷ []) h.same ∙ sym next;
      utf8 = list_all_more is_utf8 words i word within ∙ both_true h.utf8 (ap is_utf8 (sym at) ∙ parts.0);
    }

not_utf8 : (word : List ℕ) → None ≡ text_in word → is_utf8 word ≡ false
not_utf8 word is = by (is_utf8 word) refl is
  where
    by : (b : Bool) → is_utf8 word ≡ b → None ≡ cond b (Some word) None → is_utf8 word ≡ false
    by true utf8 is = cc
    by false utf8 is = utf8

pub one_is_none : (words : List (List ℕ)) (i : ℕ) (word : List ℕ) → i < length words → word ≡ get_or words i word → None ≡ text_in word → None ≡ texts_of words
one_is_none words i word within at is = ap (λ b. cond b (Some words) None) (sym (list_all_at is_utf8 words i word within (ap is_utf8 (sym at) ∙ not_utf8 word is)))

pub all_are : (texts words : List (List ℕ)) (i : ℕ) → length words ≤ i → AreTexts texts words i → Some texts ≡ texts_of words
all_are texts words i most h =
    let whole : take i words ≡ words = take_all i words most in
    ap Some (h.same ∙ whole) ∙ ap (λ b. cond b (Some words) None) (sym (ap (list_all is_utf8) (sym whole) ∙ h.utf8))
