-- Words of a form are taken by the command of the form, which finds each name in its place.
use Rattle.std.proofs.Common.{◌≡◌, ◌∙◌, sym, ap, subst, refl, ℕ, Bool, true, false, not, List, [], ◌∷◌, length, codes, Option, Some, None, IsSome, eqb-true, arith}
use Rattle.std.specs.List.{list_all}
use Rattle.std.specs.Prelude.{nat_le, ◌==◌}
use Rattle.std.proofs.lemmas.Bool.{and_parts, leb-true}
use Rattle.std.proofs.lemmas.Bool.Decides.{nat_tests}
use Rattle.std.proofs.lemmas.Slice.Eq.{bytes_eq-Decides}
use Rattle.wb_base.specs.Names.{same_name}
use Rattle.clap.specs.Words.{App, Text, first_of, first_value, matches_of, rows_of, takes}
use Rattle.clap.specs.declared.parser.matches.Found.{Found}
use Rattle.clap.proofs.WalkLemmas.{first_value-rows}
use Rattle.wb_program.specs.Words.{is_file_name, is_number, is_numeral, is_digit, are_sources, is_check, is_draw, is_serve, is_limited_serve, is_big, word, most_connections, sources_in}
use Rattle.wb_program.specs.Commands.{check_command, picture_command, draw_command, serve_command, limited_serve_command, big_command}
use Rattle.wb_program.proofs.Walks.{IsPlainWord, check_takes, check_metamodel, check_viewpoint, picture_takes, picture_metamodel, picture_viewpoint, picture_model, limited_words, limited_takes, limited_metamodel, limited_viewpoint, limited_model, limited_connections, big_takes, big_number}

-- ---- single words

not_true : (b : Bool) → not b ≡ true → b ≡ false
not_true true h = cc
not_true false h = refl

plain_word : (b : ℕ) (bs : List ℕ) → (b == 45) ≡ false → IsPlainWord (b ∷ bs)
plain_word b bs is = record { no_long = rw is refl; no_short = rw is refl; no_end = rw is refl }

plain_file : (name : Text) → is_file_name name ≡ true → IsPlainWord name
unfolding is_file_name
plain_file [] h = cc
plain_file (b ∷ bs) h = plain_word b bs (not_true (b == 45) (and_parts _ _ h).1)

no_dash : (b : ℕ) → is_digit b ≡ true → (b == 45) ≡ false
no_dash b h = let low = leb-true 48 b (and_parts (nat_le 48 b) (nat_le b 57) h).0 in grind (arith, nat_tests)

plain_number : (most : ℕ) (word : Text) → is_number most word ≡ true → IsPlainWord word
unfolding is_number
plain_number most [] h = cc
plain_number most (b ∷ bs) h =
    let digits = (and_parts _ (list_all is_digit (b ∷ bs)) (and_parts (is_numeral (b ∷ bs)) _ h).0).1 in
    plain_word b bs (no_dash b (and_parts (is_digit b) _ digits).0)

-- ---- lists of known length

two_words : (ws : List Text) → length ws ≡ 2 → ws ≡ word ws 0 ∷ word ws 1 ∷ []
two_words (a ∷ b ∷ []) h = refl
two_words [] h = absurd (omega arith)
two_words (a ∷ []) h = absurd (omega arith)
two_words (a ∷ b ∷ c ∷ ws) h = absurd (omega arith)

three_words : (ws : List Text) → length ws ≡ 3 → ws ≡ word ws 0 ∷ word ws 1 ∷ word ws 2 ∷ []
three_words (a ∷ b ∷ c ∷ []) h = refl
three_words [] h = absurd (omega arith)
three_words (a ∷ []) h = absurd (omega arith)
three_words (a ∷ b ∷ []) h = absurd (omega arith)
three_words (a ∷ b ∷ c ∷ d ∷ ws) h = absurd (omega arith)

four_words : (ws : List Text) → length ws ≡ 4 → ws ≡ word ws 0 ∷ word ws 1 ∷ word ws 2 ∷ word ws 3 ∷ []
four_words (a ∷ b ∷ c ∷ d ∷ []) h = refl
four_words [] h = absurd (omega arith)
four_words (a ∷ []) h = absurd (omega arith)
four_words (a ∷ b ∷ []) h = absurd (omega arith)
four_words (a ∷ b ∷ c ∷ []) h = absurd (omega arith)
four_words (a ∷ b ∷ c ∷ d ∷ e ∷ ws) h = absurd (omega arith)

six_words : (ws : List Text) → length ws ≡ 6 → word ws 4 ≡ codes "--connections" → ws ≡ limited_words (word ws 0) (word ws 1) (word ws 2) (word ws 3) (word ws 5)
six_words (a ∷ b ∷ c ∷ d ∷ e ∷ f ∷ []) h is = ap (λ (o : Text). a ∷ b ∷ c ∷ d ∷ o ∷ f ∷ []) is
six_words [] h is = absurd (omega arith)
six_words (a ∷ []) h is = absurd (omega arith)
six_words (a ∷ b ∷ []) h is = absurd (omega arith)
six_words (a ∷ b ∷ c ∷ []) h is = absurd (omega arith)
six_words (a ∷ b ∷ c ∷ d ∷ []) h is = absurd (omega arith)
six_words (a ∷ b ∷ c ∷ d ∷ e ∷ []) h is = absurd (omega arith)
six_words (a ∷ b ∷ c ∷ d ∷ e ∷ f ∷ g ∷ ws) h is = absurd (omega arith)

-- ---- what a command takes, and finds

abbrev pub Takes : App → List Text → Type 0
Takes app ws = takes app ws ≡ true

-- the command finds this text for an argument
abbrev pub Finds : App → List Text → Text → Text → Type 0
Finds app ws id text = first_of id (matches_of app ws) ≡ Some text

pub record TakesCheck (ws : List Text) : Type 0 where
  pub taken : Takes check_command ws
  pub metamodel : Finds check_command ws (codes "metamodel") (word ws 1)
  pub viewpoint : Finds check_command ws (codes "viewpoint") (word ws 2)

pub takes_check : (ws : List Text) → is_check ws ≡ true → TakesCheck ws
unfolding is_check
takes_check ws h =
    let named = and_parts _ (is_file_name (word ws 2)) h in
    let first = and_parts _ (is_file_name (word ws 1)) named.0 in
    let count = and_parts (length ws == 3) _ first.0 in
    let whole = three_words ws (eqb-true (length ws) 3 count.0) in
    let x = plain_file (word ws 1) first.1 in
    let y = plain_file (word ws 2) named.1 in
    record {
      taken = subst (Takes check_command) (sym whole) (check_takes (word ws 0) (word ws 1) (word ws 2) x y);
      metamodel = subst (λ vs. Finds check_command vs (codes "metamodel") (word ws 1)) (sym whole) (check_metamodel (word ws 0) (word ws 1) (word ws 2) x y);
      viewpoint = subst (λ vs. Finds check_command vs (codes "viewpoint") (word ws 2)) (sym whole) (check_viewpoint (word ws 0) (word ws 1) (word ws 2) x y);
    }

pub record FindsSources (app : App) (ws : List Text) : Type 0 where
  pub metamodel : Finds app ws (codes "metamodel") (word ws 1)
  pub viewpoint : Finds app ws (codes "viewpoint") (word ws 2)
  pub model : Finds app ws (codes "model") (word ws 3)

pub record TakesSources (app : App) (ws : List Text) : Type 0 where
  pub taken : Takes app ws
  pub found : FindsSources app ws

record ArePlain (ws : List Text) : Type 0 where
  pub one : IsPlainWord (word ws 1)
  pub two : IsPlainWord (word ws 2)
  pub three : IsPlainWord (word ws 3)

plain_sources : (ws : List Text) → are_sources ws ≡ true → ArePlain ws
plain_sources ws h =
    let last = and_parts _ (is_file_name (word ws 3)) h in
    let parts = and_parts (is_file_name (word ws 1)) (is_file_name (word ws 2)) last.0 in
    record { one = plain_file (word ws 1) parts.0; two = plain_file (word ws 2) parts.1; three = plain_file (word ws 3) last.1 }

takes_picture : (name : Text) (ws : List Text) → length ws ≡ 4 → are_sources ws ≡ true → TakesSources (picture_command name) ws
takes_picture name ws count h =
    let whole = four_words ws count in
    let plain = plain_sources ws h in
    record {
      taken = subst (Takes (picture_command name)) (sym whole) (picture_takes name (word ws 0) (word ws 1) (word ws 2) (word ws 3) plain.one plain.two plain.three);
      found = record {
        metamodel = subst (λ vs. Finds (picture_command name) vs (codes "metamodel") (word ws 1)) (sym whole) (picture_metamodel name (word ws 0) (word ws 1) (word ws 2) (word ws 3) plain.one plain.two plain.three);
        viewpoint = subst (λ vs. Finds (picture_command name) vs (codes "viewpoint") (word ws 2)) (sym whole) (picture_viewpoint name (word ws 0) (word ws 1) (word ws 2) (word ws 3) plain.one plain.two plain.three);
        model = subst (λ vs. Finds (picture_command name) vs (codes "model") (word ws 3)) (sym whole) (picture_model name (word ws 0) (word ws 1) (word ws 2) (word ws 3) plain.one plain.two plain.three);
      };
    }

pub takes_draw : (ws : List Text) → is_draw ws ≡ true → TakesSources draw_command ws
unfolding is_draw draw_command
takes_draw ws h =
    let parts = and_parts _ (are_sources ws) h in
    takes_picture (codes "draw") ws (eqb-true (length ws) 4 (and_parts (length ws == 4) _ parts.0).0) parts.1

pub takes_serve : (ws : List Text) → is_serve ws ≡ true → TakesSources serve_command ws
unfolding is_serve serve_command
takes_serve ws h =
    let parts = and_parts _ (are_sources ws) h in
    takes_picture (codes "serve") ws (eqb-true (length ws) 4 (and_parts (length ws == 4) _ parts.0).0) parts.1

pub record TakesLimited (ws : List Text) : Type 0 where
  pub taken : Takes limited_serve_command ws
  pub found : FindsSources limited_serve_command ws
  pub connections : Finds limited_serve_command ws (codes "connections") (word ws 5)
  pub number : is_number most_connections (word ws 5) ≡ true

pub takes_limited : (ws : List Text) → is_limited_serve ws ≡ true → TakesLimited ws
unfolding is_limited_serve
takes_limited ws h =
    let number = and_parts _ (is_number most_connections (word ws 5)) h in
    let option = and_parts _ (same_name (word ws 4) (codes "--connections")) number.0 in
    let sources = and_parts _ (are_sources ws) option.0 in
    let count = and_parts (length ws == 6) _ sources.0 in
    let whole = six_words ws (eqb-true (length ws) 6 count.0) ((bytes_eq-Decides (word ws 4) (codes "--connections")).0 option.1) in
    let plain = plain_sources ws sources.1 in
    let n = plain_number most_connections (word ws 5) number.1 in
    record {
      taken = subst (Takes limited_serve_command) (sym whole) (limited_takes (word ws 0) (word ws 1) (word ws 2) (word ws 3) (word ws 5) plain.one plain.two plain.three n);
      found = record {
        metamodel = subst (λ vs. Finds limited_serve_command vs (codes "metamodel") (word ws 1)) (sym whole) (limited_metamodel (word ws 0) (word ws 1) (word ws 2) (word ws 3) (word ws 5) plain.one plain.two plain.three n);
        viewpoint = subst (λ vs. Finds limited_serve_command vs (codes "viewpoint") (word ws 2)) (sym whole) (limited_viewpoint (word ws 0) (word ws 1) (word ws 2) (word ws 3) (word ws 5) plain.one plain.two plain.three n);
        model = subst (λ vs. Finds limited_serve_command vs (codes "model") (word ws 3)) (sym whole) (limited_model (word ws 0) (word ws 1) (word ws 2) (word ws 3) (word ws 5) plain.one plain.two plain.three n);
      };
      connections = subst (λ vs. Finds limited_serve_command vs (codes "connections") (word ws 5)) (sym whole) (limited_connections (word ws 0) (word ws 1) (word ws 2) (word ws 3) (word ws 5) plain.one plain.two plain.three n);
      number = number.1;
    }

pub record TakesBig (ws : List Text) : Type 0 where
  pub taken : Takes big_command ws
  pub found : Finds big_command ws (codes "number") (word ws 1)
  pub number : is_number 2000 (word ws 1) ≡ true

pub takes_big : (ws : List Text) → is_big ws ≡ true → TakesBig ws
unfolding is_big
takes_big ws h =
    let number = and_parts _ (is_number 2000 (word ws 1)) h in
    let whole = two_words ws (eqb-true (length ws) 2 (and_parts (length ws == 2) _ number.0).0) in
    let n = plain_number 2000 (word ws 1) number.1 in
    record {
      taken = subst (Takes big_command) (sym whole) (big_takes (word ws 0) (word ws 1) n);
      found = subst (λ vs. Finds big_command vs (codes "number") (word ws 1)) (sym whole) (big_number (word ws 0) (word ws 1) n);
      number = number.1;
    }

-- ---- what the code finds

pub taken_by : (app own : App) (ws : List Text) → app ≡ own → Takes own ws → Takes app ws
taken_by app own ws same h = subst (λ a. Takes a ws) (sym same) h

abbrev pub HasRows : Found → App → List Text → Type 0
HasRows f app ws = rows_of f ≡ matches_of app ws

pub rows_by : (f : Found) (app own : App) (ws : List Text) → app ≡ own → HasRows f app ws → HasRows f own ws
rows_by f app own ws same rows = rows ∙ ap (λ a. matches_of a ws) same

found_text : (f : Found) (app : App) (ws : List Text) (id text : Text) → HasRows f app ws → Finds app ws id text → first_value f id ≡ Some text
found_text f app ws id text rows finds = first_value-rows f id ∙ ap (first_of id) rows ∙ finds

some_text : (o : Option Text) (text : Text) → o ≡ Some text → IsSome o
some_text (Some t) text h = refl
some_text None text h = cc

pub is_found : (f : Found) (app : App) (ws : List Text) (id text : Text) → HasRows f app ws → Finds app ws id text → IsSome (first_value f id)
is_found f app ws id text rows finds = some_text (first_value f id) text (found_text f app ws id text rows finds)

inner : (given text : Text) → Some given ≡ Some text → given ≡ text
inner given text h = cc

pub is_text : (f : Found) (app : App) (ws : List Text) (id text given : Text) → HasRows f app ws → Finds app ws id text → Some given ≡ first_value f id → given ≡ text
is_text f app ws id text given rows finds h = inner given text (h ∙ found_text f app ws id text rows finds)

pub are_sources_of : (f : Found) (app : App) (ws : List Text) (x y z : Text) → HasRows f app ws → FindsSources app ws
    → Some x ≡ first_value f (codes "metamodel") → Some y ≡ first_value f (codes "viewpoint") → Some z ≡ first_value f (codes "model")
    → record { metamodel = x; viewpoint = y; model = z } ≡ sources_in ws
are_sources_of f app ws x y z rows finds hx hy hz =
    let a = is_text f app ws (codes "metamodel") (word ws 1) x rows finds.metamodel hx in
    let b = is_text f app ws (codes "viewpoint") (word ws 2) y rows finds.viewpoint hy in
    let c = is_text f app ws (codes "model") (word ws 3) z rows finds.model hz in
    cc
