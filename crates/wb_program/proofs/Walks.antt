-- What clap makes of words that are of a form.
use Rattle.std.proofs.Common.{◌≡◌, ℕ, List, [], ◌∷◌, codes, true, false, Some, None, refl}
use Rattle.std.specs.Str.{bytes_eq}
use Rattle.clap.specs.Lexer.{long_of, short_of}
use Rattle.clap.specs.Walk.{Rule, Text, Held, Walk, idle, option, option_word, arg_by_id, settled, first_of, walked, nothing_held, to_positional, arg_by_index}
use Rattle.clap.specs.Simple.{matches_of, built}
use Rattle.clap.specs.Takes.{takes, walk_passes}
use Rattle.clap.proofs.OnLiterals.{clap_on_literals}
use Rattle.wb_program.specs.Words.{word}
use Rattle.wb_program.specs.Commands.{check_command, limited_serve_command, big_command, picture_command}

-- the word is no flag
pub record IsPlainWord (word : Text) : Type 0 where
  pub no_long : long_of word ≡ None
  pub no_short : short_of word ≡ None
  pub no_end : bytes_eq word (45 ∷ 45 ∷ []) ≡ false

-- between two words, with nothing that waits
abbrev between : Held → ℕ → Walk
between h position = record { held = h; waiting = idle; position = position; is_trailing = false; stopped = None }

walked_plain : (c : List Rule) (h : Held) (position : ℕ) (word : Text) → IsPlainWord word
    → walked c [] (between h position) word ≡ to_positional c (arg_by_index c position) word (between h position) h
unfolding walked
walked_plain c h position word w = rw (w.no_long, w.no_short, w.no_end) refl

-- a word that an option waits for
abbrev waiting_for : Text → Held → ℕ → Walk
waiting_for id h position = record { held = h; waiting = option id; position = position; is_trailing = false; stopped = None }

walked_value : (c : List Rule) (id : Text) (h : Held) (position : ℕ) (word : Text) → IsPlainWord word
    → walked c [] (waiting_for id h position) word
    ≡ record { held = (option_word (arg_by_id c id) id word h).0; waiting = (option_word (arg_by_id c id) id word h).1; position = position; is_trailing = false; stopped = None }
unfolding walked
walked_value c id h position word w = rw (w.no_long, w.no_short, w.no_end) refl

-- what is held after a word for the positional of this number
abbrev then_held : List Rule → ℕ → Text → Held → Held
then_held rules position word h = (to_positional rules (arg_by_index rules position) word (between h position) h).held

-- ---- `check`

abbrev check_rules : List Rule
check_rules = (built check_command).top.rules

pub check_takes : (verb x y : Text) → IsPlainWord x → IsPlainWord y → takes check_command (verb ∷ x ∷ y ∷ []) ≡ true
unfolding check_command walk_passes
check_takes verb x y wx wy =
    rw (
      wx.no_long,
      wx.no_short,
      wx.no_end,
      walked_plain check_rules nothing_held 1 x wx,
      wy.no_long,
      wy.no_short,
      wy.no_end,
      walked_plain check_rules (then_held check_rules 1 x nothing_held) 2 y wy,
    ) refl

pub check_metamodel : (verb x y : Text) → IsPlainWord x → IsPlainWord y → first_of (codes "metamodel") (matches_of check_command (verb ∷ x ∷ y ∷ [])) ≡ Some x
unfolding check_command
check_metamodel verb x y wx wy = rw (walked_plain check_rules nothing_held 1 x wx, walked_plain check_rules (then_held check_rules 1 x nothing_held) 2 y wy) refl

pub check_viewpoint : (verb x y : Text) → IsPlainWord x → IsPlainWord y → first_of (codes "viewpoint") (matches_of check_command (verb ∷ x ∷ y ∷ [])) ≡ Some y
unfolding check_command
check_viewpoint verb x y wx wy = rw (walked_plain check_rules nothing_held 1 x wx, walked_plain check_rules (then_held check_rules 1 x nothing_held) 2 y wy) refl

-- ---- the files of a picture

abbrev picture_rules : List Rule
picture_rules = (built (picture_command [])).top.rules

-- what is held after one file, and after two
abbrev one_file : Text → Held
one_file x = then_held picture_rules 1 x nothing_held

abbrev two_files : Text → Text → Held
two_files x y = then_held picture_rules 2 y (one_file x)

pub picture_takes : (name verb x y z : Text) → IsPlainWord x → IsPlainWord y → IsPlainWord z → takes (picture_command name) (verb ∷ x ∷ y ∷ z ∷ []) ≡ true
unfolding walk_passes
picture_takes name verb x y z wx wy wz =
    rw (
      wx.no_long,
      wx.no_short,
      wx.no_end,
      walked_plain picture_rules nothing_held 1 x wx,
      wy.no_long,
      wy.no_short,
      wy.no_end,
      walked_plain picture_rules (one_file x) 2 y wy,
      wz.no_long,
      wz.no_short,
      wz.no_end,
      walked_plain picture_rules (two_files x y) 3 z wz,
    ) refl

pub picture_metamodel : (name verb x y z : Text) → IsPlainWord x → IsPlainWord y → IsPlainWord z → first_of (codes "metamodel") (matches_of (picture_command name) (verb ∷ x ∷ y ∷ z ∷ [])) ≡ Some x
picture_metamodel name verb x y z wx wy wz = rw (walked_plain picture_rules nothing_held 1 x wx, walked_plain picture_rules (one_file x) 2 y wy, walked_plain picture_rules (two_files x y) 3 z wz) refl

pub picture_viewpoint : (name verb x y z : Text) → IsPlainWord x → IsPlainWord y → IsPlainWord z → first_of (codes "viewpoint") (matches_of (picture_command name) (verb ∷ x ∷ y ∷ z ∷ [])) ≡ Some y
picture_viewpoint name verb x y z wx wy wz = rw (walked_plain picture_rules nothing_held 1 x wx, walked_plain picture_rules (one_file x) 2 y wy, walked_plain picture_rules (two_files x y) 3 z wz) refl

pub picture_model : (name verb x y z : Text) → IsPlainWord x → IsPlainWord y → IsPlainWord z → first_of (codes "model") (matches_of (picture_command name) (verb ∷ x ∷ y ∷ z ∷ [])) ≡ Some z
picture_model name verb x y z wx wy wz = rw (walked_plain picture_rules nothing_held 1 x wx, walked_plain picture_rules (one_file x) 2 y wy, walked_plain picture_rules (two_files x y) 3 z wz) refl

-- ---- the files of a picture, and a number of connections

abbrev limited_rules : List Rule
limited_rules = (built limited_serve_command).top.rules

abbrev first_held : Text → Held
first_held x = then_held limited_rules 1 x nothing_held

abbrev second_held : Text → Text → Held
second_held x y = then_held limited_rules 2 y (first_held x)

abbrev third_held : Text → Text → Text → Held
third_held x y z = then_held limited_rules 3 z (second_held x y)

-- after `--connections`
abbrev option_held : Held → Held
option_held h = record (settled limited_rules h) { pending = Some (codes "connections", []) }

walked_option : (h : Held) → walked limited_rules [] (between h 4) (codes "--connections") ≡ waiting_for (codes "connections") (option_held h) 4
unfolding clap_on_literals limited_serve_command
walked_option h = refl

abbrev pub limited_words : Text → Text → Text → Text → Text → List Text
limited_words verb x y z n = verb ∷ x ∷ y ∷ z ∷ codes "--connections" ∷ n ∷ []

pub limited_takes : (verb x y z n : Text) → IsPlainWord x → IsPlainWord y → IsPlainWord z → IsPlainWord n → takes limited_serve_command (limited_words verb x y z n) ≡ true
unfolding limited_serve_command walk_passes
limited_takes verb x y z n wx wy wz wn =
    rw (
      wx.no_long,
      wx.no_short,
      wx.no_end,
      walked_plain limited_rules nothing_held 1 x wx,
      wy.no_long,
      wy.no_short,
      wy.no_end,
      walked_plain limited_rules (first_held x) 2 y wy,
      wz.no_long,
      wz.no_short,
      wz.no_end,
      walked_plain limited_rules (second_held x y) 3 z wz,
      walked_option (third_held x y z),
      wn.no_long,
      wn.no_short,
      wn.no_end,
      walked_value limited_rules (codes "connections") (option_held (third_held x y z)) 4 n wn,
    ) refl

pub limited_metamodel : (verb x y z n : Text) → IsPlainWord x → IsPlainWord y → IsPlainWord z → IsPlainWord n → first_of (codes "metamodel") (matches_of limited_serve_command (limited_words verb x y z n)) ≡ Some x
unfolding limited_serve_command
limited_metamodel verb x y z n wx wy wz wn =
    rw (
      walked_plain limited_rules nothing_held 1 x wx,
      walked_plain limited_rules (first_held x) 2 y wy,
      walked_plain limited_rules (second_held x y) 3 z wz,
      walked_option (third_held x y z),
      walked_value limited_rules (codes "connections") (option_held (third_held x y z)) 4 n wn,
    ) refl

pub limited_viewpoint : (verb x y z n : Text) → IsPlainWord x → IsPlainWord y → IsPlainWord z → IsPlainWord n → first_of (codes "viewpoint") (matches_of limited_serve_command (limited_words verb x y z n)) ≡ Some y
unfolding limited_serve_command
limited_viewpoint verb x y z n wx wy wz wn =
    rw (
      walked_plain limited_rules nothing_held 1 x wx,
      walked_plain limited_rules (first_held x) 2 y wy,
      walked_plain limited_rules (second_held x y) 3 z wz,
      walked_option (third_held x y z),
      walked_value limited_rules (codes "connections") (option_held (third_held x y z)) 4 n wn,
    ) refl

pub limited_model : (verb x y z n : Text) → IsPlainWord x → IsPlainWord y → IsPlainWord z → IsPlainWord n → first_of (codes "model") (matches_of limited_serve_command (limited_words verb x y z n)) ≡ Some z
unfolding limited_serve_command
limited_model verb x y z n wx wy wz wn =
    rw (
      walked_plain limited_rules nothing_held 1 x wx,
      walked_plain limited_rules (first_held x) 2 y wy,
      walked_plain limited_rules (second_held x y) 3 z wz,
      walked_option (third_held x y z),
      walked_value limited_rules (codes "connections") (option_held (third_held x y z)) 4 n wn,
    ) refl

pub limited_connections : (verb x y z n : Text) → IsPlainWord x → IsPlainWord y → IsPlainWord z → IsPlainWord n → first_of (codes "connections") (matches_of limited_serve_command (limited_words verb x y z n)) ≡ Some n
unfolding limited_serve_command
limited_connections verb x y z n wx wy wz wn =
    rw (
      walked_plain limited_rules nothing_held 1 x wx,
      walked_plain limited_rules (first_held x) 2 y wy,
      walked_plain limited_rules (second_held x y) 3 z wz,
      walked_option (third_held x y z),
      walked_value limited_rules (codes "connections") (option_held (third_held x y z)) 4 n wn,
    ) refl

-- ---- `big`

abbrev big_rules : List Rule
big_rules = (built big_command).top.rules

pub big_takes : (verb n : Text) → IsPlainWord n → takes big_command (verb ∷ n ∷ []) ≡ true
unfolding big_command walk_passes
big_takes verb n wn = rw (wn.no_long, wn.no_short, wn.no_end, walked_plain big_rules nothing_held 1 n wn) refl

pub big_number : (verb n : Text) → IsPlainWord n → first_of (codes "number") (matches_of big_command (verb ∷ n ∷ [])) ≡ Some n
unfolding big_command
big_number verb n wn = rw (walked_plain big_rules nothing_held 1 n wn) refl
