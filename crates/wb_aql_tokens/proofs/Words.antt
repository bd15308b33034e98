-- Signs and reserved words.
use Rattle.std.proofs.Common.{◌≡◌, ◌≢◌, ℕ, ◌≤◌, false, List, [], ◌∷◌, length, Option, Some, None, refl, sym, ap, ◌∙◌, lit≤}
use Rattle.std.specs.Prelude.{bytes_eq, true, find}
use Rattle.std.specs.List.{list_all}
use Rattle.std.specs.Str.{byte}
use Rattle.std.proofs.lemmas.Bool.{false_from_ne_true}
use Rattle.std.proofs.lemmas.Slice.Eq.{bytes_eq-Decides}
use Rattle.wb_aql_tokens.specs.Lexes.{word_of, is_reserved, reserved}
use Rattle.wb_base.specs.Names.{is_name_byte}
use Rattle.wb_aql_tokens.specs.Lexer.{first_start}
use Rattle.wb_aql_tokens.specs.declared.characters.Start.TheVariants as b
use Rattle.wb_aql_tokens.specs.declared.token.Sign.{Sign as SignName}
use Rattle.wb_aql_tokens.specs.declared.token.Sign.TheVariants as s

pub differs : {text word : List ℕ} → text ≢ word → bytes_eq word text ≡ false
differs {text} {word} wrong = false_from_ne_true _ (λ same. wrong (sym ((bytes_eq-Decides word text).0 same)))

-- a reserved word is made of name bytes; a sign has one byte or two, and the first of them begins no name, integer or text
pub data Shape (sign : SignName) : Type 0 where
  is_word : first_start (word_of sign) ≡ Some b.Word → list_all is_name_byte (word_of sign) ≡ true → length (word_of sign) ≤ 64 → is_reserved (word_of sign) ≡ true → Shape sign
  is_short : first_start (word_of sign) ≡ Some b.Sign → length (word_of sign) ≡ 1 → Shape sign
  is_long : first_start (word_of sign) ≡ Some b.Sign → length (word_of sign) ≡ 2 → Shape sign

pub shape : (sign : SignName) → Shape sign
unfolding word_of is_reserved reserved
shape s.If = is_word refl refl (lit≤ tt) refl
shape s.Then = is_word refl refl (lit≤ tt) refl
shape s.Else = is_word refl refl (lit≤ tt) refl
shape s.Endif = is_word refl refl (lit≤ tt) refl
shape s.Let = is_word refl refl (lit≤ tt) refl
shape s.In = is_word refl refl (lit≤ tt) refl
shape s.And = is_word refl refl (lit≤ tt) refl
shape s.Or = is_word refl refl (lit≤ tt) refl
shape s.Xor = is_word refl refl (lit≤ tt) refl
shape s.Implies = is_word refl refl (lit≤ tt) refl
shape s.Not = is_word refl refl (lit≤ tt) refl
shape s.Div = is_word refl refl (lit≤ tt) refl
shape s.Null = is_word refl refl (lit≤ tt) refl
shape s.True = is_word refl refl (lit≤ tt) refl
shape s.False = is_word refl refl (lit≤ tt) refl
shape s.Sequence = is_word refl refl (lit≤ tt) refl
shape s.OrderedSet = is_word refl refl (lit≤ tt) refl
shape s.Equal = is_short refl refl
shape s.Less = is_short refl refl
shape s.Greater = is_short refl refl
shape s.Plus = is_short refl refl
shape s.Minus = is_short refl refl
shape s.Times = is_short refl refl
shape s.Dot = is_short refl refl
shape s.Comma = is_short refl refl
shape s.Bar = is_short refl refl
shape s.Open = is_short refl refl
shape s.Close = is_short refl refl
shape s.OpenBrace = is_short refl refl
shape s.CloseBrace = is_short refl refl
shape s.NotEqual = is_long refl refl
shape s.LessEqual = is_long refl refl
shape s.GreaterEqual = is_long refl refl
shape s.Arrow = is_long refl refl
shape s.Colons = is_long refl refl

-- the sign of a word
all : List SignName
all = s.If ∷ s.Then ∷ s.Else ∷ s.Endif ∷ s.Let ∷ s.In ∷ s.And ∷ s.Or ∷ s.Xor ∷ s.Implies ∷ s.Not ∷ s.Div ∷ s.Null ∷ s.True ∷ s.False ∷ s.Sequence ∷ s.OrderedSet ∷ s.Equal ∷ s.Less ∷ s.Greater ∷ s.Plus ∷ s.Minus ∷ s.Times ∷ s.Dot ∷ s.Comma ∷ s.Bar ∷ s.Open ∷ s.Close ∷ s.OpenBrace ∷ s.CloseBrace ∷ s.NotEqual ∷ s.LessEqual ∷ s.GreaterEqual ∷ s.Arrow ∷ s.Colons ∷ []

pub sign_of : List ℕ → Option SignName
sign_of bytes = find (λ sign. bytes_eq (word_of sign) bytes) all

found : (sign : SignName) → sign_of (word_of sign) ≡ Some sign
unfolding word_of sign_of all
found s.If = refl
found _ = refl

some_same : {x y : SignName} → Some x ≡ Some y → x ≡ y
some_same e = cc

pub same_sign : (x y : SignName) → word_of x ≡ word_of y → x ≡ y
same_sign x y e = some_same (sym (found x) ∙ ap sign_of e ∙ found y)

pub no_colon : (x : SignName) → word_of x ≡ byte ":" ∷ [] → ⊥
unfolding sign_of all word_of
no_colon x e = let wrong : None ≡ Some x = ap sign_of (sym e) ∙ found x in cc
