-- One piece written after another.
use Rattle.std.proofs.Common.{◌≡◌, ℕ, List, [], ◌++◌, refl, sym, ap, ◌∙◌, append_assoc, append-nil}
use Rattle.std.proofs.lemmas.List.Concat.{flat_map-append}
use Rattle.wb_aql_syntax.specs.Canonical.{Piece}
use Rattle.wb_aql_syntax.specs.Printed.{piece_bytes, bytes_in}

pub bytes_append : (ps qs : List Piece) → bytes_in (ps ++ qs) ≡ bytes_in ps ++ bytes_in qs
unfolding bytes_in
bytes_append ps qs = flat_map-append piece_bytes ps qs

-- ---- the parts of a spelling, one after another

-- pieces, and then what is written behind them
pub two : (a : List ℕ) (ps qs : List Piece) {b c : List ℕ} → b ≡ a ++ bytes_in ps → c ≡ b ++ bytes_in qs → c ≡ a ++ bytes_in (ps ++ qs)
two a ps qs d e = e ∙ (ap (λ z. z ++ bytes_in qs) d ∙ (append_assoc a (bytes_in ps) (bytes_in qs) ∙ ap (λ z. a ++ z) (sym (bytes_append ps qs))))

pub three : (a b : List ℕ) (ps qs rs : List Piece) {c d : List ℕ} → b ≡ a ++ bytes_in ps → c ≡ b ++ bytes_in qs → d ≡ c ++ bytes_in rs → d ≡ a ++ bytes_in (ps ++ (qs ++ rs))
three a b ps qs rs e f g = two a ps (qs ++ rs) e (two b qs rs f g)

-- an element, or an argument, is written: what is left comes behind it
pub one_more : (a : List ℕ) (comma ps left : List Piece) {b c total : List ℕ} → b ≡ a ++ bytes_in comma → c ≡ b ++ bytes_in ps →
    a ++ bytes_in (comma ++ (ps ++ left)) ≡ total → c ++ bytes_in left ≡ total
one_more a comma ps left d e f = three a _ comma ps left d e refl ∙ f

nothing_more : (a : List ℕ) → a ++ bytes_in [] ≡ a
unfolding bytes_in
nothing_more a = append-nil a

-- none is left
pub no_more : (a : List ℕ) (ps : List Piece) {total : List ℕ} → ps ≡ [] → a ++ bytes_in ps ≡ total → a ≡ total
no_more a ps e d = sym (nothing_more a) ∙ (ap (λ ps. a ++ bytes_in ps) (sym e) ∙ d)
