-- Two scalars are the same exactly where they are equal.
use Rattle.std.proofs.Common.{◌≡◌, ℕ, Bool, true, false, ◌&&◌, nat_eq, refl, ap, sym}
use Rattle.std.proofs.lemmas.Bool.{false≢true}
use Rattle.std.proofs.lemmas.Bool.Decides.{Decides-like, Decides-and, Decides-eqb, Decides-int_eq}
use Rattle.std.specs.Bool.{beq, Decides}
use Rattle.std.specs.Cmp.{IsEquivalence, decided}
use Rattle.std.specs.Cmp.Lexicographic.{bytes_decides}
use Rattle.wb_store.specs.declared.scalars.Scalar.{Scalar}
use Rattle.wb_store.specs.declared.scalars.Scalar.TheVariants.{Int, Bool as Boolean, Text, Literal, Object}
use Rattle.wb_store.specs.Scalars.{same}

booleans : (a b : Bool) → Decides (beq a b) (a ≡ b)
booleans true true = (λ e. refl, λ e. refl)
booleans true false = (λ e. sym e, λ e. sym e)
booleans false true = (λ e. e, λ e. e)
booleans false false = (λ e. refl, λ e. refl)

pair : (a b k l : ℕ) → Decides (nat_eq a b && nat_eq k l) (Literal a k ≡ Literal b l)
pair a b k l = Decides-like _ (λ e i. Literal (e.0 i) (e.1 i)) (λ e. (cc, cc)) (Decides-and _ _ (Decides-eqb a b) (Decides-eqb k l))

pub same_decides : (x y : Scalar) → Decides (same x y) (x ≡ y)
same_decides (Int a) (Int b) = Decides-like _ (ap Int) (λ e. cc) (Decides-int_eq a b)
same_decides (Boolean a) (Boolean b) = Decides-like _ (ap Boolean) (λ e. cc) (booleans a b)
same_decides (Text a) (Text b) = Decides-like _ (ap Text) (λ e. cc) (bytes_decides a b)
same_decides (Literal a k) (Literal b l) = pair a b k l
same_decides (Object a) (Object b) = Decides-like _ (ap Object) (λ e. cc) (Decides-eqb a b)
same_decides x y = (λ e. absurd (false≢true e), λ e. cc)

pub same_equiv : IsEquivalence same
same_equiv = decided same same_decides
