-- Two lists whose elements belong together, place by place.
use Rattle.std.proofs.Common.{◌≡◌, ℕ, ◌+◌, ◌<◌, List, [], ◌∷◌, ◌++◌, length, take, get_or, Some, zero, suc, refl, sym, ap, ◌∙◌, subst}
use Rattle.std.proofs.lemmas.List.{take_more}
use Rattle.std.proofs.lemmas.Option.{none-some, same_Some}
use Rattle.std.specs.List.{AllZip, slice_get}

pub zip-push : {A B : Type 0} (R : A → B → Type 0) (xs : List A) (ys : List B) (x : A) (y : B) → AllZip R xs ys → R x y → AllZip R (xs ++ x ∷ []) (ys ++ y ∷ [])
zip-push R [] [] x y h r = (r, tt)
zip-push R [] (b ∷ bs) x y h r = absurd h
zip-push R (a ∷ as') [] x y h r = absurd h
zip-push R (a ∷ as') (b ∷ bs) x y h r = (h.0, zip-push R as' bs x y h.1 r)

pub zip-length : {A B : Type 0} (R : A → B → Type 0) (xs : List A) (ys : List B) → AllZip R xs ys → length xs ≡ length ys
zip-length R [] [] h = refl
zip-length R [] (b ∷ bs) h = absurd h
zip-length R (a ∷ as') [] h = absurd h
zip-length R (a ∷ as') (b ∷ bs) h = ap (λ n. suc n) (zip-length R as' bs h.1)

pub zip-at : {A B : Type 0} (R : A → B → Type 0) (xs : List A) (ys : List B) (i : ℕ) (x : A) (y : B) → AllZip R xs ys → slice_get xs i ≡ Some x → slice_get ys i ≡ Some y → R x y
zip-at R [] ys i x y h e f = absurd (none-some x e)
zip-at R (a ∷ as') [] i x y h e f = absurd h
zip-at R (a ∷ as') (b ∷ bs) zero x y h e f = subst (λ v. R v y) (same_Some a x e) (subst (R a) (same_Some b y f) h.0)
zip-at R (a ∷ as') (b ∷ bs) (suc i) x y h e f = zip-at R as' bs i x y h.1 e f

-- one more place of a list that is walked
pub zip_more : {A B : Type 0} (R : A → B → Type 0) (xs : List A) (ys : List B) (i : ℕ) (x : A) (y : B) → AllZip R xs (take i ys) → i < length ys → y ≡ get_or ys i y → R x y → AllZip R (xs ++ x ∷ []) (take (i + 1) ys)
zip_more R xs ys i x y h l e r =
    subst (AllZip R (xs ++ x ∷ [])) (ap (λ v. take i ys ++ v ∷ []) e ∙ sym (take_more ys i y l)) (zip-push R xs (take i ys) x y h r)
