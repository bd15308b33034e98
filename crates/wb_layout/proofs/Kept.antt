-- Some keys keep their positions.
use Rattle.std.proofs.Common.{◌≡◌, ◌<◌, ◌+◌, ℕ, Bool, true, false, ◌||◌, List, [], ◌∷◌, ◌++◌, length, take, get_or, cond, Option, Some, None, refl, sym, ap, ◌∙◌}
use Rattle.std.specs.declared.cmp.Ordering.{Ordering}
use Rattle.std.specs.declared.cmp.Ordering.TheVariants as c
use Rattle.std.specs.Ordering.{is_eq}
use Rattle.std.specs.FinMap.{get, get-insert, get-retain_keys, get_tied, same_map}
use Rattle.std.proofs.lemmas.List.{take_more}
use Rattle.std.proofs.lemmas.List.Folds.{list_any-append}
use Rattle.wb_diagram.specs.declared.keys.Key.{Key}
use Rattle.wb_layout.specs.Orders.{key_cmp, same_key, is_key}
use Rattle.wb_layout.specs.Positions.{Position, Positions, placed, restricted}
use Rattle.wb_layout.specs.invariants.Kept.{kept_too}
use Rattle.wb_layout.proofs.KeyOrder.{key_cmp_total, key_cmp-IsAntisymmetric}

equal_of : (r : Ordering) → is_eq r ≡ true → r ≡ c.Equal
equal_of c.Less e = absurd cc
equal_of c.Equal e = refl
equal_of c.Greater e = absurd cc

pub placed_too : (m n : Positions) (k l : Key) (v : Position) (q : Key) → n ≡ placed m l v → l ≡ k → get n q ≡ kept_too k (Some v) (get m q) q
placed_too m n k l v q e f = ap (λ x. get x q) e ∙ (get-insert key_cmp_total m l v q ∙ ap (λ x. cond (same_key q x) (Some v) (get m q)) f)

kept_by : (b e : Bool) (k : Key) (q : Key) (fq fk : Option Position) → same_key q k ≡ e → (e ≡ true → fk ≡ fq) → kept_too k fk (cond b fq None) q ≡ cond (b || e) fq None
kept_by true true k q fq None h same = refl
kept_by true true k q fq (Some v) h same = ap (λ x. cond x (Some v) fq) h ∙ same refl
kept_by true false k q fq None h same = refl
kept_by true false k q fq (Some v) h same = ap (λ x. cond x (Some v) fq) h
kept_by false true k q fq None h same = same refl
kept_by false true k q fq (Some v) h same = ap (λ x. cond x (Some v) None) h ∙ same refl
kept_by false false k q fq None h same = refl
kept_by false false k q fq (Some v) h same = ap (λ x. cond x (Some v) None) h

no_more : (b : Bool) → (b || false) ≡ b
no_more true = refl
no_more false = refl

pub kept_more : (m : Positions) (ks : List Key) (i : ℕ) (k : Key) (before now : Option Position) (q : Key) → i < length ks → k ≡ get_or ks i k
    → before ≡ cond (is_key (take i ks) q) (get m q) None → now ≡ kept_too k (get m k) before q → now ≡ cond (is_key (take (i + 1) ks) q) (get m q) None
kept_more m ks i k before now q l at h e =
    let more : is_key (take (i + 1) ks) q ≡ (is_key (take i ks) q || same_key q k) =
    ap (λ xs. is_key xs q) (take_more ks i k l ∙ ap (λ x. take i ks ++ x ∷ []) (sym at)) ∙ (list_any-append (same_key q) (take i ks) (k ∷ []) ∙ ap (λ b. is_key (take i ks) q || b) (no_more (same_key q k))) in
    e ∙ (ap (λ x. kept_too k (get m k) x q) h
    ∙ (kept_by (is_key (take i ks) q) (same_key q k) k q (get m q) (get m k) refl (λ t. get_tied key_cmp_total m q k (equal_of (key_cmp q k) t))
    ∙ ap (λ b. cond b (get m q) None) (sym more)))

tied_is_key : (ks : List Key) (q x : Key) → key_cmp q x ≡ c.Equal → is_key ks x ≡ is_key ks q
tied_is_key ks q x e = ap (is_key ks) (sym (key_cmp-IsAntisymmetric q x e))

-- what a key has once only these keep their positions
pub get-restricted : (m : Positions) (ks : List Key) (q : Key) → get (restricted m ks) q ≡ cond (is_key ks q) (get m q) None
get-restricted m ks q = get-retain_keys m (is_key ks) q (tied_is_key ks q)

pub all_kept : (m n : Positions) (ks : List Key) → ((q : Key) → get n q ≡ cond (is_key ks q) (get m q) None) → n ≡ restricted m ks
all_kept m n ks h = same_map key_cmp_total key_cmp-IsAntisymmetric n (restricted m ks) (λ q. h q ∙ sym (get-restricted m ks q))
