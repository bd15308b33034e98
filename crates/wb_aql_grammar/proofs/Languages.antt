-- What an outcome says of a language of fronts, and how it passes through the parts of a line.
use Rattle.std.proofs.Common.{◌≡◌, ℕ, suc, zero, ◌≤◌, List, [], ◌∷◌, ◌++◌, refl, sym, ap, ◌∙◌, subst, append_assoc, inl, inr, arith, Bool, true, false, ◌⊎◌}
use Rattle.std.specs.Prelude.{Some}
use Rattle.wb_aql_grammar.specs.Tree.{Tree}
use Rattle.wb_aql_grammar.specs.Grammar.{Bound, openings, lambdas, Takes, takes_opening, takes_lambda}
use Rattle.wb_aql_grammar.specs.invariants.Runs.{Outcome, Good, Wrong, Deep, Spent, no_opening, no_lambda}
use Rattle.wb_aql_grammar.specs.Places.{head}
use Rattle.wb_aql_tokens.specs.declared.token.Token.{Token}
use Rattle.wb_aql_grammar.specs.Places.{opens}
use Rattle.wb_aql_grammar.proofs.Ranks.{rank}

abbrev pub Language : Type 1
Language = ℕ → ℕ → List Token → List Token → Tree → Type 0

-- some text that begins so is in the language
pub record Viable (L : Language) (n l : ℕ) (front : List Token) : Type 0 where
  pub more : List Token
  pub tree : Tree
  pub reads : (tail : List Token) → L n l (front ++ (more ++ tail)) tail tree

-- no token of it opens anything
abbrev pub Closed : List Token → Type 0
Closed [] = Unit {0}
Closed (a ∷ q) = (opens a ≡ false) × Closed q

-- the front up to its last opening can be read within the bounds
pub record Kept (L : Language) (n l : ℕ) (front : List Token) : Type 0 where
  pub p : List Token
  pub q : List Token
  pub split : front ≡ p ++ q
  pub viable : Viable L n l p
  pub closed : Closed q

abbrev pub Safe : Language → ℕ → ℕ → List Token → Type 0
Safe L n l front = Closed front ⊎ Kept L n l front

pub record IsGood (L : Language) (f n l : ℕ) (text : List Token) (y : Tree) (rest : List Token) : Type 0 where
  pub front : List Token
  pub split : text ≡ front ++ rest
  pub reads : (m k : ℕ) (more : List Token) → n ≤ m → l ≤ k → L m k (front ++ more) more y
  pub only : (m k : ℕ) (more behind : List Token) (x : Tree) → head more ≡ head rest → L m k (front ++ more) behind x →
      ((behind ≡ more) × (x ≡ y)) ⊎ (f ≤ rank (head behind))

pub record IsWrong (L : Language) (f n l : ℕ) (text rest : List Token) : Type 0 where
  pub front : List Token
  pub split : text ≡ front ++ rest
  pub viable : Viable L (suc n) (suc l) front
  pub safe : Safe L n l front
  pub never : (m k : ℕ) (more behind : List Token) (x : Tree) → head more ≡ head rest → L m k (front ++ more) behind x → f ≤ rank (head behind)

pub record IsDeep (L : Language) (f n l : ℕ) (text rest : List Token) : Type 0 where
  pub front : List Token
  pub split : text ≡ front ++ rest
  pub token : Token
  pub behind : List Token
  pub is : rest ≡ token ∷ behind
  pub opened : opens token ≡ true
  pub deeper : Viable L (suc n) (suc l) (front ++ (token ∷ []))
  pub safe : Safe L n l front
  pub never : (more behind : List Token) (x : Tree) → L n l (front ++ (token ∷ more)) behind x → f ≤ rank (head behind)

abbrev pub Explains : Language → ℕ → ℕ → ℕ → List Token → Outcome → Type 0
Explains L f n l text (Good y rest) = IsGood L f n l text y rest
Explains L f n l text (Wrong rest) = IsWrong L f n l text rest
Explains L f n l text (Deep rest) = IsDeep L f n l text rest

pub head_append : (front a b : List Token) → head a ≡ head b → head (front ++ a) ≡ head (front ++ b)
head_append [] a b e = e
head_append (x ∷ front) a b e = refl

abbrev pub behind_first : List Token → List Token
behind_first [] = []
behind_first (a ∷ text) = text

le_self : (n : ℕ) → n ≤ n
le_self n = omega arith

le_suc : (n : ℕ) → n ≤ suc n
le_suc n = omega arith

-- ---- one language for another

pub viable_along : {L K : Language} {n l : ℕ} {front : List Token} → ((text rest : List Token) (x : Tree) → L n l text rest x → K n l text rest x) →
    Viable L n l front → Viable K n l front
viable_along to v = record { more = v.more; tree = v.tree; reads = λ tail. to _ _ _ (v.reads tail) }

pub safe_along : {L K : Language} {n l : ℕ} {front : List Token} → ((text rest : List Token) (x : Tree) → L n l text rest x → K n l text rest x) →
    Safe L n l front → Safe K n l front
safe_along to (inl c) = inl c
safe_along to (inr s) = inr (record { p = s.p; q = s.q; split = s.split; viable = viable_along to s.viable; closed = s.closed })

pub along : (L K : Language) (f n l : ℕ) (text : List Token) (o : Outcome) →
    ((n l : ℕ) (text rest : List Token) (x : Tree) → L n l text rest x → K n l text rest x) →
    ((n l : ℕ) (text rest : List Token) (x : Tree) → K n l text rest x → L n l text rest x) →
    Explains L f n l text o → Explains K f n l text o
along L K f n l text (Good y rest) to back g = record {
  front = g.front;
  split = g.split;
  reads = λ m k more a b. to _ _ _ _ _ (g.reads m k more a b);
  only = λ m k more behind x e r. g.only m k more behind x e (back _ _ _ _ _ r);
}
along L K f n l text (Wrong rest) to back g = record {
  front = g.front;
  split = g.split;
  viable = viable_along (to _ _) g.viable;
  safe = safe_along (to _ _) g.safe;
  never = λ m k more behind x e r. g.never m k more behind x e (back _ _ _ _ _ r);
}
along L K f n l text (Deep rest) to back g = record {
  front = g.front;
  split = g.split;
  token = g.token;
  behind = g.behind;
  is = g.is;
  opened = g.opened;
  deeper = viable_along (to _ _) g.deeper;
  safe = safe_along (to _ _) g.safe;
  never = λ more behind x r. g.never more behind x (back _ _ _ _ _ r);
}

-- ---- one part, and then another that depends on its tree

pub data Both (L : Language) (M : Tree → Language) : ℕ → ℕ → List Token → List Token → Tree → Type 0 where
  both : {n l : ℕ} {text more rest : List Token} {x y : Tree} → L n l text more y → M y n l more rest x → Both L M n l text rest x

parts : {L : Language} {M : Tree → Language} {n l : ℕ} {text rest : List Token} {x : Tree} → Both L M n l text rest x →
    (more : List Token) × (y : Tree) × L n l text more y × M y n l more rest x
parts (both {more = mid} {y = z} a b) = (mid, z, a, b)

-- the first part is read, then a front of the second
viable_go : {L : Language} {M : Tree → Language} {n l : ℕ} (y : Tree) (a b : List Token) →
    ((more : List Token) → L n l (a ++ more) more y) → Viable (M y) n l b → Viable (Both L M) n l (a ++ b)
viable_go {L = L} {M = M} {n = n} {l = l} y a b reads v = record {
  more = v.more;
  tree = v.tree;
  reads = λ tail. subst (λ text. Both L M n l text tail v.tree) (sym (append_assoc a b (v.more ++ tail))) (both (reads (b ++ (v.more ++ tail))) (v.reads tail));
}

-- the first part is read, and the second follows somehow
viable_end : {L : Language} {M : Tree → Language} {n l : ℕ} (y : Tree) (a : List Token) →
    ((more : List Token) → L n l (a ++ more) more y) → Viable (M y) n l [] → Viable (Both L M) n l a
viable_end y a reads v = record { more = v.more; tree = v.tree; reads = λ tail. both (reads (v.more ++ tail)) (v.reads tail) }

-- a front of the first part, and the second follows somehow
viable_then : {L : Language} {M : Tree → Language} {n l : ℕ} {front : List Token} →
    Viable L n l front → ((y : Tree) → Viable (M y) n l []) → Viable (Both L M) n l front
viable_then {L = L} {M = M} {n = n} {l = l} {front = front} v cheap = let c = cheap v.tree in record {
  more = v.more ++ c.more;
  tree = c.tree;
  reads = λ tail. subst (λ more. Both L M n l (front ++ more) tail c.tree) (sym (append_assoc v.more c.more tail)) (both (v.reads (c.more ++ tail)) (c.reads tail));
}

safe_then : {L : Language} {M : Tree → Language} {n l : ℕ} {front : List Token} →
    ((y : Tree) → Viable (M y) n l []) → Safe L n l front → Safe (Both L M) n l front
safe_then cheap (inl c) = inl c
safe_then cheap (inr s) = inr (record { p = s.p; q = s.q; split = s.split; viable = viable_then s.viable cheap; closed = s.closed })

safe_go : {L : Language} {M : Tree → Language} {n l : ℕ} (y : Tree) (a b : List Token) →
    ((more : List Token) → L n l (a ++ more) more y) → Viable (M y) n l [] → Safe (M y) n l b → Safe (Both L M) n l (a ++ b)
safe_go y a b reads cheap (inl c) = inr (record { p = a; q = b; split = refl; viable = viable_end y a reads cheap; closed = c })
safe_go y a b reads cheap (inr s) = inr (record {
  p = a ++ s.p;
  q = s.q;
  split = ap (λ z. a ++ z) s.split ∙ sym (append_assoc a s.p s.q);
  viable = viable_go y a s.p reads s.viable;
  closed = s.closed;
})

module _ (L : Language) (M : Tree → Language) (e f n l : ℕ) (text : List Token)
    (cheap : (y : Tree) (m k : ℕ) → Viable (M y) m k [])
    (stops : (y : Tree) (m k : ℕ) (mid behind : List Token) (x : Tree) → M y m k mid behind x → e ≤ rank (head mid) → f ≤ rank (head behind)) where
  pub both_wrong : (rest : List Token) → IsWrong L e n l text rest → IsWrong (Both L M) f n l text rest
  both_wrong rest g = record {
    front = g.front;
    split = g.split;
    viable = viable_then g.viable (λ y. cheap y (suc n) (suc l));
    safe = safe_then (λ y. cheap y n l) g.safe;
    never = λ m k more behind x h r. let u = parts r in stops u.1 m k u.0 behind x u.3 (g.never m k more u.0 u.1 h u.2);
  }

  pub both_deep : (rest : List Token) → IsDeep L e n l text rest → IsDeep (Both L M) f n l text rest
  both_deep rest g = record {
    front = g.front;
    split = g.split;
    token = g.token;
    behind = g.behind;
    is = g.is;
    opened = g.opened;
    deeper = viable_then g.deeper (λ y. cheap y (suc n) (suc l));
    safe = safe_then (λ y. cheap y n l) g.safe;
    never = λ more behind x r. let u = parts r in stops u.1 n l u.0 behind x u.3 (g.never more u.0 u.1 u.2);
  }

  -- the front of the first part is read: what a reading of both can be
  second : (y : Tree) (more : List Token) → (g : IsGood L e n l text y more) → (m k : ℕ) (b rest' behind : List Token) (x : Tree) →
      head (b ++ rest') ≡ head more → Both L M m k ((g.front ++ b) ++ rest') behind x → M y m k (b ++ rest') behind x ⊎ (f ≤ rank (head behind))
  second y more g m k b rest' behind x h r =
      let u = parts (subst (λ z. Both L M m k z behind x) (append_assoc g.front b rest') r) in
      elim (g.only m k (b ++ rest') u.0 u.1 h u.2) [
        | inl e ↦ inl (subst (λ z. M y m k z behind x) e.0 (subst (λ z. M z m k u.0 behind x) e.1 u.3))
        | inr early ↦ inr (stops u.1 m k u.0 behind x u.3 early)
      ]

  pub both_good : (y : Tree) (more : List Token) → IsGood L e n l text y more → (o : Outcome) → Explains (M y) f n l more o → Explains (Both L M) f n l text o
  both_good y more g (Good z rest) h = record {
    front = g.front ++ h.front;
    split = g.split ∙ (ap (λ w. g.front ++ w) h.split ∙ sym (append_assoc g.front h.front rest));
    reads = λ m k more' a b. subst (λ w. Both L M m k w more' z) (sym (append_assoc g.front h.front more'))
        (both (g.reads m k (h.front ++ more') a b) (h.reads m k more' a b));
    only = λ m k more' behind x i r.
        elim (second y more g m k h.front more' behind x (head_append h.front more' rest i ∙ sym (ap head h.split)) r) [
          | inl d ↦ h.only m k more' behind x i d
          | inr early ↦ inr early
        ];
  }
  both_good y more g (Wrong rest) h = record {
    front = g.front ++ h.front;
    split = g.split ∙ (ap (λ w. g.front ++ w) h.split ∙ sym (append_assoc g.front h.front rest));
    viable = viable_go y g.front h.front (λ z. g.reads (suc n) (suc l) z (le_suc n) (le_suc l)) h.viable;
    safe = safe_go y g.front h.front (λ z. g.reads n l z (le_self n) (le_self l)) (cheap y n l) h.safe;
    never = λ m k more' behind x i r.
        elim (second y more g m k h.front more' behind x (head_append h.front more' rest i ∙ sym (ap head h.split)) r) [
          | inl d ↦ h.never m k more' behind x i d
          | inr early ↦ early
        ];
  }
  both_good y more g (Deep rest) h = record {
    front = g.front ++ h.front;
    split = g.split ∙ (ap (λ w. g.front ++ w) h.split ∙ sym (append_assoc g.front h.front rest));
    token = h.token;
    behind = h.behind;
    is = h.is;
    opened = h.opened;
    deeper = subst (Viable (Both L M) (suc n) (suc l)) (sym (append_assoc g.front h.front (h.token ∷ [])))
        (viable_go y g.front (h.front ++ (h.token ∷ [])) (λ z. g.reads (suc n) (suc l) z (le_suc n) (le_suc l)) h.deeper);
    safe = safe_go y g.front h.front (λ z. g.reads n l z (le_self n) (le_self l)) (cheap y n l) h.safe;
    never = λ more' behind x r.
        elim (second y more g n l h.front (h.token ∷ more') behind x
        (head_append h.front (h.token ∷ more') rest (sym (ap head h.is)) ∙ sym (ap head h.split)) r) [
          | inl d ↦ h.never more' behind x d
          | inr early ↦ early
        ];
  }

-- ---- a token, and then a language

pub data First (a : Token) (L : Language) : ℕ → ℕ → List Token → List Token → Tree → Type 0 where
  first : {n l : ℕ} {text rest : List Token} {x : Tree} → L n l text rest x → First a L n l (a ∷ text) rest x

behind_token : {a : Token} {L : Language} {n l : ℕ} {text rest : List Token} {x : Tree} → First a L n l text rest x →
    (head text ≡ Some a) × L n l (behind_first text) rest x
behind_token (first d) = (refl, d)

viable_first : {a : Token} {L : Language} {n l : ℕ} {front : List Token} → Viable L n l front → Viable (First a L) n l (a ∷ front)
viable_first v = record { more = v.more; tree = v.tree; reads = λ tail. first (v.reads tail) }

pub viable_before : {a : Token} {L : Language} {n l : ℕ} → Viable L n l [] → Viable (First a L) n l []
viable_before {a = a} v = record { more = a ∷ v.more; tree = v.tree; reads = λ tail. first (v.reads tail) }

safe_first : {a : Token} {L : Language} {n l : ℕ} {front : List Token} (b : Bool) → opens a ≡ b → ((opens a ≡ true) → Viable L n l []) → Safe L n l front → Safe (First a L) n l (a ∷ front)
safe_first {a = a} {front = front} true e cheap (inl c) = inr (record { p = a ∷ []; q = front; split = refl; viable = viable_first (cheap e); closed = c })
safe_first false e cheap (inl c) = inl (e, c)
safe_first {a = a} b e cheap (inr s) = inr (record { p = a ∷ s.p; q = s.q; split = ap (λ z. a ∷ z) s.split; viable = viable_first s.viable; closed = s.closed })

pub first_answers : (a : Token) (L : Language) (f n l : ℕ) (text : List Token) → ((opens a ≡ true) → Viable L n l []) → (o : Outcome) →
    Explains L f n l text o → Explains (First a L) f n l (a ∷ text) o
first_answers a L f n l text cheap (Good y rest) g = record {
  front = a ∷ g.front;
  split = ap (λ z. a ∷ z) g.split;
  reads = λ m k more i j. first (g.reads m k more i j);
  only = λ m k more behind x e r. g.only m k more behind x e (behind_token r).1;
}
first_answers a L f n l text cheap (Wrong rest) g = record {
  front = a ∷ g.front;
  split = ap (λ z. a ∷ z) g.split;
  viable = viable_first g.viable;
  safe = safe_first (opens a) refl cheap g.safe;
  never = λ m k more behind x e r. g.never m k more behind x e (behind_token r).1;
}
first_answers a L f n l text cheap (Deep rest) g = record {
  front = a ∷ g.front;
  split = ap (λ z. a ∷ z) g.split;
  token = g.token;
  behind = g.behind;
  is = g.is;
  opened = g.opened;
  deeper = viable_first g.deeper;
  safe = safe_first (opens a) refl cheap g.safe;
  never = λ more behind x r. g.never more behind x (behind_token r).1;
}

-- ---- a language of which no text begins with this token

pub nothing : {L : Language} {f n l : ℕ} {text : List Token} → Viable L (suc n) (suc l) [] →
    ((m k : ℕ) (more behind : List Token) (x : Tree) → head more ≡ head text → L m k more behind x → f ≤ rank (head behind)) →
    IsWrong L f n l text text
nothing v never = record { front = []; split = refl; viable = v; safe = inl tt; never = never }

-- ---- an opening, and what stands inside it

pub data Inside (b : Bound) (L : Language) : ℕ → ℕ → List Token → List Token → Tree → Type 0 where
  taken : {n l m k : ℕ} {text rest : List Token} {x : Tree} → Takes b n l m k → L m k text rest x → Inside b L n l text rest x

takes_more : {b : Bound} {n l m k : ℕ} → Takes b n l m k → (n' l' : ℕ) → n ≤ n' → l ≤ l' →
    (m' : ℕ) × (k' : ℕ) × Takes b n' l' m' k' × (m ≤ m') × (k ≤ k')
takes_more takes_opening zero l' i j = absurd (omega arith)
takes_more takes_opening (suc n') l' i j = (n', l', takes_opening, omega arith, j)
takes_more takes_lambda n' zero i j = absurd (omega arith)
takes_more takes_lambda n' (suc l') i j = (n', l', takes_lambda, i, omega arith)

takes_suc : {b : Bound} {n l m k : ℕ} → Takes b n l m k → Takes b (suc n) (suc l) (suc m) (suc k)
takes_suc takes_opening = takes_opening
takes_suc takes_lambda = takes_lambda

takes_same : {b : Bound} {n l m k : ℕ} → Takes b n l m k → (m' k' : ℕ) → Takes b n l m' k' → (m' ≡ m) × (k' ≡ k)
takes_same takes_opening m' k' takes_opening = (refl, refl)
takes_same takes_lambda m' k' takes_lambda = (refl, refl)

pub spent_takes : {b : Bound} {n l : ℕ} → Spent b n l → (m k : ℕ) → Takes b n l m k → ⊥
spent_takes no_opening m k t = elim t [ ]
spent_takes no_lambda m k t = elim t [ ]

untaken : {b : Bound} {L : Language} {n l : ℕ} {text rest : List Token} {x : Tree} → Inside b L n l text rest x →
    (m : ℕ) × (k : ℕ) × Takes b n l m k × L m k text rest x
untaken (taken {m = m} {k = k} t d) = (m, k, t, d)

pub viable_inside : {b : Bound} {L : Language} {n l m k : ℕ} {front : List Token} → Takes b n l m k → Viable L m k front → Viable (Inside b L) n l front
viable_inside t v = record { more = v.more; tree = v.tree; reads = λ tail. taken t (v.reads tail) }

safe_inside : {b : Bound} {L : Language} {n l m k : ℕ} {front : List Token} → Takes b n l m k → Safe L m k front → Safe (Inside b L) n l front
safe_inside t (inl c) = inl c
safe_inside t (inr s) = inr (record { p = s.p; q = s.q; split = s.split; viable = viable_inside t s.viable; closed = s.closed })

pub inside_answers : (b : Bound) (L : Language) (f n l m k : ℕ) (text : List Token) → Takes b n l m k → (o : Outcome) →
    Explains L f m k text o → Explains (Inside b L) f n l text o
inside_answers b L f n l m' k' text t (Good y rest) g = record {
  front = g.front;
  split = g.split;
  reads = λ m k more i j. let u = takes_more t m k i j in taken u.2 (g.reads u.0 u.1 more u.3 u.4);
  only = λ m k more behind x e r. let u = untaken r in g.only u.0 u.1 more behind x e u.3;
}
inside_answers b L f n l m' k' text t (Wrong rest) g = record {
  front = g.front;
  split = g.split;
  viable = viable_inside (takes_suc t) g.viable;
  safe = safe_inside t g.safe;
  never = λ m k more behind x e r. let u = untaken r in g.never u.0 u.1 more behind x e u.3;
}
inside_answers b L f n l m k text t (Deep rest) g = record {
  front = g.front;
  split = g.split;
  token = g.token;
  behind = g.behind;
  is = g.is;
  opened = g.opened;
  deeper = viable_inside (takes_suc t) g.deeper;
  safe = safe_inside t g.safe;
  never = λ more behind x r. let u = untaken r in let same = takes_same t u.0 u.1 u.2 in
      g.never more behind x (subst (λ w. L w k (g.front ++ (g.token ∷ more)) behind x) same.0 (subst (λ w. L u.0 w (g.front ++ (g.token ∷ more)) behind x) same.1 u.3));
}

-- there is room for one more opening in larger bounds
pub room : (b : Bound) (n l : ℕ) → (m : ℕ) × (k : ℕ) × Takes b (suc n) (suc l) m k
room openings n l = (n, suc l, takes_opening)
room lambdas n l = (suc n, l, takes_lambda)

pub viable_room : {b : Bound} {L : Language} (n l : ℕ) → ((m k : ℕ) → Viable L m k []) → Viable (Inside b L) (suc n) (suc l) []
viable_room {b = b} n l cheap = let u = room b n l in viable_inside u.2 (cheap u.0 u.1)

pub too_deep : {b : Bound} {a : Token} {L : Language} {f n l : ℕ} {text : List Token} → opens a ≡ true → ((m k : ℕ) → Viable L m k []) → Spent b n l →
    IsDeep (First a (Inside b L)) f n l (a ∷ text) (a ∷ text)
too_deep {a = a} {n = n} {l = l} {text = text} o cheap spent = record {
  front = [];
  split = refl;
  token = a;
  behind = text;
  is = refl;
  opened = o;
  deeper = viable_first (viable_room n l cheap);
  safe = inl tt;
  never = λ more behind x r. let u = untaken (behind_token r).1 in absurd (spent_takes spent u.0 u.1 u.2);
}
