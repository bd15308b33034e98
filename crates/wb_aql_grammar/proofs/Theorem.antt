-- What comes of reading from the left is what the grammar says.
use Rattle.std.proofs.Common.{◌≡◌, ℕ, ◌≤◌, List, [], ◌∷◌, ◌++◌, refl, sym, ap, ◌∙◌, subst, inl, inr, ◌⊎◌}
use Rattle.std.specs.Prelude.{Some, None}
use Rattle.wb_aql_grammar.specs.Tree.{Tree, Arguments}
use Rattle.wb_aql_grammar.specs.Grammar.{Phrase, Argument, Bound, Rest, done, sign, name, phrase, opening, Line, Takes, Reads, reads_done, reads_sign, reads_name, reads_phrase, reads_opening}
use Rattle.wb_aql_grammar.specs.invariants.Runs.{Outcome, Good, Wrong, Deep, next, pick}
use Rattle.wb_aql_grammar.specs.Places.{head}
use Rattle.wb_aql_tokens.specs.declared.token.Token.{Token}
use Rattle.wb_aql_tokens.specs.declared.token.Token.TheVariants.{Name}
use Rattle.wb_aql_grammar.specs.declared.expr.CallKind.{CallKind}
use Rattle.wb_aql_grammar.proofs.Ranks.{rank, level}
use Rattle.wb_aql_grammar.proofs.Local.{front_of, Plain, choice, pick_line, some_same, none_some}
use Rattle.wb_aql_grammar.proofs.Languages.{Language, Safe, IsGood, Explains, head_append, along, Both, both, both_wrong, both_deep, both_good, First, first, first_answers, nothing, Inside, taken, inside_answers, viable_inside, too_deep}
use Rattle.wb_aql_grammar.proofs.Agreement.{rest_of, same_argument}
use Rattle.wb_aql_grammar.proofs.Fits.{Lang, Cheap, Fits, fits, blocked, alive}
use Rattle.wb_aql_grammar.specs.invariants.Runs as run
use Rattle.wb_aql_grammar.specs.invariants.Runs.{Runs, IsUnread}

-- a phrase by one of its lines
abbrev pub Phrases : Phrase → Language
Phrases p n l text rest x = (line : Rest) × Line p line × Reads n l line text rest x

-- a reading that agrees with what was read up to the next token takes the same line, or stops early
abbrev pub Agree : Phrase → Rest → List Token → Outcome → Type 0
Agree p line text o = (front : List Token) → text ≡ front ++ rest_of o → (m k : ℕ) (more behind : List Token) (x : Tree) (other : Rest) →
    head more ≡ head (rest_of o) → Line p other → Reads m k other (front ++ more) behind x → (other ≡ line) ⊎ (level p ≤ rank (head behind))

pick_plain : (p : Phrase) (text : List Token) → Plain p → pick p text ≡ next p (head text)
pick_plain (Argument d x v xs) text ok = absurd ok
pick_plain _ text ok = refl

agree_plain : (p : Phrase) (line : Rest) (text : List Token) (o : Outcome) → Plain p → pick p text ≡ Some line → Agree p line text o
agree_plain p line text o ok e front split m k more behind x other h is r =
    elim (choice ok is (front ++ more) behind (front_of r)) [
      | inl i ↦ inl (some_same (sym i ∙ (ap (next p) (head_append front more (rest_of o) h ∙ sym (ap head split)) ∙ (sym (pick_plain p text ok) ∙ e))))
      | inr j ↦ inr j
    ]

agree_argument : (n l : ℕ) (d : CallKind) (x : Tree) (v : List ℕ) (xs : Arguments) (line : Rest) (text : List Token) (o : Outcome) → Runs n l line text o →
    pick (Argument d x v xs) text ≡ Some line → Agree (Argument d x v xs) line text o
agree_argument n l d x v xs line text o run e = subst (λ z. Agree (Argument d x v xs) z text o) (some_same e)
    (same_argument d x v xs text o n l (subst (λ z. Runs n l z text o) (sym (some_same e)) run))

agree : (n l : ℕ) (p : Phrase) (line : Rest) (text : List Token) (o : Outcome) → Runs n l line text o → pick p text ≡ Some line → Agree p line text o
agree n l (Argument d x v xs) line text o run e = agree_argument n l d x v xs line text o run e
agree n l p line text o run e = agree_plain p line text o tt e

picked : (n l : ℕ) (p : Phrase) (line : Rest) (text : List Token) (o : Outcome) → Line p line → Agree p line text o →
    Explains (Lang line) (level p) n l text o → Explains (Phrases p) (level p) n l text o
picked n l p line text (Good y rest) is agrees g = record {
  front = g.front;
  split = g.split;
  reads = λ m k more i j. (line, is, g.reads m k more i j);
  only = λ m k more behind x e r. elim (agrees g.front g.split m k more behind x r.0 e r.1 r.2) [
    | inl same ↦ g.only m k more behind x e (subst (λ z. Reads m k z (g.front ++ more) behind x) same r.2)
    | inr early ↦ inr early
  ];
}
picked n l p line text (Wrong rest) is agrees g = record {
  front = g.front;
  split = g.split;
  viable = record { more = g.viable.more; tree = g.viable.tree; reads = λ tail. (line, is, g.viable.reads tail) };
  safe = picked_safe g.safe;
  never = λ m k more behind x e r. elim (agrees g.front g.split m k more behind x r.0 e r.1 r.2) [
    | inl same ↦ g.never m k more behind x e (subst (λ z. Reads m k z (g.front ++ more) behind x) same r.2)
    | inr early ↦ early
  ];
}
  where
    picked_safe : {front : List Token} → Safe (Lang line) n l front → Safe (Phrases p) n l front
    picked_safe (inl c) = inl c
    picked_safe (inr s) = inr (record {
      p = s.p;
      q = s.q;
      split = s.split;
      closed = s.closed;
      viable = record { more = s.viable.more; tree = s.viable.tree; reads = λ tail. (line, is, s.viable.reads tail) };
    })
picked n l p line text (Deep rest) is agrees g = record {
  front = g.front;
  split = g.split;
  token = g.token;
  behind = g.behind;
  is = g.is;
  opened = g.opened;
  deeper = record { more = g.deeper.more; tree = g.deeper.tree; reads = λ tail. (line, is, g.deeper.reads tail) };
  safe = picked_safe g.safe;
  never = λ more behind x r. elim (agrees g.front g.split n l (g.token ∷ more) behind x r.0 (sym (ap head g.is)) r.1 r.2) [
    | inl same ↦ g.never more behind x (subst (λ z. Reads n l z (g.front ++ (g.token ∷ more)) behind x) same r.2)
    | inr early ↦ early
  ];
}
  where
    picked_safe : {front : List Token} → Safe (Lang line) n l front → Safe (Phrases p) n l front
    picked_safe (inl c) = inl c
    picked_safe (inr s) = inr (record {
      p = s.p;
      q = s.q;
      split = s.split;
      closed = s.closed;
      viable = record { more = s.viable.more; tree = s.viable.tree; reads = λ tail. (line, is, s.viable.reads tail) };
    })

-- ---- the constructors of a reading, taken apart

done_same : {n l : ℕ} {y : Tree} {text rest : List Token} {x : Tree} → Reads n l (done y) text rest x → (rest ≡ text) × (x ≡ y)
done_same reads_done = (refl, refl)

to_sign : {a : Token} {r : Rest} (n l : ℕ) (text rest : List Token) (x : Tree) → First a (Lang r) n l text rest x → Reads n l (sign a r) text rest x
to_sign n l text rest x (first d) = reads_sign d

from_sign : {a : Token} {r : Rest} (n l : ℕ) (text rest : List Token) (x : Tree) → Reads n l (sign a r) text rest x → First a (Lang r) n l text rest x
from_sign n l text rest x (reads_sign d) = first d

sign_head : {n l : ℕ} {a : Token} {r : Rest} {text rest : List Token} {x : Tree} → Reads n l (sign a r) text rest x → head text ≡ Some a
sign_head (reads_sign d) = refl

name_behind : {n l : ℕ} {v : List ℕ} {r : List ℕ → Rest} {text rest : List Token} {x : Tree} → Reads n l (name r) (Name v ∷ text) rest x → Reads n l (r v) text rest x
name_behind (reads_name d) = d

name_head : {n l : ℕ} {r : List ℕ → Rest} {text rest : List Token} {x : Tree} → Reads n l (name r) text rest x → (v : List ℕ) × (head text ≡ Some (Name v))
name_head (reads_name {v = v} d) = (v, refl)

to_phrase : {p : Phrase} {r : Tree → Rest} (n l : ℕ) (text rest : List Token) (x : Tree) → Both (Phrases p) (λ y. Lang (r y)) n l text rest x → Reads n l (phrase p r) text rest x
to_phrase n l text rest x (both u d) = reads_phrase u.1 u.2 d

from_phrase : {p : Phrase} {r : Tree → Rest} (n l : ℕ) (text rest : List Token) (x : Tree) → Reads n l (phrase p r) text rest x → Both (Phrases p) (λ y. Lang (r y)) n l text rest x
from_phrase n l text rest x (reads_phrase {line = line} is d e) = both (line, is, d) e

to_opening : {bound : Bound} {a : Token} {i : Rest} {r : Tree → Rest} (n l : ℕ) (text rest : List Token) (x : Tree) →
    Both (First a (Inside bound (Lang i))) (λ y. Lang (r y)) n l text rest x → Reads n l (opening bound a i r) text rest x
to_opening n l text rest x (both (first (taken t d)) e) = reads_opening t d e

from_opening : {bound : Bound} {a : Token} {i : Rest} {r : Tree → Rest} (n l : ℕ) (text rest : List Token) (x : Tree) →
    Reads n l (opening bound a i r) text rest x → Both (First a (Inside bound (Lang i))) (λ y. Lang (r y)) n l text rest x
from_opening n l text rest x (reads_opening t d e) = both (first (taken t d)) e

opening_head : {n l : ℕ} {bound : Bound} {a : Token} {i : Rest} {r : Tree → Rest} {text rest : List Token} {x : Tree} → Reads n l (opening bound a i r) text rest x → head text ≡ Some a
opening_head (reads_opening t d e) = refl

-- ---- a name

safe_name : {v : List ℕ} {r : List ℕ → Rest} {n l : ℕ} {front : List Token} → Safe (Lang (r v)) n l front → Safe (Lang (name r)) n l (Name v ∷ front)
safe_name (inl c) = inl (refl, c)
safe_name {v = v} (inr s) = inr (record {
  p = Name v ∷ s.p;
  q = s.q;
  split = ap (λ z. Name v ∷ z) s.split;
  closed = s.closed;
  viable = record { more = s.viable.more; tree = s.viable.tree; reads = λ tail. reads_name (s.viable.reads tail) };
})

name_answers : (v : List ℕ) (r : List ℕ → Rest) (f n l : ℕ) (text : List Token) (o : Outcome) → Explains (Lang (r v)) f n l text o → Explains (Lang (name r)) f n l (Name v ∷ text) o
name_answers v r f n l text (Good y rest) g = record {
  front = Name v ∷ g.front;
  split = ap (λ z. Name v ∷ z) g.split;
  reads = λ m k more i j. reads_name (g.reads m k more i j);
  only = λ m k more behind x e d. g.only m k more behind x e (name_behind d);
}
name_answers v r f n l text (Wrong rest) g = record {
  front = Name v ∷ g.front;
  split = ap (λ z. Name v ∷ z) g.split;
  viable = record { more = g.viable.more; tree = g.viable.tree; reads = λ tail. reads_name (g.viable.reads tail) };
  safe = safe_name {v = v} {r = r} g.safe;
  never = λ m k more behind x e d. g.never m k more behind x e (name_behind d);
}
name_answers v r f n l text (Deep rest) g = record {
  front = Name v ∷ g.front;
  split = ap (λ z. Name v ∷ z) g.split;
  token = g.token;
  behind = g.behind;
  is = g.is;
  opened = g.opened;
  deeper = record { more = g.deeper.more; tree = g.deeper.tree; reads = λ tail. reads_name (g.deeper.reads tail) };
  safe = safe_name {v = v} {r = r} g.safe;
  never = λ more behind x d. g.never more behind x (name_behind d);
}

-- ---- the parts of a line put together

module _ (p : Phrase) (r : Tree → Rest) (f n l : ℕ) (text : List Token) (fit : Fits f (phrase p r)) where
  phrase_stops : (y : Tree) (m k : ℕ) (mid behind : List Token) (x : Tree) → Reads m k (r y) mid behind x → level p ≤ rank (head mid) → f ≤ rank (head behind)
  phrase_stops y m k mid behind x d h = blocked (r y) f (level p) mid behind (fit y).1 (front_of d) h

  phrase_good : (y : Tree) (more : List Token) (o : Outcome) → IsGood (Phrases p) (level p) n l text y more → Explains (Lang (r y)) f n l more o → Explains (Lang (phrase p r)) f n l text o
  phrase_good y more o g h = along (Both (Phrases p) (λ y. Lang (r y))) (Lang (phrase p r)) f n l text o to_phrase from_phrase
      (both_good (Phrases p) (λ y. Lang (r y)) (level p) f n l text (λ y. (fit y).0) phrase_stops y more g o h)

  phrase_stop : (o : Outcome) → IsUnread o → Explains (Phrases p) (level p) n l text o → Explains (Lang (phrase p r)) f n l text o
  phrase_stop (Good y rest) stop g = elim stop [ ]
  phrase_stop (Wrong rest) run.wrong_unread g = along (Both (Phrases p) (λ y. Lang (r y))) (Lang (phrase p r)) f n l text (Wrong rest) to_phrase from_phrase
      (both_wrong (Phrases p) (λ y. Lang (r y)) (level p) f n l text (λ y. (fit y).0) phrase_stops rest g)
  phrase_stop (Deep rest) run.deep_unread g = along (Both (Phrases p) (λ y. Lang (r y))) (Lang (phrase p r)) f n l text (Deep rest) to_phrase from_phrase
      (both_deep (Phrases p) (λ y. Lang (r y)) (level p) f n l text (λ y. (fit y).0) phrase_stops rest g)

module _ (bound : Bound) (a : Token) (i : Rest) (r : Tree → Rest) (f n l : ℕ) (text : List Token) (fit : Fits f (opening bound a i r)) where
  opening_stops : (y : Tree) (m k : ℕ) (mid behind : List Token) (x : Tree) → Reads m k (r y) mid behind x → fit.1 ≤ rank (head mid) → f ≤ rank (head behind)
  opening_stops y m k mid behind x d h = blocked (r y) f fit.1 mid behind (fit.4 y).1 (front_of d) h

  opening_good : (y : Tree) (more : List Token) (o : Outcome) → IsGood (First a (Inside bound (Lang i))) fit.1 n l text y more →
      Explains (Lang (r y)) f n l more o → Explains (Lang (opening bound a i r)) f n l text o
  opening_good y more o g h = along (Both (First a (Inside bound (Lang i))) (λ y. Lang (r y))) (Lang (opening bound a i r)) f n l text o to_opening from_opening
      (both_good (First a (Inside bound (Lang i))) (λ y. Lang (r y)) fit.1 f n l text (λ y. (fit.4 y).0) opening_stops y more g o h)

  opening_stop : (o : Outcome) → IsUnread o → Explains (First a (Inside bound (Lang i))) fit.1 n l text o → Explains (Lang (opening bound a i r)) f n l text o
  opening_stop (Good y rest) stop g = elim stop [ ]
  opening_stop (Wrong rest) run.wrong_unread g = along (Both (First a (Inside bound (Lang i))) (λ y. Lang (r y))) (Lang (opening bound a i r)) f n l text (Wrong rest) to_opening from_opening
      (both_wrong (First a (Inside bound (Lang i))) (λ y. Lang (r y)) fit.1 f n l text (λ y. (fit.4 y).0) opening_stops rest g)
  opening_stop (Deep rest) run.deep_unread g = along (Both (First a (Inside bound (Lang i))) (λ y. Lang (r y))) (Lang (opening bound a i r)) f n l text (Deep rest) to_opening from_opening
      (both_deep (First a (Inside bound (Lang i))) (λ y. Lang (r y)) fit.1 f n l text (λ y. (fit.4 y).0) opening_stops rest g)

-- an opening, and what comes of what stands inside it
opened_answers : (bound : Bound) (a : Token) (i : Rest) (e n l m k : ℕ) (text : List Token) (o : Outcome) → Takes bound n l m k → Cheap i →
    Explains (Lang i) e m k text o → Explains (First a (Inside bound (Lang i))) e n l (a ∷ text) o
opened_answers bound a i e n l m k text o t cheap h =
    first_answers a (Inside bound (Lang i)) e n l text (λ z. viable_inside t (cheap m k)) o (inside_answers bound (Lang i) e n l m k text t o h)

no_line : (p : Phrase) (text : List Token) → pick p text ≡ None → (m k : ℕ) (more behind : List Token) (x : Tree) → head more ≡ head text →
    Phrases p m k more behind x → level p ≤ rank (head behind)
no_line (Argument d x v xs) text e m k more behind y h u = absurd (none_some (sym e))
no_line p text e m k more behind x h u = elim (choice tt u.1 more behind (front_of u.2)) [
  | inl i ↦ absurd (none_some (sym e ∙ (ap (next p) (sym h) ∙ i)))
  | inr j ↦ j
]

pub answers : {n l : ℕ} {r : Rest} {text : List Token} {o : Outcome} → Runs n l r text o → (f : ℕ) → Fits f r → Explains (Lang r) f n l text o
answers run.runs_done f fit = record { front = []; split = refl; reads = λ m k more i j. reads_done; only = λ m k more behind x e d. inl (done_same d) }
answers {n = n} {l = l} (run.runs_sign {a = a} {r = rest} {text = text} {o = o} d) f fit =
    along (First a (Lang rest)) (Lang (sign a rest)) f n l (a ∷ text) o to_sign from_sign (first_answers a (Lang rest) f n l text (λ e. fit.0 e n l) o (answers d f fit.1))
answers {n = n} {l = l} (run.runs_no_sign {a = a} {r = rest} ne) f fit = nothing (alive (sign a rest) f fit n l) (λ m k more behind x e d. absurd (ne (sym e ∙ sign_head d)))
answers {n = n} {l = l} (run.runs_name {v = v} {r = rest} {text = text} {o = o} d) f fit = name_answers v rest f n l text o (answers d f (fit v))
answers {n = n} {l = l} (run.runs_no_name {r = rest} ne) f fit =
    nothing (alive (name rest) f fit n l) (λ m k more behind x e d. let u = name_head d in absurd (ne u.0 (sym e ∙ u.1)))
answers {n = n} {l = l} (run.runs_phrase {p = p} {line = line} {r = rest} {text = text} {more = more} {y = y} {o = o} e d1 d2) f fit =
    phrase_good p rest f n l text fit y more o
    (picked n l p line text (Good y more) (pick_line p text line e) (agree n l p line text (Good y more) d1 e) (answers d1 (level p) (fits (pick_line p text line e))))
    (answers d2 f (fit y).2)
answers {n = n} {l = l} (run.runs_phrase_stop {p = p} {line = line} {r = rest} {text = text} {o = o} e d stop) f fit =
    phrase_stop p rest f n l text fit o stop
    (picked n l p line text o (pick_line p text line e) (agree n l p line text o d e) (answers d (level p) (fits (pick_line p text line e))))
answers {n = n} {l = l} {text = text} (run.runs_no_phrase {p = p} {r = rest} e) f fit =
    nothing (alive (phrase p rest) f fit n l) (λ m k more behind x h d. no_phrase p rest f text fit e m k more behind x h (from_phrase m k more behind x d))
  where
    no_phrase : (p : Phrase) (r : Tree → Rest) (f : ℕ) (text : List Token) → Fits f (phrase p r) → pick p text ≡ None → (m k : ℕ) (more behind : List Token) (x : Tree) → head more ≡ head text →
        Both (Phrases p) (λ y. Lang (r y)) m k more behind x → f ≤ rank (head behind)
    no_phrase p r f text fit e m k more behind x h (both {more = mid} {y = z} a b) = phrase_stops p r f m k text fit z m k mid behind x b (no_line p text e m k more mid z h a)
answers {n = n} {l = l} (run.runs_opening {bound = bound} {m = m} {k = k} {a = a} {i = i} {r = rest} {text = text} {more = more} {y = y} {o = o} t d1 d2) f fit =
    opening_good bound a i rest f n l (a ∷ text) fit y more o
    (opened_answers bound a i fit.1 n l m k text (Good y more) t fit.3 (answers d1 fit.1 fit.2))
    (answers d2 f (fit.4 y).2)
answers {n = n} {l = l} (run.runs_opening_stop {bound = bound} {m = m} {k = k} {a = a} {i = i} {r = rest} {text = text} {o = o} t d stop) f fit =
    opening_stop bound a i rest f n l (a ∷ text) fit o stop (opened_answers bound a i fit.1 n l m k text o t fit.3 (answers d fit.1 fit.2))
answers {n = n} {l = l} (run.runs_no_opening {bound = bound} {a = a} {i = i} {r = rest} ne) f fit =
    nothing (alive (opening bound a i rest) f fit n l) (λ m k more behind x e d. absurd (ne (sym e ∙ opening_head d)))
answers {n = n} {l = l} (run.runs_too_deep {bound = bound} {a = a} {i = i} {r = rest} {text = text} spent) f fit =
    opening_stop bound a i rest f n l (a ∷ text) fit (Deep (a ∷ text)) run.deep_unread (too_deep fit.0 fit.3 spent)
