-- The steps of the parser, as steps of reading from the left.
use Rattle.std.proofs.Common.{◌≡◌, ℕ, suc, List, ◌∷◌, refl, sym, ap, ◌∙◌, subst}
use Rattle.std.specs.Prelude.{MatchOption, Option, Some, None, Result, Ok, Err}
use Rattle.std.specs.Borrow.{Bor}
use Rattle.wb_aql_grammar.specs.declared.expr.Node.{Node}
use Rattle.wb_aql_grammar.specs.Tree.{Tree}
use Rattle.wb_aql_grammar.specs.Grammar.{Phrase, CmpMore, PostMore, Bound, openings, lambdas, Rest, done, sign, name, phrase, opening, last, takes_opening, takes_lambda}
use Rattle.wb_aql_grammar.specs.invariants.Runs.{Outcome, Good, Wrong, Deep, IsUnread, pick, next, chain, compare, cmp_next, post_next, Runs}
use Rattle.wb_aql_grammar.specs.Places.{head}
use Rattle.wb_aql_grammar.specs.invariants.Runs as run
use Rattle.wb_aql_grammar.specs.invariants.Reading.{IsOutcome, ReadsSign, ReadsName, Enters, ReadsPhrase, Comes, operand, more, GoesOn, Ends, Compares, NoComparison, Links, NoLink}
use Rattle.wb_aql_grammar.specs.Tree as t
use Rattle.wb_aql_grammar.specs.declared.level.Level.{Level}
use Rattle.wb_aql_grammar.specs.declared.level.Level.TheVariants as v
use Rattle.wb_aql_grammar.specs.declared.expr.Binary.{Binary}
use Rattle.wb_aql_grammar.specs.declared.expr.CallKind.{CallKind}
use Rattle.wb_aql_grammar.specs.declared.expr.CallKind.TheVariants as d
use Rattle.wb_aql_tokens.specs.declared.token.Sign.{Sign as SignName}
use Rattle.wb_aql_tokens.specs.declared.token.Sign.TheVariants as s
use Rattle.wb_aql_tokens.specs.declared.token.Token.{Token}
use Rattle.wb_aql_tokens.specs.declared.token.Token.TheVariants.{Sign, Name}
use Rattle.wb_aql_grammar.specs.declared.unread.Unread.{Unread}
use Rattle.wb_aql_grammar.specs.declared.unread.Unread.TheVariants as e

pub step_sign : (a : Token) (text rest : List Token) → text ≡ a ∷ rest → ReadsSign a text rest
step_sign a text rest e n l r o d = subst (λ z. Runs n l (sign a r) z o) (sym e) (run.runs_sign d)

pub step_name : (v : List ℕ) (text rest : List Token) → text ≡ Name v ∷ rest → ReadsName v text rest
step_name v text rest e n l r o d = subst (λ z. Runs n l (name r) z o) (sym e) (run.runs_name d)

pub step_opening : (a : Token) (text rest : List Token) (n l m k : ℕ) → text ≡ a ∷ rest → n ≡ suc m → k ≡ l → Enters openings a text rest n l m k
step_opening a text rest n l m k e i j inner r = (
  λ o s d. subst (λ z. Runs n l (opening openings a inner r) z o) (sym e)
      (subst (λ w. Runs w l (opening openings a inner r) (a ∷ rest) o) (sym i)
      (run.runs_opening_stop takes_opening (subst (λ w. Runs m w inner rest o) j d) s)),
  λ y more o d1 d2. subst (λ z. Runs n l (opening openings a inner r) z o) (sym e)
      (subst (λ w. Runs w l (opening openings a inner r) (a ∷ rest) o) (sym i)
      (run.runs_opening takes_opening (subst (λ w. Runs m w inner rest (Good y more)) j d1) (subst (λ w. Runs w l (r y) more o) i d2))),
)

pub step_lambda : (a : Token) (text rest : List Token) (n l m k : ℕ) → text ≡ a ∷ rest → l ≡ suc k → m ≡ n → Enters lambdas a text rest n l m k
step_lambda a text rest n l m k e i j inner r = (
  λ o s d. subst (λ z. Runs n l (opening lambdas a inner r) z o) (sym e)
      (subst (λ w. Runs n w (opening lambdas a inner r) (a ∷ rest) o) (sym i)
      (run.runs_opening_stop takes_lambda (subst (λ w. Runs w k inner rest o) j d) s)),
  λ y more o d1 d2. subst (λ z. Runs n l (opening lambdas a inner r) z o) (sym e)
      (subst (λ w. Runs n w (opening lambdas a inner r) (a ∷ rest) o) (sym i)
      (run.runs_opening takes_lambda (subst (λ w. Runs w k inner rest (Good y more)) j d1) (subst (λ w. Runs n w (r y) more o) i d2))),
)

pub no_opening_left : (a : Token) (text rest : List Token) (n l : ℕ) → text ≡ a ∷ rest → n ≡ 0 → (i : Rest) (r : Tree → Rest) → Runs n l (opening openings a i r) text (Deep text)
no_opening_left a text rest n l e z i r = subst (λ t. Runs n l (opening openings a i r) t (Deep t)) (sym e)
    (subst (λ w. Runs w l (opening openings a i r) (a ∷ rest) (Deep (a ∷ rest))) (sym z) (run.runs_too_deep run.no_opening))

pub no_lambda_left : (a : Token) (text rest : List Token) (n l : ℕ) → text ≡ a ∷ rest → l ≡ 0 → (i : Rest) (r : Tree → Rest) → Runs n l (opening lambdas a i r) text (Deep text)
no_lambda_left a text rest n l e z i r = subst (λ t. Runs n l (opening lambdas a i r) t (Deep t)) (sym e)
    (subst (λ w. Runs n w (opening lambdas a i r) (a ∷ rest) (Deep (a ∷ rest))) (sym z) (run.runs_too_deep run.no_lambda))

-- ---- errors

pub map_stops : {R S : Outcome → Type 0} (e : Unread) → ((o : Outcome) → IsUnread o → R o → S o) → IsOutcome R e → IsOutcome S e
map_stops (e.Wrong rest) f d = f _ run.wrong_unread d
map_stops (e.Deep rest) f d = f _ run.deep_unread d
map_stops e.NoMemory f d = tt

-- ---- a phrase of its own, and within a line

pub join : {n l : ℕ} {p : Phrase} {text rest : List Token} {x : Tree} → Runs n l (last p) text (Good x rest) → ReadsPhrase n l p text x rest
join (run.runs_phrase e d1 run.runs_done) r o d2 = run.runs_phrase e d1 d2
join (run.runs_phrase_stop e d s) r o d2 = elim s [ ]

pub join_stop : {n l : ℕ} {p : Phrase} {text : List Token} (r : Tree → Rest) (o : Outcome) → IsUnread o → Runs n l (last p) text o → Runs n l (phrase p r) text o
join_stop r o s (run.runs_phrase e d1 run.runs_done) = elim s [ ]
join_stop r o s (run.runs_phrase_stop e d t) = run.runs_phrase_stop e d t
join_stop r o s (run.runs_no_phrase e) = run.runs_no_phrase e

pub line : {n l : ℕ} (p : Phrase) (r : Rest) {text : List Token} (o : Outcome) → pick p text ≡ Some r → Runs n l r text o → Runs n l (last p) text o
line p r (Good y rest) e d = run.runs_phrase e d run.runs_done
line p r (Wrong rest) e d = run.runs_phrase_stop e d run.wrong_unread
line p r (Deep rest) e d = run.runs_phrase_stop e d run.deep_unread

-- an opening that ends its line
pub enclose : {b : Bound} {a : Token} {text rest : List Token} {n l m k : ℕ} → Enters b a text rest n l m k → (i : Rest) (o : Outcome) → Runs m k i rest o → Runs n l (opening b a i done) text o
enclose enters i (Good y more) d = (enters i done).1 y more (Good y more) d run.runs_done
enclose enters i (Wrong more) d = (enters i done).0 (Wrong more) run.wrong_unread d
enclose enters i (Deep more) d = (enters i done).0 (Deep more) run.deep_unread d

-- what comes of a part is what comes of the whole
pub comes : (n l m k : ℕ) (r s : Rest) (text rest : List Token) (result : Result (Node × Bor (List Token)) Unread) → ((o : Outcome) → Runs n l r rest o → Runs m k s text o) → Comes n l r rest result → Comes m k s text result
comes n l m k r s text rest (Ok u) f d = f _ d
comes n l m k r s text rest (Err x) f d = map_stops x (λ o t d. f o d) d

-- ---- chains

next_level : (v : Level) (x : Tree) (text : List Token) → pick (more v x) text ≡ next (more v x) (head text)
next_level v.Implies x text = refl
next_level v.Or x text = refl
next_level v.Xor x text = refl
next_level v.And x text = refl
next_level v.Sum x text = refl
next_level v.Term x text = refl

pub goes_on : (v : Level) (op : Binary) (a : Token) (text rest : List Token) → text ≡ a ∷ rest →
    ((x : Tree) → next (more v x) (Some a) ≡ Some (chain a (operand v) (λ y. more v (t.Binary op x y)))) → GoesOn v op text rest
goes_on v op a text rest e h n l x o d =
    subst (λ z. Runs n l (last (more v x)) z o) (sym e) (line (more v x) _ o (next_level v x (a ∷ rest) ∙ h x) (run.runs_sign d))

pub ends : (v : Level) (a : Token) (text rest : List Token) → text ≡ a ∷ rest → ((x : Tree) → next (more v x) (Some a) ≡ Some (done x)) → Ends v text
ends v a text rest e h n l x = subst (λ z. Runs n l (last (more v x)) z (Good x z)) (sym e) (line (more v x) (done x) _ (next_level v x (a ∷ rest) ∙ h x) run.runs_done)

-- a token that is no sign, or none, is no operator
no_operator : (v : Level) (x : Tree) (h : Option Token) → ((s : SignName) → h ≡ Some (Sign s) → ⊥) → next (more v x) h ≡ Some (done x)
no_operator v x (Some (Sign s)) ne = absurd (ne s refl)
no_operator v.Implies x _ ne = refl
no_operator v.Or x _ ne = refl
no_operator v.Xor x _ ne = refl
no_operator v.And x _ ne = refl
no_operator v.Sum x _ ne = refl
no_operator v.Term x _ ne = refl

pub ends_there : (v : Level) (text : List Token) → ((s : SignName) → head text ≡ Some (Sign s) → ⊥) → Ends v text
ends_there v text ne n l x = line (more v x) (done x) _ (next_level v x text ∙ no_operator v x (head text) ne) run.runs_done

pub compares : (op : Binary) (a : Token) (text rest : List Token) → text ≡ a ∷ rest → ((x : Tree) → cmp_next x (Some a) ≡ compare a op x) → Compares op text rest
compares op a text rest e h n l x o d = subst (λ z. Runs n l (last (CmpMore x)) z o) (sym e) (line (CmpMore x) _ o (ap Some (h x)) (run.runs_sign d))

pub no_comparison : (a : Token) (text rest : List Token) → text ≡ a ∷ rest → ((x : Tree) → cmp_next x (Some a) ≡ done x) → NoComparison text
no_comparison a text rest e h n l x = subst (λ z. Runs n l (last (CmpMore x)) z (Good x z)) (sym e) (line (CmpMore x) (done x) _ (ap Some (h x)) run.runs_done)

cmp_none : (x : Tree) (h : Option Token) → ((s : SignName) → h ≡ Some (Sign s) → ⊥) → cmp_next x h ≡ done x
cmp_none x (Some (Sign s)) ne = absurd (ne s refl)
cmp_none x _ ne = refl

pub no_comparison_there : (text : List Token) → ((s : SignName) → head text ≡ Some (Sign s) → ⊥) → NoComparison text
no_comparison_there text ne n l x = line (CmpMore x) (done x) _ (ap Some (cmp_none x (head text) ne)) run.runs_done

pub links_dot : (text rest : List Token) → text ≡ Sign s.Dot ∷ rest → Links d.Dot text rest
links_dot text rest e n l x o d = subst (λ z. Runs n l (last (PostMore x)) z o) (sym e) (line (PostMore x) _ o refl (run.runs_sign d))

pub links_arrow : (text rest : List Token) → text ≡ Sign s.Arrow ∷ rest → Links d.Arrow text rest
links_arrow text rest e n l x o d = subst (λ z. Runs n l (last (PostMore x)) z o) (sym e) (line (PostMore x) _ o refl (run.runs_sign d))

post_none : (x : Tree) (h : Option Token) → (h ≡ Some (Sign s.Dot) → ⊥) → (h ≡ Some (Sign s.Arrow) → ⊥) → post_next x h ≡ done x
post_none x (Some (Sign s.Dot)) nd na = absurd (nd refl)
post_none x (Some (Sign s.Arrow)) nd na = absurd (na refl)
post_none x _ nd na = refl

pub no_link : (text : List Token) → (head text ≡ Some (Sign s.Dot) → ⊥) → (head text ≡ Some (Sign s.Arrow) → ⊥) → NoLink text
no_link text nd na n l x = line (PostMore x) (done x) _ (ap Some (post_none x (head text) nd na)) run.runs_done

pub link_or : (text : List Token) (result : Option (CallKind × Bor (List Token))) → (head text ≡ Some (Sign s.Dot) → ⊥) →
    MatchOption result (head text ≡ Some (Sign s.Arrow) → ⊥) (λ u. Links u.0 text u.1.now) → MatchOption result (NoLink text) (λ u. Links u.0 text u.1.now)
link_or text None nd na = no_link text nd na
link_or text (Some u) nd d = d
