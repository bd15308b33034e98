-- What is read in a run: no cell twice, and enough to tell what the run gives.
use Rattle.std.proofs.Common.{◌≡◌, ℕ, Bool, true, false, ◌||◌, nat_eq, List, [], ◌∷◌, ◌++◌, Some, Result, refl, sym, ap, subst, ◌∙◌, if◌then◌else◌}
use Rattle.std.proofs.lemmas.Bool.{false≢true, eqb-true, and_parts, or_parts}
use Rattle.std.proofs.lemmas.List.Elements.{All-head, All-tail, All-pop}
use Rattle.std.specs.Prelude.{All}
use Rattle.std.specs.List.{list_any, AllByRecursion, IsDistinct}
use Rattle.wb_store.specs.declared.scalars.Cell.{Cell}
use Rattle.wb_store.specs.declared.scalars.Cell.TheVariants.{Kind, Slot, Holder, Tree, Inverse, Extent, Roots}
use Rattle.wb_store.specs.Contents.{Contents}
use Rattle.wb_aql_check.specs.declared.checked.Origin.{Origin}
use Rattle.wb_aql_values.specs.declared.faults.Fault.{Fault}
use Rattle.wb_aql_values.specs.Cells.{same_cell}
use Rattle.wb_aql_values.specs.Readings.{Content, Reading, done, fail, look, contents}
use Rattle.wb_aql_values.specs.Runs.{Ran, run, with_read}
use Rattle.wb_aql_eval.specs.declared.env.Env.{Env}
use Rattle.wb_aql_values.specs.declared.values.Value.{Value}
use Rattle.wb_aql_eval.specs.Outcomes.{sense, outcome_of}
use Rattle.wb_aql_eval.specs.ReadCells.{Alike}

-- ---- cells

cell_is : (c d : Cell) → same_cell c d ≡ true → c ≡ d
cell_is (Kind o) (Kind p) h = ap Kind (eqb-true o p h)
cell_is (Slot o f) (Slot p g) h = let e = and_parts (nat_eq o p) (nat_eq f g) h in ap (λ q. Slot q f) (eqb-true o p e.0) ∙ ap (Slot p) (eqb-true f g e.1)
cell_is (Holder o) (Holder p) h = ap Holder (eqb-true o p h)
cell_is (Tree o) (Tree p) h = ap Tree (eqb-true o p h)
cell_is (Inverse o) (Inverse p) h = ap Inverse (eqb-true o p h)
cell_is (Extent c) (Extent d) h = ap Extent (eqb-true c d h)
cell_is Roots Roots h = refl
cell_is c d h = absurd (false≢true h)

-- what is not the one is not the other either way
turned : (b : Bool) (c d : Cell) → same_cell d c ≡ b → same_cell c d ≡ false → b ≡ false
turned false c d e h = refl
turned true c d e h = let same = cell_is d c e in sym e ∙ ap (λ x. same_cell d x) (sym same) ∙ ap (λ x. same_cell x d) same ∙ h

-- ---- no cell twice

all_more : (P : Cell → Type 0) (cells : List Cell) (c : Cell) → AllByRecursion P cells → P c → AllByRecursion P (cells ++ c ∷ [])
all_more P [] c h p = (p, tt)
all_more P (d ∷ cells) c h p = (h.0, all_more P cells c h.1 p)

distinct_more : (cells : List Cell) (c : Cell) → IsDistinct same_cell cells → list_any (same_cell c) cells ≡ false → IsDistinct same_cell (cells ++ c ∷ [])
unfolding IsDistinct
distinct_more [] c h none = (tt, tt)
distinct_more (d ∷ cells) c h none =
    let q = or_parts _ _ none in
    (all_more (λ e. same_cell d e ≡ false) cells c h.0 (turned (same_cell d c) c d refl q.0), distinct_more cells c h.1 q.1)

distinct_with_read : (b : Bool) (cells : List Cell) (c : Cell) → list_any (same_cell c) cells ≡ b → IsDistinct same_cell cells → IsDistinct same_cell (if b then cells else cells ++ c ∷ [])
distinct_with_read true cells c e h = h
distinct_with_read false cells c e h = distinct_more cells c h e

-- a run keeps a list that has no cell twice
distinct_read : {A : Type 0} (r : Reading A) (m : (c : Cell) → Content c) (old : List Cell) → IsDistinct same_cell old → IsDistinct same_cell (run r m old).reads
unfolding run
distinct_read (done x) m old h = h
distinct_read (fail fault) m old h = h
distinct_read (look c onward) m old h = distinct_read (onward (m c)) m (with_read old c) (distinct_with_read (list_any (same_cell c) old) old c refl h)

pub outcomes_read_once : (checked : Origin × List (List ℕ)) (env : Env) (m : Contents) → IsDistinct same_cell (outcome_of checked env m).reads
unfolding outcome_of IsDistinct
outcomes_read_once checked env m = distinct_read (sense m.metamodel checked.0 env) (contents m) [] tt

-- the reads of an outcome that was found
pub found_reads_once : (checked : Origin × List (List ℕ)) (env : Env) (m : Contents) (gave : Result Value Fault) (reads : List Cell)
    → outcome_of checked env m ≡ record { gave = gave; reads = reads } → IsDistinct same_cell reads
found_reads_once checked env m gave reads e = subst (λ (r : Ran Value). IsDistinct same_cell r.reads) e (outcomes_read_once checked env m)

-- ---- what is true of all reads

among : {Q : Type 0} (a b : Bool) → (a || b) ≡ true → (a ≡ true → Q) → (b ≡ true → Q) → Q
among true b h here later = here refl
among false b h here later = later h

module _ (P : Cell → Type 0) where
  of_member : (cells : List Cell) (c : Cell) → list_any (same_cell c) cells ≡ true → All P cells → P c
  of_member [] c h all = absurd (false≢true h)
  of_member (d ∷ cells) c h all = among (same_cell c d) (list_any (same_cell c) cells) h (λ e. subst P (sym (cell_is c d e)) (All-head P d cells all)) (λ e. of_member cells c e (All-tail P d cells all))

  -- it was true of the reads before a look, and of the cell
  before : (b : Bool) (cells : List Cell) (c : Cell) → list_any (same_cell c) cells ≡ b → All P (if b then cells else cells ++ c ∷ []) → All P cells × P c
  before true cells c e all = (all, of_member cells c e all)
  before false cells c e all = All-pop P (cells ++ c ∷ []) cells (Some c) refl all

  before_run : {A : Type 0} (r : Reading A) (m : (c : Cell) → Content c) (old : List Cell) → All P (run r m old).reads → All P old
  unfolding run
  before_run (done x) m old all = all
  before_run (fail fault) m old all = all
  before_run (look c onward) m old all = (before (list_any (same_cell c) old) old c refl (before_run (onward (m c)) m (with_read old c) all)).0

-- ---- reads decide

-- where the cells that a run reads are the same, it gives the same
same_run : {A : Type 0} (r : Reading A) (m n : (c : Cell) → Content c) (old : List Cell) → All (λ c. m c ≡ n c) (run r m old).reads → run r n old ≡ run r m old
unfolding run
same_run (done x) m n old all = refl
same_run (fail fault) m n old all = refl
same_run (look c onward) m n old all =
    let now = with_read old c in
    let here = (before (λ d. m d ≡ n d) (list_any (same_cell c) old) old c refl (before_run (λ d. m d ≡ n d) (onward (m c)) m now all)).1 in
    ap (λ x. run (onward x) n now) (sym here) ∙ same_run (onward (m c)) m n now all

pub alike_outcomes : (checked : Origin × List (List ℕ)) (env : Env) (a b : Contents) → Alike a b (outcome_of checked env a).reads → outcome_of checked env b ≡ outcome_of checked env a
unfolding outcome_of
alike_outcomes checked env a b h =
    ap (λ mm. run (sense mm checked.0 env) (contents b) []) (sym h.metamodel)
    ∙ same_run (sense a.metamodel checked.0 env) (contents a) (contents b) [] h.same
