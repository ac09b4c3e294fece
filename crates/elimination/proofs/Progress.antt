-- What m units leave in the table, in the board and in the job's numbers.
-- Assumes nothing.
use mathlib.Core.Path.{◌≡◌, refl, sym, ◌∙◌, ap, ap₂}
use mathlib.Core.Bool.{Bool, true, false, cond, true≢false}
use mathlib.Core.List.{List}
use Prim.Native.Nat.{ℕ, zero, suc, ◌+◌, ◌*◌, ◌-◌, ◌≤◌, ◌<◌}
use native.Mathlib.Nat.{add-zero, zero-add, mul-le-mul_right, le_trans}
use native.Mathlib.Omega.{arith}
use lib.Dec.{ltb}
use lib.ListN.{length, get_or}
use Rattle.elimination.specs.Candidates.{Choice, nothing, chosen}
use Rattle.elimination.specs.Kind.{choose}
use Rattle.elimination.specs.Table.{reads}
use Rattle.elimination.specs.Task.{Task, fill, row, fill_task, after_tasks}
use Rattle.elimination.specs.Machine.{advance, Lasts}
use Rattle.elimination.specs.Job.{Mark, running, finished, infeasible, end_mark, State, Setup, opened, take_row, act, act_if, unit, machine}
use Rattle.elimination.specs.Shape.{Shape, rows_chosen, ShapeLaws}
use Rattle.elimination.specs.Rows.{OnlyRows, RowWriter}
use Rattle.elimination.specs.Progress.{Written, row_at, worth_so_far, Carried, rows_held, ProgressMade}
use Rattle.elimination.proofs.Candidates.{RowBelow}
use Rattle.elimination.proofs.Kind.{choose_below}
use Rattle.elimination.proofs.Machine.{advance_zero, advance_suc}
use Rattle.elimination.proofs.Places.{table_filled}
use Rattle.elimination.proofs.Shape.{chosen_few}

-- ---- rows carried
module _ {X : Type 0} (J : Setup X (List ℕ)) (read : ℕ → List ℕ → ℕ) where
  pub worth_none : (board : List ℕ) → worth_so_far J read board 0 ≡ J.kind.start
  unfolding worth_so_far
  worth_none board = refl

  pub worth_more : (board : List ℕ) (r : ℕ) → worth_so_far J read board (suc r) ≡ J.kind.add (J.height - suc r) (read r board) (worth_so_far J read board r)
  unfolding worth_so_far
  worth_more board r = refl

  -- before the first row, whatever the board
  pub carried_none : (board : List ℕ) → Carried J read 0 board 0 0 J.kind.start
  carried_none board = record { few = omega arith; above = refl; last = refl; so_far = sym (worth_none board) }

module _ {X : Type 0} (J : Setup X (List ℕ)) {w : ℕ} {read : ℕ → List ℕ → ℕ} (W : RowWriter w J.kind.codes J.write read) where
  -- boards whose first k rows are equal
  module _ (board other : List ℕ) where
    abbrev Alike : ℕ → Type 0
    Alike k = (p : ℕ) → p < k * w → get_or board p 0 ≡ get_or other p 0

    row_alike : (k : ℕ) → Alike k → (i : ℕ) → i ≤ k → row_at read board i ≡ row_at read other i
    row_alike k e zero l = refl
    row_alike k e (suc i) l = W.alike i board other (λ p a b. e p (omega (arith, mul-le-mul_right w l)))

    worth_alike : (k : ℕ) → Alike k → worth_so_far J read board k ≡ worth_so_far J read other k
    worth_alike zero e = worth_none J read board ∙ sym (worth_none J read other)
    worth_alike (suc k) e =
        worth_more J read board k
        ∙ ap₂ (λ (c : ℕ) (x : X). J.kind.add (J.height - suc k) c x) (row_alike (suc k) e (suc k) (omega arith)) (worth_alike k (λ p l. e p (omega arith)))
        ∙ sym (worth_more J read other k)

    carried_alike : {k a b : ℕ} {x : X} → Alike k → Carried J read k board a b x → Carried J read k other a b x
    carried_alike {k} e C = record {
      few = C.few;
      above = C.above ∙ row_alike k e (k - 1) (omega arith);
      last = C.last ∙ row_alike k e k (omega arith);
      so_far = C.so_far ∙ worth_alike k e;
    }

  -- one row more
  carried_more : (r c : ℕ) {a b : ℕ} {x : X} (board : List ℕ) → r < J.height → c < J.kind.codes → suc r * w ≤ length board → Carried J read r board a b x
      → Carried J read (suc r) (J.write r c board) b c (J.kind.add (J.height - suc r) c x)
  carried_more r c board l lc room C =
      let D = carried_alike board (J.write r c board) (λ p q. sym ((W.only r c board).above p q)) C in
      let e : suc r - 1 ≡ r = omega arith in
      let f = W.back r c board lc room in record {
        few = l;
        above = D.last ∙ ap (row_at read (J.write r c board)) (sym e);
        last = sym f;
        so_far = rw (worth_more J read (J.write r c board) r, f, ← D.so_far) refl;
      }

module _ {X : Type 0} (J : Setup X (List ℕ)) (S : Shape) (w : ℕ) (read : ℕ → List ℕ → ℕ) (long : ℕ) (same : S.plan ≡ J.plan) (tall : S.rows ≡ J.height) (L : ShapeLaws S)
    (high : 0 < J.height) (W : RowWriter w J.kind.codes J.write read) (within : long ≤ S.board_length) (t : List X) (β : List ℕ)
    (room : J.height * w ≤ length β) (lasts : Lasts (machine J) (opened J.kind t β) long) where
  abbrev after : ℕ → State X (List ℕ)
  after m = advance (machine J) m (opened J.kind t β)

  abbrev held : ℕ → ℕ
  held m = rows_held S (after m)

  abbrev Carries : ℕ → State X (List ℕ) → Type 0
  Carries k s = Carried J read k s.board s.above s.last s.so_far

  -- ---- one unit
  running_at_lem : (m : ℕ) → m < long → (after m).mark ≡ running
  running_at_lem m l = go (after m).mark (lasts.running m l)
    where
      go : (x : Mark) → end_mark x ≡ false → x ≡ running
      go running e = refl
      go finished e = absurd (true≢false e)
      go infeasible e = absurd (true≢false e)

  next_is : (m : ℕ) → m < long → after (suc m) ≡ act J (J.plan m) (after m)
  unfolding unit
  next_is m l =
      advance_suc (machine J) m (opened J.kind t β)
      ∙ ap (λ (x : Mark). act_if J x (J.plan (after m).units) (after m)) (running_at_lem m l)
      ∙ ap (λ (u : ℕ). act J (J.plan u) (after m)) (lasts.counted m (omega arith))

  -- the rows held by the mark
  held_running : (m : ℕ) → m ≤ long → (after m).mark ≡ running → held m ≡ S.chosen m
  unfolding rows_chosen
  held_running m l e = rw (e, lasts.counted m l)

  held_more : (m : ℕ) → m ≤ long → (b : Bool) → (after m).mark ≡ cond b running finished → held m ≡ S.chosen m
  unfolding rows_chosen
  held_more m l true e = rw (e, lasts.counted m l)
  held_more m l false e = rw (e, lasts.counted m l)

  held_none : (m : ℕ) → (after m).mark ≡ infeasible → held m ≡ 0
  unfolding rows_chosen
  held_none m e = rw e

  -- unit m of the job
  record UnitDone (m : ℕ) : Type 0 where
    only : OnlyRows w (held m) (held (suc m)) (after m).board (after (suc m)).board
    grows : held m ≤ held (suc m)
    table : (after (suc m)).table ≡ fill_task J.kind (J.plan m) (after m).table
    carries : length (after m).board ≡ length β → Carries (held m) (after m) → Carries (held (suc m)) (after (suc m))

  module _ (m : ℕ) (l : m < long) where
    held_here : held m ≡ S.chosen m
    held_here = held_running m (omega arith) (running_at_lem m l)

    fill_done : (k source target j : ℕ) → J.plan m ≡ fill k source target j → UnitDone m
    fill_done k source target j e =
        let p : S.plan m ≡ fill k source target j = ap (λ (f : ℕ → Task). f m) same ∙ e in
        let n : after (suc m) ≡ act J (fill k source target j) (after m) = next_is m l ∙ ap (λ (o : Task). act J o (after m)) e in
        let h : held (suc m) ≡ held m =
        held_running (suc m) l (ap (λ (s : State X (List ℕ)). s.mark) n ∙ running_at_lem m l) ∙ (L.fills m k source target j (omega arith) p).0 ∙ sym held_here in
        record {
          only = rw (h, n) (record { size = refl; above = λ q b. refl; below = λ q b. refl });
          grows = omega (arith, h);
          table = rw (n, e);
          carries = λ z C. rw (h, n) C;
        }

    row_done : (r source : ℕ) → J.plan m ≡ row r source → (o : Choice X) → RowBelow J.kind.codes o → after (suc m) ≡ take_row J r (after m) o → UnitDone m
    row_done r source e (chosen c v) lc n =
        let p : S.plan m ≡ row r source = ap (λ (f : ℕ → Task). f m) same ∙ e in
        let q = L.chooses m r source (omega arith) p in
        let h : held m ≡ r = held_here ∙ q.0 in
        let h' : held (suc m) ≡ suc r = held_more (suc m) l (ltb (suc r) J.height) (ap (λ (s : State X (List ℕ)). s.mark) n) ∙ q.1 in
        let lr : r < J.height = omega (arith, chosen_few S L (omega arith) m (omega arith), q.0) in
        record {
          only = rw (h, h', n) (W.only r c (after m).board);
          grows = omega (arith, h, h');
          table = rw (n, e);
          carries = λ z C. rw (h', n) (carried_more J W r c (after m).board lr lc (omega (arith, mul-le-mul_right w lr)) (rw h at C));
        }
    row_done zero source e nothing lc n =
        let p : S.plan m ≡ row 0 source = ap (λ (f : ℕ → Task). f m) same ∙ e in
        let h : held m ≡ 0 = held_here ∙ (L.chooses m 0 source (omega arith) p).0 in
        let h' : held (suc m) ≡ 0 = held_none (suc m) (ap (λ (s : State X (List ℕ)). s.mark) n) in
        record {
          only = rw (h, h', n) (record { size = refl; above = λ q b. refl; below = λ q b. refl });
          grows = omega (arith, h, h');
          table = rw (n, e);
          carries = λ z C. rw (h', n) (rw h at C);
        }
    row_done (suc r) source e nothing lc n =
        absurd (omega (arith, lasts.counted m (omega arith), lasts.counted (suc m) l, ap (λ (s : State X (List ℕ)). s.units) n))

    unit_done : UnitDone m
    unit_done = go (J.plan m) refl
      where
        go : (o : Task) → J.plan m ≡ o → UnitDone m
        go (fill k source target j) e = fill_done k source target j e
        go (row r source) e =
            let s = after m in
            let numbers = reads J.kind s.table source s.last in
            row_done r source e (choose J.kind (J.height - suc r) s.above s.last numbers) (choose_below J.kind (J.height - suc r) s.above s.last numbers)
            (next_is m l ∙ ap (λ (o : Task). act J o (after m)) e)

  -- ---- m units
  table_is : (m : ℕ) → m ≤ long → (after m).table ≡ after_tasks J.kind J.plan 0 m t
  unfolding after_tasks
  table_is zero l = rw (advance_zero (machine J) (opened J.kind t β))
  table_is (suc m) l = (unit_done m l).table ∙ rw (zero-add m) (ap (fill_task J.kind (J.plan m)) (table_is m (omega arith)))

  board_size : (m : ℕ) → m ≤ long → length (after m).board ≡ length β
  board_size zero l = rw (advance_zero (machine J) (opened J.kind t β))
  board_size (suc m) l = (unit_done m l).only.size ∙ board_size m (omega arith)

  board_rest : (m : ℕ) → m ≤ long → (p : ℕ) → held m * w ≤ p → get_or (after m).board p 0 ≡ get_or β p 0
  board_rest zero l p q = rw (advance_zero (machine J) (opened J.kind t β))
  board_rest (suc m) l p q =
      let U = unit_done m l in
      U.only.below p q ∙ board_rest m (omega arith) p (le_trans (mul-le-mul_right w U.grows) q)

  -- the rows chosen by m stay
  board_stays : (d m : ℕ) → m + d ≤ long → (p : ℕ) → p < held m * w → (get_or (after (m + d)).board p 0 ≡ get_or (after m).board p 0) × (p < held (m + d) * w)
  board_stays zero m l p q = rw (add-zero m) (refl, q)
  board_stays (suc d) m l p q =
      let e : m + suc d ≡ suc (m + d) = omega arith in
      let U = unit_done (m + d) (omega arith) in
      let i = board_stays d m (omega arith) p q in
      rw e (U.only.above p i.1 ∙ i.0, le_trans i.1 (mul-le-mul_right w U.grows))

  board_is : (m : ℕ) → m ≤ long → Written w (held m) (after long).board β (after m).board
  board_is m l = record {
    size = board_size m l;
    rows = λ p q. let e : m + (long - m) ≡ long = omega arith in sym (rw e at (board_stays (long - m) m (omega arith) p q).0);
    rest = board_rest m l;
  }

  -- the job carries the rows of its board
  carries_own : (m : ℕ) → m ≤ long → Carries (held m) (after m)
  unfolding rows_chosen
  carries_own zero l = rw (advance_zero (machine J) (opened J.kind t β), L.none_chosen) (carried_none J read β)
  carries_own (suc m) l = (unit_done m l).carries (board_size m (omega arith)) (carries_own m (omega arith))

  carried_is : (m : ℕ) → m ≤ long → Carried J read (held m) (after long).board (after m).above (after m).last (after m).so_far
  carried_is m l = carried_alike J W (after m).board (after long).board (board_is m l).rows (carries_own m l)

pub progress_made : {X : Type 0} (J : Setup X (List ℕ)) (S : Shape) (w : ℕ) (read : ℕ → List ℕ → ℕ) → ProgressMade J S w read
progress_made J S w read space long same tall L O wide high W within t β r room lasts m l = record {
  table = rw (table_is J S w read long same tall L high W within t β room lasts m l)
      (table_filled J.kind J.height space S.board_length J.plan O wide t r m (omega arith));
  board = board_is J S w read long same tall L high W within t β room lasts m l;
  carried = carried_is J S w read long same tall L high W within t β room lasts m l;
}
