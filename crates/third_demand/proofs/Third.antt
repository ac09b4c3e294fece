-- The third demand holds, and a unit writes no byte but a row's: a grid's job shows the laws of a kind of job.
-- Assumes nothing.
use mathlib.Core.Path.{refl, sym, ◌∙◌, ap, subst}
use mathlib.Core.List.{List}
use Prim.Native.Nat.{ℕ}
use native.Mathlib.Nat.{mul_comm}
use lib.Pow.{pow_pos}
use Rattle.rule.specs.declared.Rule.{Rule}
use Rattle.job_kind.specs.Kinds.{halves_of, kind_digits, course_of}
use Rattle.job.specs.Jobs.{start, job_result_says}
use Rattle.job_kind.specs.declared.Kind.{Kind}
use Rattle.job.specs.declared.Job.{Job}
use Rattle.job_kind.proofs.Shapes.{shape_rounds, shape_orderly, shorter}
use Rattle.job.proofs.Fits.{Frame, fits_frame, start_fits, opening_shows}
use Rattle.service.specs.Demand.{Demand}
use Rattle.service.specs.JobKinds.{aim_of, KindLaws}
use Rattle.service.proofs.Calls.{work_passed}
use Rattle.service.proofs.JobKinds.{kind_meets_demand}
use Rattle.service.proofs.RowUnits.{unit_on_board}
use Rattle.third_demand.specs.Grid.{TargetCells}
use Rattle.third_demand.specs.Units.{lent_check, unit_of, grid}
use Rattle.third_demand.specs.Demand.{grid_kind, ThirdDemand}
use Rattle.third_demand.specs.Theorems.{all_rows, RowsToBoard}
use Rattle.third_demand.proofs.Endings.{kind_laws}
use Rattle.third_demand.proofs.Optimum.{rows_stand, board_of, grid_boards, grid_into, is_total, optimal}
use Rattle.third_demand.proofs.CheckLaws.{checks_sound, target_cells, lent_target, lent_passed}
use Rattle.third_demand.proofs.Machine.{numbered, unit_same}
use Rattle.third_demand.proofs.Progress.{progress}

module _ (kind : Kind) {rule : Rule} {w h : ℕ} (z : Frame kind rule w h) (g : List ℕ) (T : TargetCells kind w h g) where
  pub kind_shows : KindLaws (List ℕ) lent_check unit_of g (grid_kind kind rule w h g)
  kind_shows = record {
    laws = kind_laws kind rule w h g z.size;
    high = z.size.some_row;
    wide = pow_pos (kind_digits kind w);
    orderly = shape_orderly w h kind;
    course = course_of kind w h;
    scheduled = (shape_rounds w h kind).scheduled;
    length_board = (shape_rounds w h kind).board;
    length_none = (shape_rounds w h kind).none;
    shorter = shorter kind w h z.size.some_row;
    numbered = numbered kind z g;
    units = unit_same kind z g;
    checks = checks_sound;
    room = λ j t β O p. let L = lent_passed j g t β p in (rw (O.wide, O.tall) at L.0, rw (O.kept, O.wide, O.tall) at L.1);
    zero_start = refl;
    all_rows_lem = mul_comm h w;
    writer = rows_stand (halves_of kind) w;
    board_of = board_of (halves_of kind) w h;
    into = grid_into kind z.allowed z.size g T;
    best = λ x rows E. (optimal kind z.allowed z.size g T E, is_total kind z.allowed z.size g T E);
    none = λ n b S. n (all_rows (halves_of kind) w h b) ((grid_boards kind z.allowed z.size g T).ends b S);
    progress = λ wanted before now O f o F E C. progress kind z g wanted before now O f o F E C;
  }

-- ---- the theorem
pub third_demand : ThirdDemand
unfolding ThirdDemand
third_demand kind rule w h g t β r j O e =
    let q = opening_shows kind rule w h g (sym O.says ∙ ap job_result_says e) in
    let z = q.0 in
    subst (λ (x : Job). Demand grid (aim_of (grid_kind kind rule w h g)) g (record { job = x; table = t; board = β })) (sym (O.job j e))
    (kind_meets_demand (List ℕ) lent_check unit_of g (grid_kind kind rule w h g) (kind_shows kind z g (target_cells kind rule w h g q.1)) (record { job = start kind rule w h; table = t; board = β }) (record {
      of = record { kept = refl; ruled = refl; wide = refl; tall = refl };
      fits = start_fits kind z;
      units = refl;
      mark = refl;
      above = refl;
      last = refl;
      live = refl;
    }))

-- ---- a unit and the board
pub rows_to_board : RowsToBoard
rows_to_board g s s' p e =
    let j = s.job in
    let q = work_passed grid j g s.table s.board p in
    unit_on_board (List ℕ) lent_check unit_of g (grid_kind j.kind j.rule j.width j.height g) (kind_shows j.kind (fits_frame j q.0) g (lent_target j g s.table s.board q.1)) s s'
    (record { kept = refl; ruled = refl; wide = refl; tall = refl }) q.0 q.1 e
