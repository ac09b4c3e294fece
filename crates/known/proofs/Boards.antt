-- They hold, by computing but for what `Predecessors` proves.
-- Assumes nothing.
use mathlib.Core.Path.{refl}
use mathlib.Core.List.{flat_map}
use Rattle.board.specs.Search.{first_not, all_below}
use Rattle.board.specs.Sums.{total}
use Rattle.board.specs.Lists.{listed}
use Rattle.board.specs.Checks.{size_check, cells_check, marks_check, table_size}
use Rattle.elimination.specs.Candidates.{scan}
use Rattle.elimination.specs.Kind.{choose, entry}
use Rattle.elimination.specs.Table.{reads, fill_entry}
use Rattle.elimination.specs.FillThenChoose.{plan}
use Rattle.elimination.specs.TwoLayers.{plan_from}
use Rattle.rule.specs.Rule.{rule_check, grid_check, next_under, conway}
use Rattle.life.specs.Plane.{on_plane, around}
use Rattle.life.specs.Rows.{row_number, cell_of, becomes, steps_to}
use Rattle.life.specs.Calls.{next_at, keeps_at, life_check, judged, judge_rule}
use Rattle.plaintext.specs.Lines.{lines_of}
use Rattle.plaintext.specs.Reading as Reading
use Rattle.score_table.specs.Rows.{mark_kept, row_kept, cell_worth, row_worth, target_number, whole_row}
use Rattle.board_rows.specs.Rows.{written}
use Rattle.board_rows.specs.Calls.{row_writes}
use Rattle.elimination.specs.Shape.{units_fit, rows_chosen, rows_fit, numbers_fit, chosen_from}
use Rattle.edges.specs.Edges.{given_live_at, edge_three, edge_check}
use Rattle.mirror.specs.Mirror.{lopsided_check}
use Rattle.job.specs.Jobs.{checkpoint_fits, job_fits, stage_of, open_rule, resume_rule}
use Rattle.job_kind.specs.Kinds.{read_check}
use Rattle.service.specs.Units.{unit_by}
use Rattle.service.specs.Service.{work_check, works_on, work_of}
use Rattle.third_demand.specs.Units.{lent_check, unit_of}
use Rattle.known.specs.Known.{worked_in, chosen_by, Known}
use Rattle.known.proofs.Predecessors.{dead_target, live_target}

pub known : Known
unfolding flat_map first_not all_below total size_check cells_check marks_check scan choose entry rule_check grid_check next_under conway on_plane around cell_of becomes steps_to next_at keeps_at life_check judged judge_rule lines_of Reading.judge Reading.judge_lines Reading.judged Reading.first_bad Reading.rows_of Reading.width_of Reading.filled Reading.cells_of Reading.board_over Reading.size_rule Reading.read_rule mark_kept row_kept cell_worth row_worth target_number whole_row listed row_number lopsided_check written row_writes table_size units_fit rows_chosen rows_fit numbers_fit chosen_from checkpoint_fits job_fits stage_of given_live_at edge_three edge_check read_check open_rule resume_rule work_check lent_check reads fill_entry plan plan_from unit_by unit_of works_on work_of worked_in chosen_by
known = record {
  m1 = refl;
  m2 = refl;
  m3 = refl;
  m4 = refl;
  m5 = refl;
  m5_opens = refl;
  m6 = refl;
  m7 = refl;
  m8 = refl;
  m9 = (refl, refl, refl);
  m10 = refl;
  one_given = refl;
  all_given = refl;
  edge_row = refl;
  edge_births_on_2 = refl;
  edge_column = refl;
  round_a_corner = refl;
  edge_worked = refl;
  free3 = refl;
  two_m1 = refl;
  two_m2 = refl;
  two_m4 = refl;
  two_m6 = refl;
  one_layer = refl;
  tenth = (refl, refl);
  its_kind = refl;
  of_no_kind = refl;
  ordinary_as_two = refl;
  filling_again = refl;
  one_row_above = refl;
  another_kind = refl;
  mirror_2 = refl;
  mirror_4 = refl;
  mirror_high = refl;
  mirror_none = refl;
  mirror_20 = refl;
  mirror_3 = refl;
  mirror_22 = refl;
  lopsided = refl;
  lopsided_worked = refl;
  ordinary_lopsided = refl;
  mirror_row = refl;
  mirror_whole_row = refl;
  mirror_three_live = refl;
  mirror_odd = refl;
  dead_target = dead_target;
  live_target = live_target;
  target_dead = refl;
  target_one = refl;
  target_block = refl;
  target_blinker = refl;
  target_uneven = refl;
  target_row_lem = refl;
  target_ring = refl;
  target_length = refl;
  target_mark = refl;
  target_worked = refl;
  target_short = refl;
  target_edge = refl;
  target_given_live = refl;
  target_lopsided = refl;
  target_20 = refl;
  target_tenth = refl;
  target_as_ordinary = refl;
  ordinary_as_target = refl;
  target_two_live = refl;
  target_three_live = refl;
  spoiled = refl;
  above_600 = refl;
  up_to_600 = refl;
  above_1200 = refl;
  up_to_1200 = refl;
  target_above_600 = refl;
  target_up_to_600 = refl;
  row_of_6 = refl;
  row_past = refl;
  reflected = refl;
  bytes = (refl, refl, refl, refl, refl);
  short_row = record { answers = refl; leaves = refl };
  a_comment = record { answers = refl; leaves = refl };
  cr_lf = record { answers = refl; leaves = refl };
  two_crs = refl;
  cr_in_a_row = refl;
  cr_at_the_end = refl;
  hash = refl;
}
