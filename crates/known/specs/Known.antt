-- Document 01, "Known boards": M1 to M10, the free 3 by 3 grid, grids with live givens, edge threes, jobs of two layers, mirror boards, predecessors of
-- targets, a spoiled table, rows written, and texts, stated of the rules themselves.
-- Assumes nothing.
use Rattle.std.specs.Prelude.{◌≡◌, List, [], ◌∷◌, ℕ, ◌*◌, ◌/◌, replicate, Ok}
use Rattle.board.specs.Answers.{Answer, gives, refuses}
use Rattle.rule.specs.Rule.{Allowed, conway_rule, conway}
use Rattle.rule.specs.declared.Rule.{Rule}
use Rattle.life.specs.Calls.{judge_rule, still, changes}
use Rattle.writer.specs.Letters.{LF, CR, bang, dot, big_o}
use Rattle.plaintext.specs.Reading.{read_rule, ReadsText}
use Rattle.board.specs.Checks.{table_size}
use Rattle.board_rows.specs.Calls.{row_writes}
use Rattle.job.specs.Jobs.{numbers_of, start, job_says, open_rule, resume_rule}
use Rattle.job_kind.specs.declared.Kind.{Kind}
use Rattle.job.specs.declared.Checkpoint.{Checkpoint}
use Rattle.job.specs.declared.Stage.{Stage}
use Rattle.service.specs.Service.{Result, finished, infeasible, work_of}
use Rattle.third_demand.specs.Grid.{Predecessor, Fewest}
use Rattle.third_demand.specs.Units.{grid}

-- what a working call comes to: its answer, the units done, and the board
pub record CallEnd : Type 0 where
  pub answer : Answer
  pub units : ℕ
  pub board : List ℕ

abbrev pub call_end : Result (List ℕ) → CallEnd
call_end r = record { answer = r.answer; units = r.state.job.units; board = r.state.board }

-- one working call with more allowance than the job has units, over a board of 9s and a table of so many 7s
unfoldable pub worked_in : ℕ → Kind → ℕ → ℕ → List ℕ → CallEnd
worked_in n kind w h givens = call_end (work_of grid (start kind conway_rule w h) givens (replicate n 7) (replicate (w * h) 9) 200)

-- of an ordinary job, of one of two layers, of a mirror job, and of one with a target
abbrev pub solved : ℕ → ℕ → List ℕ → CallEnd
solved w h givens = worked_in (table_size w h) Kind.Ordinary w h givens

abbrev pub solved_in_two : ℕ → ℕ → List ℕ → CallEnd
solved_in_two w h givens = worked_in (table_size w 2) Kind.TwoLayers w h givens

abbrev pub solved_mirror : ℕ → ℕ → List ℕ → CallEnd
solved_mirror w h givens = worked_in (table_size (w / 2) h) Kind.Mirror w h givens

abbrev pub solved_target : ℕ → ℕ → List ℕ → CallEnd
solved_target w h target = worked_in (table_size w h) Kind.Predecessor w h target

-- a row's number has one binary digit, height 2, free or with a dead target, the table filled and no row chosen yet: one such call, where layer 1 holds
-- 0 if row 1 is 0 and none if it is 1, and layer 2 holds n for rows 0, 0 and none for others
unfoldable pub chosen_by : Kind → ℕ → ℕ → CallEnd
chosen_by kind w n =
    call_end
    (work_of
    grid
    (record { kind = kind; rule = conway_rule; width = w; height = 2; units = 8; stage = Stage.Choosing 0 0 0 })
    (replicate (w * 2) 0)
    (0 ∷ 65535 ∷ 0 ∷ 65535 ∷ n ∷ 65535 ∷ 65535 ∷ 65535 ∷ [])
    (replicate (w * 2) 9)
    200)

-- numbers of a running Conway job of a grid two columns wide: height, units done, row above, last row, live cells, kind
abbrev pub numbered : ℕ → ℕ → ℕ → ℕ → ℕ → ℕ → Checkpoint
numbered h units above last live kind =
    record { width = 2; height = h; units = units; above = above; last = last; live = live; mark = 0; births = 8; survivals = 12; kind = kind }

-- Req 08: a dead target of any size gives the dead board, under every rule that isn't barred
abbrev pub DeadTarget : Type 0
DeadTarget = (rule : Rule) → Allowed rule → (w h : ℕ) → Fewest rule w h (replicate (w * h) 0) (replicate (w * h) 0)

-- a 1 by 1 live target under Conway's rule gives none
abbrev pub LiveTarget : Type 0
LiveTarget = (board : List ℕ) → Predecessor conway_rule 1 1 (1 ∷ []) board → ⊥

-- the list
pub record Known : Type 0 where
  -- 1 by 1 free: score 0, 5 units
  pub m1 : solved 1 1 (0 ∷ []) ≡ record { answer = finished 0; units = 5; board = 0 ∷ [] }
  -- 2 by 2 free: score 4, 34 units
  pub m2 : solved 2 2 (0 ∷ 0 ∷ 0 ∷ 0 ∷ []) ≡ record { answer = finished 4; units = 34; board = 1 ∷ 1 ∷ 1 ∷ 1 ∷ [] }
  -- 2 by 2, first cell given dead: score 0
  pub m3 : solved 2 2 (1 ∷ 0 ∷ 0 ∷ 0 ∷ []) ≡ record { answer = finished 0; units = 34; board = 0 ∷ 0 ∷ 0 ∷ 0 ∷ [] }
  -- 2 by 2, first live, second dead: none, 33 units
  pub m4 : solved 2 2 (2 ∷ 1 ∷ 0 ∷ 0 ∷ []) ≡ record { answer = infeasible; units = 33; board = 9 ∷ 9 ∷ 9 ∷ 9 ∷ [] }
  -- width 3, height 1, first live: none
  pub m5 : solved 3 1 (2 ∷ 0 ∷ 0 ∷ []) ≡ record { answer = infeasible; units = 65; board = 9 ∷ 9 ∷ 9 ∷ [] }
  pub m5_opens : open_rule Kind.Ordinary conway_rule 3 1 (2 ∷ 0 ∷ 0 ∷ []) ≡ gives (job_says (start Kind.Ordinary conway_rule 3 1))
  -- width 3, height 2 free: rows 6, 6 (Req 09), 130 units
  pub m6 : solved 3 2 (0 ∷ 0 ∷ 0 ∷ 0 ∷ 0 ∷ 0 ∷ []) ≡ record { answer = finished 4; units = 130; board = 1 ∷ 1 ∷ 0 ∷ 1 ∷ 1 ∷ 0 ∷ [] }
  -- the 3 by 3 board of rows 3, 5, 6 is still
  pub m7 : judge_rule conway_rule 3 3 (0 ∷ 1 ∷ 1 ∷ 1 ∷ 0 ∷ 1 ∷ 1 ∷ 1 ∷ 0 ∷ []) ≡ still
  -- width 3, height 1, row 7 isn't still; first change at row 0, column 2
  pub m8 : judge_rule conway_rule 3 1 (1 ∷ 1 ∷ 1 ∷ []) ≡ changes 0 2
  -- pattern 7 gives live, 16 and 511 dead
  pub m9 : (conway 7 ≡ 1) × (conway 16 ≡ 0) × (conway 511 ≡ 0)
  -- text O, LF, LF is 1 wide, 2 high
  pub m10 : read_rule (big_o ∷ LF ∷ LF ∷ []) 0 2 ≡ gives (1 ∷ 2 ∷ [])
  -- 2 by 2, first live: score 3; all four live: score 0. The block is the best board of both
  pub one_given : solved 2 2 (2 ∷ 0 ∷ 0 ∷ 0 ∷ []) ≡ record { answer = finished 3; units = 34; board = 1 ∷ 1 ∷ 1 ∷ 1 ∷ [] }
  pub all_given : solved 2 2 (2 ∷ 2 ∷ 2 ∷ 2 ∷ []) ≡ record { answer = finished 0; units = 34; board = 1 ∷ 1 ∷ 1 ∷ 1 ∷ [] }
  -- edge threes, with the middle cell's place. Width 3, height 1, all live: 14 at the second cell; the same under birth on 2 opens. 2 by 3, column 2
  -- live: 14 at the second row's cell; three live round a corner of 2 by 2 open. A working call turns them away too, and does no unit
  pub edge_row : open_rule Kind.Ordinary conway_rule 3 1 (2 ∷ 2 ∷ 2 ∷ []) ≡ refuses 14 (1 ∷ [])
  pub edge_births_on_2 : open_rule Kind.Ordinary (record { births = 4; survivals = 12 }) 3 1 (2 ∷ 2 ∷ 2 ∷ []) ≡ gives (job_says (start Kind.Ordinary (record { births = 4; survivals = 12 }) 3 1))
  pub edge_column : open_rule Kind.Ordinary conway_rule 2 3 (0 ∷ 2 ∷ 0 ∷ 2 ∷ 0 ∷ 2 ∷ []) ≡ refuses 14 (3 ∷ [])
  pub round_a_corner : open_rule Kind.Ordinary conway_rule 2 2 (2 ∷ 2 ∷ 2 ∷ 0 ∷ []) ≡ gives (job_says (start Kind.Ordinary conway_rule 2 2))
  pub edge_worked : solved 3 1 (2 ∷ 2 ∷ 2 ∷ []) ≡ record { answer = refuses 14 (1 ∷ []); units = 0; board = 9 ∷ 9 ∷ 9 ∷ [] }
  -- 3 by 3 free: rows 6, 5, 3 (Req 09)
  pub free3 : solved 3 3 (replicate 9 0) ≡ record { answer = finished 6; units = 195; board = 1 ∷ 1 ∷ 0 ∷ 1 ∷ 0 ∷ 1 ∷ 0 ∷ 1 ∷ 1 ∷ [] }
  -- Two layers. Boards and scores of M1, M2, M4 and M6: 1 × 4 + 1, 3 × 16 + 2, 2 × 16 + 1 and 3 × 64 + 2 units. One layer is too short a table for 1 by 1
  pub two_m1 : solved_in_two 1 1 (0 ∷ []) ≡ record { answer = finished 0; units = 5; board = 0 ∷ [] }
  pub two_m2 : solved_in_two 2 2 (0 ∷ 0 ∷ 0 ∷ 0 ∷ []) ≡ record { answer = finished 4; units = 50; board = 1 ∷ 1 ∷ 1 ∷ 1 ∷ [] }
  pub two_m4 : solved_in_two 2 2 (2 ∷ 1 ∷ 0 ∷ 0 ∷ []) ≡ record { answer = infeasible; units = 33; board = 9 ∷ 9 ∷ 9 ∷ 9 ∷ [] }
  pub two_m6 : solved_in_two 3 2 (0 ∷ 0 ∷ 0 ∷ 0 ∷ 0 ∷ 0 ∷ []) ≡ record { answer = finished 4; units = 194; board = 1 ∷ 1 ∷ 0 ∷ 1 ∷ 1 ∷ 0 ∷ [] }
  pub one_layer : worked_in 7 Kind.TwoLayers 1 1 (0 ∷ []) ≡ record { answer = refuses 6 []; units = 0; board = 9 ∷ [] }
  -- a paused job's tenth number is its kind, and it is resumed as that kind only
  pub tenth : (job_says (start Kind.Ordinary conway_rule 2 3) ≡ 2 ∷ 3 ∷ 0 ∷ 0 ∷ 0 ∷ 0 ∷ 0 ∷ 8 ∷ 12 ∷ 0 ∷ [])
      × (job_says (start Kind.TwoLayers conway_rule 2 3) ≡ 2 ∷ 3 ∷ 0 ∷ 0 ∷ 0 ∷ 0 ∷ 0 ∷ 8 ∷ 12 ∷ 1 ∷ [])
  pub its_kind : resume_rule Kind.TwoLayers (numbers_of (start Kind.TwoLayers conway_rule 2 3)) ≡ gives (job_says (start Kind.TwoLayers conway_rule 2 3))
  pub of_no_kind : resume_rule Kind.TwoLayers (numbered 2 2 0 0 0 4) ≡ refuses 7 []
  pub ordinary_as_two : resume_rule Kind.TwoLayers (numbers_of (start Kind.Ordinary conway_rule 2 3)) ≡ refuses 7 []
  -- 2 by 2 in two layers, 40 units done: one row is chosen, and layer 2 is filled again. Its numbers are taken with a last row, and not with a row above
  pub filling_again : resume_rule Kind.TwoLayers (numbered 2 40 0 3 2 1) ≡ gives (2 ∷ 2 ∷ 40 ∷ 0 ∷ 3 ∷ 2 ∷ 0 ∷ 8 ∷ 12 ∷ 1 ∷ [])
  pub one_row_above : resume_rule Kind.TwoLayers (numbered 2 40 3 3 2 1) ≡ refuses 7 []
  pub another_kind : resume_rule Kind.Ordinary (numbers_of (start Kind.TwoLayers conway_rule 2 3)) ≡ refuses 7 []
  -- Mirror boards. 2 by 2 free: score 4, 2 × (4 + 1) units. 4 by 2 free: the block in the two middle columns, which are neighbours, 2 × (16 + 1) units.
  -- Width 2, height 3 free: the block in rows 1 and 2, and not in rows 2 and 3. Width 2, height 1, both live: none, 4 + 1 units
  pub mirror_2 : solved_mirror 2 2 (0 ∷ 0 ∷ 0 ∷ 0 ∷ []) ≡ record { answer = finished 4; units = 10; board = 1 ∷ 1 ∷ 1 ∷ 1 ∷ [] }
  pub mirror_4 : solved_mirror 4 2 (replicate 8 0) ≡ record { answer = finished 4; units = 34; board = 0 ∷ 1 ∷ 1 ∷ 0 ∷ 0 ∷ 1 ∷ 1 ∷ 0 ∷ [] }
  pub mirror_high : solved_mirror 2 3 (replicate 6 0) ≡ record { answer = finished 4; units = 15; board = 1 ∷ 1 ∷ 1 ∷ 1 ∷ 0 ∷ 0 ∷ [] }
  pub mirror_none : solved_mirror 2 1 (2 ∷ 2 ∷ []) ≡ record { answer = infeasible; units = 5; board = 9 ∷ 9 ∷ [] }
  -- width 20 opens, 3 and 22 don't
  pub mirror_20 : open_rule Kind.Mirror conway_rule 20 1 (replicate 20 0) ≡ gives (job_says (start Kind.Mirror conway_rule 20 1))
  pub mirror_3 : open_rule Kind.Mirror conway_rule 3 1 (replicate 3 0) ≡ refuses 1 []
  pub mirror_22 : open_rule Kind.Mirror conway_rule 22 1 (replicate 22 0) ≡ refuses 1 []
  -- 2 by 2, third cell given dead: 15 at its place, though the dead board keeps it; an ordinary job opens
  pub lopsided : open_rule Kind.Mirror conway_rule 2 2 (0 ∷ 0 ∷ 1 ∷ 0 ∷ []) ≡ refuses 15 (2 ∷ [])
  pub lopsided_worked : solved_mirror 2 2 (0 ∷ 0 ∷ 1 ∷ 0 ∷ []) ≡ record { answer = refuses 15 (2 ∷ []); units = 0; board = 9 ∷ 9 ∷ 9 ∷ 9 ∷ [] }
  pub ordinary_lopsided : open_rule Kind.Ordinary conway_rule 2 2 (0 ∷ 0 ∷ 1 ∷ 0 ∷ []) ≡ gives (job_says (start Kind.Ordinary conway_rule 2 2))
  -- its numbers: 2 by 2 with one row chosen, the left half 1 and two live cells; a last row of two digits, three live cells and an odd width are 7
  pub mirror_row : resume_rule Kind.Mirror (numbered 2 9 0 1 2 2) ≡ gives (2 ∷ 2 ∷ 9 ∷ 0 ∷ 1 ∷ 2 ∷ 0 ∷ 8 ∷ 12 ∷ 2 ∷ [])
  pub mirror_whole_row : resume_rule Kind.Mirror (numbered 2 9 0 3 2 2) ≡ refuses 7 []
  pub mirror_three_live : resume_rule Kind.Mirror (numbered 2 9 0 1 3 2) ≡ refuses 7 []
  pub mirror_odd : resume_rule Kind.Mirror (numbers_of (start Kind.Mirror conway_rule 3 1)) ≡ refuses 7 []
  -- Predecessors of a target. Dead: the dead board. 1 by 1 live: none, 4 + 1 units
  pub dead_target : DeadTarget
  pub live_target : LiveTarget
  pub target_dead : solved_target 2 2 (0 ∷ 0 ∷ 0 ∷ 0 ∷ []) ≡ record { answer = finished 0; units = 34; board = 0 ∷ 0 ∷ 0 ∷ 0 ∷ [] }
  pub target_one : solved_target 1 1 (1 ∷ []) ≡ record { answer = infeasible; units = 5; board = 9 ∷ [] }
  -- the block: rows 1, 3, the smallest of the four boards with 3 live cells that step to it, 2 × (16 + 1) units; the upright blinker: the lying one; rows
  -- 0, 1, 3, which no turn keeps: rows 2, 1, 3, the only board that steps to them
  pub target_block : solved_target 2 2 (1 ∷ 1 ∷ 1 ∷ 1 ∷ []) ≡ record { answer = finished 3; units = 34; board = 0 ∷ 1 ∷ 1 ∷ 1 ∷ [] }
  pub target_blinker : solved_target 3 3 (0 ∷ 1 ∷ 0 ∷ 0 ∷ 1 ∷ 0 ∷ 0 ∷ 1 ∷ 0 ∷ []) ≡ record { answer = finished 3; units = 195; board = 0 ∷ 0 ∷ 0 ∷ 1 ∷ 1 ∷ 1 ∷ 0 ∷ 0 ∷ 0 ∷ [] }
  pub target_uneven : solved_target 2 3 (0 ∷ 0 ∷ 0 ∷ 1 ∷ 1 ∷ 1 ∷ []) ≡ record { answer = finished 4; units = 51; board = 1 ∷ 0 ∷ 0 ∷ 1 ∷ 1 ∷ 1 ∷ [] }
  -- width 3, height 1, all live: none, 64 + 1 units; so with the middle cell alone, to which row 7 steps inside, but with two live cells in the ring
  pub target_row_lem : solved_target 3 1 (1 ∷ 1 ∷ 1 ∷ []) ≡ record { answer = infeasible; units = 65; board = 9 ∷ 9 ∷ 9 ∷ [] }
  pub target_ring : solved_target 3 1 (0 ∷ 1 ∷ 0 ∷ []) ≡ record { answer = infeasible; units = 65; board = 9 ∷ 9 ∷ 9 ∷ [] }
  -- another length: 3, before 4, a byte above 1 with its first place. A working call turns it away too, and by 6 a table of one entry less
  pub target_length : open_rule Kind.Predecessor conway_rule 2 2 (0 ∷ 2 ∷ 0 ∷ []) ≡ refuses 3 []
  pub target_mark : open_rule Kind.Predecessor conway_rule 2 2 (0 ∷ 1 ∷ 2 ∷ 2 ∷ []) ≡ refuses 4 (2 ∷ [])
  pub target_worked : solved_target 2 2 (0 ∷ 1 ∷ 2 ∷ 2 ∷ []) ≡ record { answer = refuses 4 (2 ∷ []); units = 0; board = 9 ∷ 9 ∷ 9 ∷ 9 ∷ [] }
  pub target_short : worked_in 31 Kind.Predecessor 2 2 (replicate 4 1) ≡ record { answer = refuses 6 []; units = 0; board = 9 ∷ 9 ∷ 9 ∷ 9 ∷ [] }
  -- 14 and 15 don't apply: an edge three of live cells opens, and so does a lopsided target; the bytes of one given live are 4. A width of 20 is 1
  pub target_edge : open_rule Kind.Predecessor conway_rule 3 1 (1 ∷ 1 ∷ 1 ∷ []) ≡ gives (job_says (start Kind.Predecessor conway_rule 3 1))
  pub target_given_live : open_rule Kind.Predecessor conway_rule 3 1 (2 ∷ 2 ∷ 2 ∷ []) ≡ refuses 4 (0 ∷ [])
  pub target_lopsided : open_rule Kind.Predecessor conway_rule 2 2 (0 ∷ 0 ∷ 1 ∷ 0 ∷ []) ≡ gives (job_says (start Kind.Predecessor conway_rule 2 2))
  pub target_20 : open_rule Kind.Predecessor conway_rule 20 1 (replicate 20 0) ≡ refuses 1 []
  -- its numbers: the tenth is 3, and they are resumed as that kind only; 2 by 2 with one row chosen has at most 2 live cells
  pub target_tenth : resume_rule Kind.Predecessor (numbers_of (start Kind.Predecessor conway_rule 2 3)) ≡ gives (2 ∷ 3 ∷ 0 ∷ 0 ∷ 0 ∷ 0 ∷ 0 ∷ 8 ∷ 12 ∷ 3 ∷ [])
  pub target_as_ordinary : resume_rule Kind.Ordinary (numbers_of (start Kind.Predecessor conway_rule 2 3)) ≡ refuses 7 []
  pub ordinary_as_target : resume_rule Kind.Predecessor (numbers_of (start Kind.Ordinary conway_rule 2 3)) ≡ refuses 7 []
  pub target_two_live : resume_rule Kind.Predecessor (numbered 2 33 0 3 2 3) ≡ gives (2 ∷ 2 ∷ 33 ∷ 0 ∷ 3 ∷ 2 ∷ 0 ∷ 8 ∷ 12 ∷ 3 ∷ [])
  pub target_three_live : resume_rule Kind.Predecessor (numbered 2 33 0 3 3 3) ≡ refuses 7 []
  -- layer 2 is none throughout: 9, no row can be chosen after row 1; row 1 stays done and written, and the job stands before row 2
  pub spoiled : chosen_by Kind.Ordinary 1 65535 ≡ record { answer = refuses 9 []; units = 9; board = 0 ∷ 9 ∷ [] }
  -- a number read from the table above 600 counts as none, and 600 doesn't
  pub above_600 : chosen_by Kind.Ordinary 1 601 ≡ record { answer = refuses 9 []; units = 9; board = 0 ∷ 9 ∷ [] }
  pub up_to_600 : chosen_by Kind.Ordinary 1 600 ≡ record { answer = finished 0; units = 10; board = 0 ∷ 0 ∷ [] }
  -- of a mirror job above 1,200
  pub above_1200 : chosen_by Kind.Mirror 2 1201 ≡ record { answer = refuses 9 []; units = 9; board = 0 ∷ 0 ∷ 9 ∷ 9 ∷ [] }
  pub up_to_1200 : chosen_by Kind.Mirror 2 1200 ≡ record { answer = finished 0; units = 10; board = 0 ∷ 0 ∷ 0 ∷ 0 ∷ [] }
  -- of a job with a target above 600, though the least number is wanted
  pub target_above_600 : chosen_by Kind.Predecessor 1 601 ≡ record { answer = refuses 9 []; units = 9; board = 0 ∷ 9 ∷ [] }
  pub target_up_to_600 : chosen_by Kind.Predecessor 1 600 ≡ record { answer = finished 0; units = 10; board = 0 ∷ 0 ∷ [] }
  -- rows written into boards of 9s. Number 6 as row 2 of 3 cells: 1, 1, 0; as row 3 of a board of two it isn't written. Number 1 of two binary
  -- digits as row 1 of 4 cells: 0, 1 and their reflection
  pub row_of_6 : row_writes 3 3 1 6 (replicate 6 9) ≡ 9 ∷ 9 ∷ 9 ∷ 1 ∷ 1 ∷ 0 ∷ []
  pub row_past : row_writes 3 3 2 6 (replicate 6 9) ≡ replicate 6 9
  pub reflected : row_writes 2 4 0 1 (replicate 4 9) ≡ 0 ∷ 1 ∷ 1 ∷ 0 ∷ []
  -- the bytes of the form: LF, CR, !, ., O
  pub bytes : (LF ≡ 10) × (CR ≡ 13) × (bang ≡ 33) × (dot ≡ 46) × (big_o ≡ 79)
  -- O, LF, .OO, LF: the short row is filled with dead cells, and the cell past the board isn't written
  pub short_row : ReadsText (big_o ∷ LF ∷ dot ∷ big_o ∷ big_o ∷ LF ∷ []) 0 (replicate 7 9) (1 ∷ 0 ∷ 0 ∷ 0 ∷ 1 ∷ 1 ∷ 9 ∷ []) (Ok (record { width = 3; height = 2 }))
  -- O, LF, !, O, CR, O, LF, O: a line starting with ! is a comment, and a CR in it is allowed; a last line without LF counts
  pub a_comment : ReadsText (big_o ∷ LF ∷ bang ∷ big_o ∷ CR ∷ big_o ∷ LF ∷ big_o ∷ []) 0 (replicate 2 9) (1 ∷ 1 ∷ []) (Ok (record { width = 1; height = 2 }))
  -- O., CR, LF, .O, CR, LF: one CR just before LF is dropped
  pub cr_lf : ReadsText (big_o ∷ dot ∷ CR ∷ LF ∷ dot ∷ big_o ∷ CR ∷ LF ∷ []) 0 (replicate 4 9) (1 ∷ 0 ∷ 0 ∷ 1 ∷ []) (Ok (record { width = 2; height = 2 }))
  -- a CR elsewhere outside a comment is refusal 8 at its place: before another CR, before a letter, at the end of the text
  pub two_crs : read_rule (big_o ∷ CR ∷ CR ∷ LF ∷ []) 0 1 ≡ refuses 8 (1 ∷ [])
  pub cr_in_a_row : read_rule (dot ∷ LF ∷ CR ∷ big_o ∷ LF ∷ []) 0 4 ≡ refuses 8 (2 ∷ [])
  pub cr_at_the_end : read_rule (dot ∷ LF ∷ big_o ∷ CR ∷ []) 0 4 ≡ refuses 8 (3 ∷ [])
  -- O, LF, #O, LF: a line starting with # is no comment, and # is refusal 8 at its place
  pub hash : read_rule (big_o ∷ LF ∷ 35 ∷ big_o ∷ LF ∷ []) 0 4 ≡ refuses 8 (2 ∷ [])
