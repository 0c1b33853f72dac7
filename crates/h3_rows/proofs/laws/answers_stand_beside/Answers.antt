use Rattle.h3_rows.proofs.CutAgain.{fields_are_kept, pairs_are_kept, rows_are_whole}
use Rattle.h3_rows.proofs.Marks.{marks_are_kept}
use Rattle.h3_rows.proofs.ReadBack.{output_reads_back, rows_read_back}
use Rattle.h3_rows.proofs.Stand.{header_stands, rows_give_back, rows_stand, rows_stand_until}
use Rattle.h3_rows.proofs.laws.answers_stand_beside.Goals as goal

pub returns-clause-stand : goal.returns-clause-stand
returns-clause-stand c = rows_stand

pub returns-clause-until : goal.returns-clause-until
returns-clause-until c = rows_stand_until

pub returns-clause-header : goal.returns-clause-header
returns-clause-header c = header_stands

pub returns-clause-give : goal.returns-clause-give
returns-clause-give c = rows_give_back

pub returns-clause-whole : goal.returns-clause-whole
returns-clause-whole c = rows_are_whole

pub returns-clause-marks : goal.returns-clause-marks
returns-clause-marks c = marks_are_kept

pub returns-clause-kept : goal.returns-clause-kept
returns-clause-kept c = fields_are_kept

pub returns-clause-pairs : goal.returns-clause-pairs
returns-clause-pairs c = pairs_are_kept

pub returns-clause-back : goal.returns-clause-back
returns-clause-back c = rows_read_back

pub returns-clause-output : goal.returns-clause-output
returns-clause-output c = output_reads_back
