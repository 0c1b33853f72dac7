use Rattle.h3_command.proofs.NewColumns.{answers_are_words, error_names_are_fields, error_names_are_kept, names_are_kept, rows_stand_once, titles_are_fields, word_pairs_are_kept, word_pairs_are_uncut, words_are_fields, words_are_kept}
use Rattle.h3_command.proofs.laws.answers_are_fields.Goals as goal

pub returns-clause-words : goal.returns-clause-words
returns-clause-words c = answers_are_words c.areas_divide_cells.ensures.fields

pub returns-clause-fields : goal.returns-clause-fields
returns-clause-fields c = words_are_fields

pub returns-clause-kept : goal.returns-clause-kept
returns-clause-kept c = words_are_kept c.answers_stand_beside.ensures.kept

pub returns-clause-pairs : goal.returns-clause-pairs
returns-clause-pairs c = word_pairs_are_kept c.answers_stand_beside.ensures.pairs

pub returns-clause-once : goal.returns-clause-once
returns-clause-once c = rows_stand_once

pub returns-clause-uncut : goal.returns-clause-uncut
returns-clause-uncut c = word_pairs_are_uncut

pub returns-clause-errors : goal.returns-clause-errors
returns-clause-errors c = error_names_are_fields

pub returns-clause-errors_kept : goal.returns-clause-errors_kept
returns-clause-errors_kept c = error_names_are_kept c.answers_stand_beside.ensures.kept

pub returns-clause-titles : goal.returns-clause-titles
returns-clause-titles c = titles_are_fields c.areas_divide_cells.ensures.entries

pub returns-clause-names : goal.returns-clause-names
returns-clause-names c = names_are_kept c.answers_stand_beside.ensures.kept
