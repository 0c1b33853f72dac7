use Rattle.h3_rows.proofs.TextLaws.{texts_are_kept, texts_stand_once, texts_stay_sound}
use Rattle.h3_rows.proofs.laws.texts_stand_beside.Goals as goal

pub returns-clause-once : goal.returns-clause-once
returns-clause-once c = texts_stand_once

pub returns-clause-kept : goal.returns-clause-kept
returns-clause-kept c = texts_are_kept

pub returns-clause-sound : goal.returns-clause-sound
returns-clause-sound c = texts_stay_sound
