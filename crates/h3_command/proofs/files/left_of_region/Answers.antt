use Rattle.h3_command.proofs.files.left_of_region.Goals as goal

pub returns-in-Some-clause-covers : goal.returns-in-Some-clause-covers
returns-in-Some-clause-covers c = rw c.in-Some.is at c.in_ok-left.ensures.covers

pub returns-in-Some-clause-region : goal.returns-in-Some-clause-region
returns-in-Some-clause-region c = rw c.in-Some.is at c.in_ok-left.ensures.region
