-- What is known of a `Retried`.
use Rattle.h3_program.specs.declared.retried.Retried.{Retried}

-- retried_inner r: the reader or writer below a `Retried`
abbrev pub retried_inner : {T : Type 0} → Retried T → T
retried_inner r = r.inner
