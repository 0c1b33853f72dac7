use Rattle.std.proofs.Common.{sym, ◌∙◌, inr, map, true≢false}
use Rattle.std.specs.Prelude.{string_bytes}
use Rattle.clap.specs.Words.{found_of}
use Rattle.h3_words.proofs.Plain.{call_agrees, call_passes}
use Rattle.h3_words.proofs.Reading.{agree_found, asks_for, fault_reported, memory_alone, met, only_memory, passed, refused, refused_memory, rows_are, stands_alone}
use Rattle.h3_words.proofs.Values.{has_values}
use Rattle.h3_words.proofs.words.parse_command.Goals as goal

pub returns-in-Err-clause-faults : goal.returns-in-Err-clause-faults
returns-in-Err-clause-faults c =
    let ws = map string_bytes c.args.words.now in
    refused ws c.from_parse.result
    (fault_reported _ ws c.in-Err.error (stands_alone c.args.command _ ws c.requires.named c.in_ok-parser.ensures)
    c.in-Err.ensures.kinds c.from_parse.result c.from_parse.ensures)

pub returns-in-Err-clause-taken : goal.returns-in-Err-clause-taken
returns-in-Err-clause-taken c = λ call.
    let ws = map string_bytes c.args.words.now in
    only_memory ws c.from_parse.result
    (fault_reported _ ws c.in-Err.error (stands_alone c.args.command _ ws c.requires.named c.in_ok-parser.ensures)
    c.in-Err.ensures.kinds c.from_parse.result c.from_parse.ensures)
    (call_passes ws call)

pub returns-clause-read : goal.returns-clause-read
returns-clause-read c =
    let ws = map string_bytes c.args.words.now in
    let found = found_of c.in-Some.inner.now in
    let are =
    met c.args.command _ ws _ found c.requires.named c.in_ok-parser.ensures c.in-Ok.ensures.kinds
    c.in-Ok.ensures.matches c.in-Some.ensures.rows in
    let read = c.in_ok-words_of.ensures in
    asks_for c.args.command ws found c.requires.named are _ read.named (has_values _ found _ read.values) read.file
    (rows_are _ found c.in_ok-words_of.field-0.tables
    (sym c.rows_agree.ensures ∙ c.if-not-rows_agree.false) read.tables)

pub returns-clause-agreed : goal.returns-clause-agreed
returns-clause-agreed c =
    let ws = map string_bytes c.args.words.now in
    let found = found_of c.in-Some.inner.now in
    let are =
    met c.args.command _ ws _ found c.requires.named c.in_ok-parser.ensures c.in-Ok.ensures.kinds
    c.in-Ok.ensures.matches c.in-Some.ensures.rows in
    sym (agree_found c.args.command _ found are) ∙ sym c.rows_agree.ensures ∙ c.if-not-rows_agree.false

pub returns-clause-accepted : goal.returns-clause-accepted
returns-clause-accepted c =
    let ws = map string_bytes c.args.words.now in
    passed _ ws (stands_alone c.args.command _ ws c.requires.named c.in_ok-parser.ensures) c.in-Ok.ensures.kinds

pub returns-then-not-rows_agree-clause-taken : goal.returns-then-not-rows_agree-clause-taken
returns-then-not-rows_agree-clause-taken c = λ call.
    let ws = map string_bytes c.args.words.now in
    let found = found_of c.in-Some.inner.now in
    let are =
    met c.args.command _ ws _ found c.requires.named c.in_ok-parser.ensures c.in-Ok.ensures.kinds
    c.in-Ok.ensures.matches c.in-Some.ensures.rows in
    absurd (true≢false (sym (call_agrees ws call) ∙ sym (agree_found c.args.command _ found are)
    ∙ sym c.rows_agree.ensures ∙ c.if-not-rows_agree.true))

pub returns-then-not-rows_agree-clause-faults : goal.returns-then-not-rows_agree-clause-faults
returns-then-not-rows_agree-clause-faults c =
    let ws = map string_bytes c.args.words.now in
    let found = found_of c.in-Some.inner.now in
    let are =
    met c.args.command _ ws _ found c.requires.named c.in_ok-parser.ensures c.in-Ok.ensures.kinds
    c.in-Ok.ensures.matches c.in-Some.ensures.rows in
    inr (
      passed _ ws (stands_alone c.args.command _ ws c.requires.named c.in_ok-parser.ensures) c.in-Ok.ensures.kinds,
      sym (agree_found c.args.command _ found are) ∙ sym c.rows_agree.ensures ∙ c.if-not-rows_agree.true,
    )

pub returns-in_err-parser-clause-faults : goal.returns-in_err-parser-clause-faults
returns-in_err-parser-clause-faults c =
    refused_memory (map string_bytes c.args.words.now) c.from_residual.result c.from_residual.ensures.1

pub returns-in_err-parser-clause-taken : goal.returns-in_err-parser-clause-taken
returns-in_err-parser-clause-taken c = λ _. memory_alone c.from_residual.result c.from_residual.ensures.1

pub returns-in_err-rows_fault-clause-faults : goal.returns-in_err-rows_fault-clause-faults
returns-in_err-rows_fault-clause-faults c =
    refused_memory (map string_bytes c.args.words.now) c.from_residual-in_err-rows_fault.result
    c.from_residual-in_err-rows_fault.ensures.1

pub returns-in_err-rows_fault-clause-taken : goal.returns-in_err-rows_fault-clause-taken
returns-in_err-rows_fault-clause-taken c =
    λ _. memory_alone c.from_residual-in_err-rows_fault.result c.from_residual-in_err-rows_fault.ensures.1

pub returns-in_err-words_of-clause-faults : goal.returns-in_err-words_of-clause-faults
returns-in_err-words_of-clause-faults c =
    refused_memory
    (map string_bytes c.args.words.now) c.from_residual-in_err-words_of.result c.from_residual-in_err-words_of.ensures.1

pub returns-in_err-words_of-clause-taken : goal.returns-in_err-words_of-clause-taken
returns-in_err-words_of-clause-taken c =
    λ _. memory_alone c.from_residual-in_err-words_of.result c.from_residual-in_err-words_of.ensures.1
