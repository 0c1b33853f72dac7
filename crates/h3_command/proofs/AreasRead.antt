-- How a table of zones with names is read, and its areas judged.
use Rattle.std.proofs.Common.{◌≡◌, ℕ, Bool, List, [], ◌++◌, Option, None, Some, Result, Ok, Err, ap, sym, ◌∙◌, refl, subst, inl, inr, append-nil, string_bytes}
use Rattle.std.proofs.lemmas.List.{append_cancel_left}
use Rattle.std.specs.Prelude.{is_ok}
use Rattle.std.specs.Io.KnownBytes.{Consumes}
use Rattle.h3_index.specs.declared.error.H3Error.{H3Error}
use Rattle.h3_streams.specs.Stream.{HasLeft}
use Rattle.h3_lines.specs.Reads.{IsReadToEnd, NoReadFails, SourceUse}
use Rattle.h3_lines.specs.Write.{SinkUse}
use Rattle.h3_lines.specs.declared.run_error.AnswerError.{AnswerError}
use Rattle.h3_lines.specs.declared.run_error.AnswerError.TheVariants.{File}
use Rattle.h3_lines.specs.declared.run_error.CellFile.TheVariants.{Zones}
use Rattle.h3_lines.specs.declared.run_error.Fault.TheVariants.{Memory, Read, Write}
use Rattle.h3_lines.specs.declared.run_error.RunError.{RunError}
use Rattle.h3_lines.specs.declared.run_error.RunError.TheVariants.{Error, Fault}
use Rattle.h3_requests.specs.declared.rows.AreaOptions.{AreaOptions}
use Rattle.h3_requests.specs.declared.rows.RowOptions.{RowOptions}
use Rattle.h3_rows.specs.Areas.{area_cells}
use Rattle.h3_rows.specs.Named.{AllNamedRead, Entry, RefusesNamed, Table, names_table}
use Rattle.h3_command.specs.AreaTable.{EndsJudged, EndsWithAreas, ReadsAreas}
use Rattle.h3_command.specs.Areas.{area_answer, judged_areas, overlap_error, unless_overlapping}
use Rattle.h3_command.specs.Combination.{in_file}
use Rattle.h3_command.specs.Rows.{area_form}
use Rattle.h3_command.specs.Run.{EndsLines, EndsOverAreas, GivesAreas, IsNamedReadSoFar, RefusesAreas}

-- where all bytes that were left are taken, none is left
taken_whole : (old new : Option (List ℕ)) (bytes list : List ℕ) → HasLeft old bytes → Consumes old new bytes
    → old ≡ Some list → new ≡ Some []
taken_whole None new bytes list held taken known = cc known
taken_whole (Some xs) None bytes list held taken known = absurd taken
taken_whole (Some xs) (Some ys) bytes list held taken known =
    ap Some (append_cancel_left bytes ys [] (sym taken ∙ held ∙ sym (append-nil bytes)))

named_whole : (table : Table) (entries : Result (List Entry) AnswerError) (file : SourceUse)
    → AllNamedRead table entries file.left file.left_after → IsReadToEnd file
named_whole table entries file all list known =
    taken_whole file.left file.left_after all.list list all.held all.consumed known

-- ---- a table that has no faulty row

pub areas_given : (table : Table) (file : SourceUse) (entries : List Entry) → NoReadFails file
    → AllNamedRead table (Ok entries) file.left file.left_after
    → (bytes : List ℕ) × HasLeft file.left bytes × ReadsAreas table bytes file entries
areas_given table file entries sound all = (
  all.list,
  all.held,
  record { is = all.is; within = all.within; sound = sound; whole = named_whole table (Ok entries) file all },
)

-- no two of its areas overlap
areas_kept : (overlapping : Bool) (table : Table) (bytes : List ℕ) (file : SourceUse) (entries : List Entry)
    → ReadsAreas table bytes file entries
    → overlap_error overlapping (area_cells table.form.quotes entries) ≡ None
    → GivesAreas overlapping table bytes file entries
areas_kept overlapping table bytes file entries reads none = record {
  is = ap (judged_areas overlapping table.form.quotes) reads.is ∙ ap (λ e. unless_overlapping e entries) none;
  within = reads.within;
  sound = reads.sound;
  whole = reads.whole;
}

-- two do
areas_judged : (overlapping : Bool) (table : Table) (bytes : List ℕ) (file : SourceUse) (entries : List Entry)
    (e : H3Error)
    → ReadsAreas table bytes file entries → overlap_error overlapping (area_cells table.form.quotes entries) ≡ Some e
    → RefusesAreas overlapping table bytes file (Err (Error (File Zones e)))
areas_judged overlapping table bytes file entries e reads is = (
  ap (judged_areas overlapping table.form.quotes) reads.is ∙ ap (λ r. unless_overlapping r entries) is,
  reads.sound,
  subst (λ read. IsNamedReadSoFar table read bytes file) (sym reads.is) (reads.within, reads.whole),
)

-- ---- one with a faulty row, or that is not read to its end

pub areas_refused : (table : Table) (file : SourceUse) (e : RunError)
    → RefusesNamed table file.left file.left_after file.had_failed file.has_failed e
    → (bytes : List ℕ) × HasLeft file.left bytes
    × ((overlapping : Bool) → RefusesAreas overlapping table bytes file (Err (in_file Zones e)))
areas_refused table file (Error d) (sound, inl late) =
    let all = late.read in (
      all.list,
      all.held,
      λ overlapping. (
        ap (judged_areas overlapping table.form.quotes) all.is,
        sound,
        subst (λ read. IsNamedReadSoFar table read all.list file) (sym all.is)
            (inl ((all.within, named_whole table (Err d) file all), ap is_ok late.good)),
      ),
    )
areas_refused table file (Error d) (sound, inr page) =
    let stop = page.stop in
    let bytes = stop.part ++ stop.last ++ stop.rest in (
      bytes,
      stop.held,
      λ overlapping. (
        ap (judged_areas overlapping table.form.quotes) page.is,
        sound,
        subst (λ read. IsNamedReadSoFar table read bytes file) (sym page.is) (inr (page, refl)),
      ),
    )
areas_refused table file (Fault Memory) (sound, stop) =
    (stop.part ++ stop.last ++ stop.rest, stop.held, λ overlapping. (sound, inr (record { stop = stop; of = refl })))
areas_refused table file (Fault Read) (stop, fails) =
    (stop.part ++ stop.last ++ stop.rest, stop.held, λ overlapping. (fails, record { stop = stop; of = refl }))
areas_refused table file (Fault Write) never = absurd never

-- ---- how a run ends over one

-- whatever the list is answered by
pub ends_judged : (overlapping : Bool) (table : Table) (then_ends : List Entry → Type 0) (bytes : List ℕ)
    (entries : List Entry)
    (input file : SourceUse) (ending : Result (Unit {0}) RunError) (out : SinkUse) → HasLeft file.left bytes
    → ReadsAreas table bytes file entries
    → EndsJudged (overlap_error overlapping (area_cells table.form.quotes entries)) (then_ends entries) input ending out
    → EndsOverAreas overlapping table then_ends input file ending out
ends_judged overlapping table then_ends bytes entries input file ending out held reads (inl (none, ends)) =
    (bytes, held, inl (entries, areas_kept overlapping table bytes file entries reads none, ends))
ends_judged overlapping table then_ends bytes entries input file ending out held reads (inr (inl (is, alone, left))) =
    let refuses : RefusesAreas overlapping table bytes file (Err (Fault Memory)) =
    (reads.sound, inl ((reads.within, reads.whole), ap is_ok reads.is)) in
    (bytes, held, inr (subst (λ e. RefusesAreas overlapping table bytes file e) (sym is) refuses, alone, left))
ends_judged overlapping table then_ends bytes entries input file ending out held reads
    (inr (inr (e, refused, is, alone, left))) =
    let refuses = areas_judged overlapping table bytes file entries e reads refused in
    (bytes, held, inr (subst (λ e. RefusesAreas overlapping table bytes file e) (sym is) refuses, alone, left))

pub ends_over : (options : AreaOptions) (rows : Option RowOptions) (bytes : List ℕ) (entries : List Entry)
    (input file : SourceUse) (ending : Result (Unit {0}) RunError) (out : SinkUse) → HasLeft file.left bytes
    → ReadsAreas (names_table options.table) bytes file entries
    → EndsWithAreas options.overlapping options rows entries input ending out
    → EndsOverAreas options.overlapping (names_table options.table) (λ entries. EndsLines
    (area_form rows options.table.rows.quotes entries)
    (area_answer options.table.rows.quotes (string_bytes options.none) entries) input
    ending out) input file ending out
ends_over options rows bytes entries input file ending out held reads ends =
    ends_judged options.overlapping (names_table options.table) (λ entries. EndsLines
    (area_form rows options.table.rows.quotes entries)
    (area_answer options.table.rows.quotes (string_bytes options.none) entries) input ending out)
    bytes entries input file ending out held reads ends
