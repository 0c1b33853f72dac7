-- How a file of cells is read.
use Rattle.std.proofs.Common.{◌≡◌, ℕ, ◌^◌, List, [], ◌++◌, Option, None, Some, Result, Ok, Err, ap, sym, ◌∙◌, refl, subst, inl, inr, append-nil}
use Rattle.std.proofs.lemmas.List.{append_cancel_left}
use Rattle.std.specs.Prelude.{is_ok}
use Rattle.std.specs.Io.KnownBytes.{Consumes}
use Rattle.h3_index.specs.Cell.{Address}
use Rattle.h3_index.specs.declared.error.H3Error.{H3Error}
use Rattle.h3_streams.specs.Stream.{HasLeft}
use Rattle.h3_lines.specs.List.{itself}
use Rattle.h3_lines.specs.Numbered.{faulty_line}
use Rattle.h3_lines.specs.ListRead.{ListRefused, RefusesByLine}
use Rattle.h3_lines.specs.Reads.{IsReadToEnd, SourceUse}
use Rattle.h3_lines.specs.declared.run_error.AnswerError.{AnswerError}
use Rattle.h3_lines.specs.declared.run_error.AnswerError.TheVariants.{File}
use Rattle.h3_lines.specs.declared.run_error.CellFile.{CellFile}
use Rattle.h3_lines.specs.declared.run_error.CellFile.TheVariants.{Region, Zones}
use Rattle.h3_lines.specs.declared.run_error.Fault.TheVariants.{Memory, Read, Write}
use Rattle.h3_lines.specs.declared.run_error.RunError.{RunError}
use Rattle.h3_lines.specs.declared.run_error.RunError.TheVariants.{Error, Fault}
use Rattle.h3_regions.specs.Zones.{IsZones}
use Rattle.h3_rows.specs.Cells.{AllRowsRead, RefusesRows}
use Rattle.h3_rows.specs.RowsAnswer.{Form}
use Rattle.h3_command.specs.Combination.{AreArranged, in_file}
use Rattle.h3_command.specs.Files.{file_error, judged_cells, judged_rows, unless_error}
use Rattle.h3_command.specs.Listed.{GivesCells, RefusesNumbered}
use Rattle.h3_command.specs.Run.{GivesFile, IsTableReadSoFar, RefusesFile}

-- ---- a table of cells that is read to its end

-- where all bytes that were left are taken, none is left
taken_whole : (old new : Option (List ℕ)) (bytes list : List ℕ) → HasLeft old bytes → Consumes old new bytes
    → old ≡ Some list → new ≡ Some []
taken_whole None new bytes list held told known = cc known
taken_whole (Some xs) None bytes list held told known = absurd told
taken_whole (Some xs) (Some ys) bytes list held told known =
    ap Some (append_cancel_left bytes ys [] (sym told ∙ held ∙ sym (append-nil bytes)))

table_whole : (form : Form) (cells : Result (List Address) AnswerError) (file : SourceUse)
    → AllRowsRead form cells file.left file.left_after → IsReadToEnd file
table_whole form cells file all list known =
    taken_whole file.left file.left_after all.list list all.held all.consumed known

-- ---- a file that has cells

-- they have no error as a whole
pub file_given : (kind : CellFile) (form : Option Form) (file : SourceUse) (listed : List Address)
    → GivesCells itself form file listed → file_error kind listed ≡ None
    → (bytes : List ℕ) × HasLeft file.left bytes × GivesFile kind form bytes file listed
file_given kind None file listed told none = (
  told.list,
  told.held,
  record {
    is = ap (judged_cells kind (faulty_line told.list)) told.is ∙ ap (λ e. unless_error kind e listed) none;
    within = told.within;
    sound = told.sound;
    whole = told.whole;
  },
)
file_given kind (Some form) file listed (sound, all) none = (
  all.list,
  all.held,
  record {
    is = ap (judged_rows kind) all.is ∙ ap (λ e. unless_error kind e listed) none;
    within = all.within;
    sound = sound;
    whole = table_whole form (Ok listed) file all;
  },
)

-- they have one
pub file_judged : (kind : CellFile) (form : Option Form) (file : SourceUse) (listed : List Address) (e : H3Error)
    → GivesCells itself form file listed → file_error kind listed ≡ Some e
    → (bytes : List ℕ) × HasLeft file.left bytes × RefusesFile kind form bytes file (Err (Error (File kind e)))
file_judged kind None file listed e told is = (
  told.list,
  told.held,
  (
    ap (judged_cells kind (faulty_line told.list)) told.is ∙ ap (λ error. unless_error kind error listed) is,
    told.sound,
    (told.within, told.whole),
  ),
)
file_judged kind (Some form) file listed e (sound, all) is = (
  all.list,
  all.held,
  (
    ap (judged_rows kind) all.is ∙ ap (λ error. unless_error kind error listed) is,
    sound,
    subst (λ cells. IsTableReadSoFar form cells all.list file) (sym all.is)
        (all.within, table_whole form (Ok listed) file all),
  ),
)

-- ---- one with a faulty line or row, or that is not read to its end

bare_refused : (kind : CellFile) (file : SourceUse) (e : RunError)
    (told : ListRefused itself RefusesByLine (2 ^ 40) 65536 file e)
    → RefusesFile kind None told.list file (Err (in_file kind e))
bare_refused kind file (Error d) told =
    let (error, is, at) = told.refused in
    subst (λ c. RefusesFile kind None told.list file (Err (in_file kind (Error c)))) (sym at) (
      ap (judged_cells kind (faulty_line told.list)) is,
      told.sound (λ never. cc never),
      (told.within (λ never. cc never) (λ never. cc never), told.stops),
    )
bare_refused kind file (Fault Memory) told = (told.sound (λ never. cc never), told.stops)
bare_refused kind file (Fault Read) told = (told.refused, told.faults refl)
bare_refused kind file (Fault Write) told = absurd told.refused

rows_refused : (kind : CellFile) (form : Form) (file : SourceUse) (e : RunError)
    → RefusesRows form file.left file.left_after file.had_failed file.has_failed e
    → (bytes : List ℕ) × HasLeft file.left bytes × RefusesFile kind (Some form) bytes file (Err (in_file kind e))
rows_refused kind form file (Error d) (sound, inl late) =
    let all = late.read in (
      all.list,
      all.held,
      (
        ap (judged_rows kind) all.is,
        sound,
        subst (λ cells. IsTableReadSoFar form cells all.list file) (sym all.is)
            (inl ((all.within, table_whole form (Err d) file all), ap is_ok late.good)),
      ),
    )
rows_refused kind form file (Error d) (sound, inr page) =
    let stop = page.stop in
    let bytes = stop.part ++ stop.last ++ stop.rest in (
      bytes,
      stop.held,
      (
        ap (judged_rows kind) page.is,
        sound,
        subst (λ cells. IsTableReadSoFar form cells bytes file) (sym page.is) (inr (page, refl)),
      ),
    )
rows_refused kind form file (Fault Memory) (sound, stop) =
    (stop.part ++ stop.last ++ stop.rest, stop.held, (sound, record { stop = stop; of = refl }))
rows_refused kind form file (Fault Read) (stop, fails) =
    (stop.part ++ stop.last ++ stop.rest, stop.held, (fails, record { stop = stop; of = refl }))
rows_refused kind form file (Fault Write) never = absurd never

pub file_refused : (kind : CellFile) (form : Option Form) (file : SourceUse) (e : RunError)
    → RefusesNumbered itself form file e
    → (bytes : List ℕ) × HasLeft file.left bytes × RefusesFile kind form bytes file (Err (in_file kind e))
file_refused kind None file e told = (told.list, told.held, bare_refused kind file e told)
file_refused kind (Some form) file e told = rows_refused kind form file e told

-- ---- zones

-- zones are arranged as such
pub arranged_zones : (kind : CellFile) (listed cells : List Address) → AreArranged kind listed cells → kind ≡ Zones
    → IsZones cells
arranged_zones Region listed cells arranged is = cc is
arranged_zones Zones listed cells (same, zones) is = zones
