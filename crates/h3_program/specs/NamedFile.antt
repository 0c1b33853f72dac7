-- What is known of a `NamedFile`.
use Rattle.std.specs.Prelude.{◌≡◌, ℕ, Bool, List, Option, IsSome}
use Rattle.std.specs.Option.{option_and_then}
use Rattle.h3_program.specs.declared.file.NamedFile.{NamedFile}

module _ {O F : Type 0} where
  -- named_files f: the files of which it is one
  abbrev pub named_files : NamedFile O F → O
  named_files f = f.files.now

  -- named_file f: the file that it reads, once it is opened
  abbrev pub named_file : NamedFile O F → Option F
  named_file f = f.file

  -- named_failed f: a read of it failed
  abbrev pub named_failed : NamedFile O F → Bool
  named_failed f = f.failed

  -- named_left left f: the bytes that it has left, as its file has them; none are known before it is opened
  abbrev pub named_left : (F → Option (List ℕ)) → NamedFile O F → Option (List ℕ)
  named_left left f = option_and_then left f.file

  -- IsOpenedAt left bytes_at old path new: the file at the path is open, and has the bytes left that are at this path;
  -- nothing else has changed
  pub record IsOpenedAt (left : F → Option (List ℕ)) (bytes_at : O → List ℕ → Option (List ℕ) → Type 0)
      (old : NamedFile O F) (path : List ℕ) (new : NamedFile O F) : Type 0 where
    pub is_open : IsSome (named_file new)
    pub bytes : bytes_at (named_files old) path (named_left left new)
    pub files_kept : named_files new ≡ named_files old
    pub failed_kept : named_failed new ≡ named_failed old
