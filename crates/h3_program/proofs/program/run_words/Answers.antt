use Rattle.std.proofs.Common.{rules, ◌≡◌, ℕ, List, [], Option, Bool, true, false, refl, sym, ap, ◌∙◌, append-nil, string_bytes}
use Rattle.std.specs.Prelude.{Result, Ok, Err, OnOk, OnErr}
use Rattle.std.specs.Io.KnownBytes.{Appends}
use Rattle.h3_streams.specs.declared.stream.StreamFault.{StreamFault}
use Rattle.h3_lines.specs.Write.{AppendsPart}
use Rattle.h3_words.specs.declared.words.ArgsError.TheVariants.{Usage}
use Rattle.h3_program.proofs.program.run_words.Goals as goal

-- what a write of all bytes leaves, whether it fails or not
left_by : (r : Result (Unit {0}) StreamFault) (old new : Option (List ℕ)) (failed : Bool) (bytes : List ℕ)
    → OnOk r (Appends old new bytes) → OnErr r (AppendsPart old new bytes) → OnErr r (failed ≡ true)
    → AppendsPart old new bytes × (failed ≡ false → Appends old new bytes)
left_by (Ok done) old new failed bytes all part e =
    (record { part = bytes; rest = []; split = sym (append-nil bytes); holds = all }, λ _. all)
left_by (Err fault) old new failed bytes all part e = (part, λ f. absurd (let bad : true ≡ false = sym e ∙ f in cc))

pub returns-in-Err-Usage-clause-follows : goal.returns-in-Err-Usage-clause-follows
returns-in-Err-Usage-clause-follows g c =
    let parsed = rw c.in-Err-Usage.field-0-is at c.in-Err-Usage.ensures in
    let text : c.as_bytes-in-Err-Usage.result.now ≡ string_bytes c.in-Err-Usage.text =
    c.as_bytes-in-Err-Usage.ensures.value ∙ ap string_bytes c.in-Err-Usage.text-is in
    let written = c.write_all.ensures in
    let left = rw text at (left_by c.write_all.result _ _ _ _ written.written written.part written.err) in (
      Err (Usage c.in-Err-Usage.text),
      record {
        read = parsed.read;
        accepted = parsed.accepted;
        agreed = parsed.agreed;
        taken = parsed.taken;
        version = parsed.version;
        faults = parsed.faults;
      },
      ((refl, search rules, left), refl, refl),
    )
