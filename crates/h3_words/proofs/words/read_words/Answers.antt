use Rattle.std.proofs.Common.{◌∙◌, sym, ap, map, subst, true≢false}
use Rattle.std.specs.Prelude.{string_bytes}
use Rattle.h3_words.specs.Parse.{ParsesAs}
use Rattle.h3_words.specs.Version.{asks_version}
use Rattle.h3_words.proofs.words.read_words.Goals as goal

pub returns : goal.returns
returns c =
    let parsed = c.parse_words.ensures in
    subst (λ ws. ParsesAs (map string_bytes ws) c.parse_words.result) c.as_slice-2.ensures.value (record {
      read = parsed.read;
      accepted = parsed.accepted;
      agreed = parsed.agreed;
      taken = parsed.taken;
      version = λ asked. absurd (true≢false (sym asked
          ∙ ap (λ ws. asks_version (map string_bytes ws)) (c.as_slice-2.ensures.value ∙ sym c.as_slice.ensures.value)
          ∙ sym c.asks_for_version.ensures ∙ c.if-asks_for_version.false));
      faults = λ _. parsed.faults;
    })
