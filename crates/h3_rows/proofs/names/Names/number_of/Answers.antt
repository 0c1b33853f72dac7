use Rattle.std.proofs.Common.{◌≡◌, ℕ, ◌+◌, List, [], ◌∷◌, ◌++◌, length, None, Some, cond, sym, ap, ◌∙◌, arith, bytes_eq}
use Rattle.std.proofs.lemmas.List.{length-map}
use Rattle.std.specs.HashMap.{get_by}
use Rattle.h3_rows.specs.Areas.{name_text, names_in, place_of, span_in}
use Rattle.h3_rows.proofs.NamesKept.{known_more, spans_more, with_absent, within_more}
use Rattle.h3_rows.proofs.names.Names.number_of.Goals as goal

pub invariant_of-self-2 : goal.invariant_of-self-2
invariant_of-self-2 c =
    let s = c.args.self.now in
    let bytes = s.bytes.items in
    let spans = s.spans.items in
    let field = c.args.name.now in
    let names = names_in bytes spans in
    let be : c.keep.new.bytes.items ≡ bytes ++ field =
    c.keep.ensures.bytes ∙ ap (λ l. l ++ field) c.reserve.ensures.items in
    let se : c.keep.new.spans.items ≡ spans ++ (length bytes, length bytes + length field) ∷ [] =
    c.keep.ensures.spans
    ∙ ap (λ l. l ++ (length c.reserve.new.self.items, length c.reserve.new.self.items + length field) ∷ [])
    c.reserve-2.ensures.items
    ∙ ap (λ l. spans ++ (length l, length l + length field) ∷ []) c.reserve.ensures.items in
    let ne : names_in c.keep.new.bytes.items c.keep.new.spans.items ≡ names ++ field ∷ [] =
    ap (λ l. names_in l c.keep.new.spans.items) be ∙ ap (names_in (bytes ++ field)) se
    ∙ spans_more bytes field spans s.within in
    let absent : place_of s.quotes (name_text s.quotes field) names ≡ None =
    sym (s.known (name_text s.quotes field))
    ∙ ap (λ t. get_by (λ k. bytes_eq t k.items) s.places) (sym c.name_text-text.ensures)
    ∙ sym c.in-None.ensures.value in
    let updates : (text : List ℕ)
    → get_by (λ k. bytes_eq text k.items) c.put_text.new.places
    ≡ cond (bytes_eq (name_text s.quotes field) text) (Some c.len-count.result)
    (get_by (λ k. bytes_eq text k.items) s.places) =
    λ text.
    c.in_ok-put_text.ensures.ok text
    ∙ ap (λ l. cond (bytes_eq l text) (Some c.len-count.result) (get_by (λ k. bytes_eq text k.items) s.places))
    c.name_text-text.ensures in
    let count : c.len-count.result ≡ length names = omega (arith, length-map spans (span_in bytes), s.spans.ok.0) in
    record {
      within = rw (be, se) (within_more bytes field spans s.within);
      known = λ text.
          known_more s.quotes names field (λ t. get_by (λ k. bytes_eq t k.items) s.places) (λ t. get_by
          (λ k. bytes_eq t k.items) c.put_text.new.places) c.len-count.result s.known updates count absent text
          ∙ ap (place_of s.quotes text) (sym ne);
    }

pub returns-clause-names : goal.returns-clause-names
returns-clause-names c =
    let s = c.args.self.now in
    let bytes = s.bytes.items in
    let spans = s.spans.items in
    let field = c.args.name.now in
    let names = names_in bytes spans in
    let be : c.keep.new.bytes.items ≡ bytes ++ field =
    c.keep.ensures.bytes ∙ ap (λ l. l ++ field) c.reserve.ensures.items in
    let se : c.keep.new.spans.items ≡ spans ++ (length bytes, length bytes + length field) ∷ [] =
    c.keep.ensures.spans
    ∙ ap (λ l. l ++ (length c.reserve.new.self.items, length c.reserve.new.self.items + length field) ∷ [])
    c.reserve-2.ensures.items
    ∙ ap (λ l. spans ++ (length l, length l + length field) ∷ []) c.reserve.ensures.items in
    let ne : names_in c.keep.new.bytes.items c.keep.new.spans.items ≡ names ++ field ∷ [] =
    ap (λ l. names_in l c.keep.new.spans.items) be ∙ ap (names_in (bytes ++ field)) se
    ∙ spans_more bytes field spans s.within in
    let absent : place_of s.quotes (name_text s.quotes field) names ≡ None =
    sym (s.known (name_text s.quotes field))
    ∙ ap (λ t. get_by (λ k. bytes_eq t k.items) s.places) (sym c.name_text-text.ensures)
    ∙ sym c.in-None.ensures.value in
    ne ∙ sym (with_absent s.quotes names field absent)
