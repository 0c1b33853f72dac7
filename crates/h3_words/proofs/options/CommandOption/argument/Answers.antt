use Rattle.std.proofs.Common.{rules, w64, SFits, ℤ, negsuc, pos, Some, ap, ap₂, ◌∙◌, ◌≡◌, false, refl, subst, sym}
use Rattle.std.proofs.lemmas.Int.{to_z-of_z}
use Rattle.std.specs.Int.{int_max, int_min}
use Rattle.std.specs.Prelude.{option_map}
use Rattle.std.specs.Range.{range_inclusive_start, range_inclusive_end}
use Rattle.clap.specs.Words.{NarrowsTo, Rule, rule_of, signed_between}
use Rattle.clap.specs.declared.builder.value_parser.ValueParser.{ValueParser}
use Rattle.h3_words.specs.Options.{OptionEntry, is_flag, missing_for, named_rule, number_from, number_up_to, parser_for, range_for}
use Rattle.h3_words.specs.declared.options.CommandOption.{CommandOption}
use Rattle.h3_words.specs.declared.options.CommandOption.TheVariants.{Cell}
use Rattle.h3_words.proofs.options.CommandOption.argument.Goals as goal

-- all `i64`s from the least to the most
abbrev between : ℤ → ℤ → ValueParser
between least most =
    signed_between (int_max (negsuc 9223372036854775807) least) (int_min (pos 9223372036854775807) most)

-- the second clause is checked at each other option
within : (o : CommandOption) → option_map (between (number_from o)) (number_up_to o) ≡ parser_for o
within Cell = refl
within o = refl

pub returns-in-Some-clause-rule : goal.returns-in-Some-clause-rule
returns-in-Some-clause-rule c =
    let o = c.args.self in
    let made = c.value_parser-in-Some.ensures in
    let fits : SFits w64 c.in-Some.most = search rules in
    let start = range_inclusive_start c.new.result in
    let end = range_inclusive_end c.new.result in
    let low : SFits w64 c.entry-entry.result.least = search rules in
    let least : start ≡ number_from o =
    c.new.ensures.start ∙ to_z-of_z w64 c.entry-entry.result.least low
    ∙ ap (λ (e : OptionEntry). e.least) c.entry-entry.ensures in
    let most : end ≡ c.in-Some.most = c.new.ensures.end ∙ to_z-of_z w64 c.in-Some.most fits in
    let range : c.range.result ≡ between (number_from o) c.in-Some.most =
    subst (λ p. NarrowsTo p (Some start) (Some end) c.range.result) c.value_parser.ensures c.range.ensures
    ∙ ap₂ between least most in
    let parser : c.value_parser-in-Some.result.value_parser ≡ parser_for o =
    made.given.1 ∙ ap (λ p. Some p) (made.given.2 ∙ range)
    ∙ ap (option_map (between (number_from o)))
    (sym c.in-Some.is ∙ ap (λ (e : OptionEntry). e.most) c.entry-entry.ensures) ∙ within o in
    let plain : false ≡ is_flag o = sym c.if-entry.false ∙ ap (λ (e : OptionEntry). e.is_flag) c.entry-entry.ensures in
    ap rule_of made.others
    ∙ ap (λ (r : Rule). record r
    { parser = c.value_parser-in-Some.result.value_parser }) c.described-argument.ensures.rule
    ∙ ap (λ p. record (named_rule o) { parser = p }) parser
    ∙ ap (λ b. record (named_rule o) { parser = parser_for o; range = range_for b; missing = missing_for b }) plain
