-- The file's test is the rules', and its words are read.
use Rattle.std.proofs.Common.{rules, ◌≡◌, ℕ, List, Bool, Bor, Some, true, ap, sym, ◌∙◌, arith}
use Rattle.std.proofs.Math.Option.{some}
use Rattle.std.proofs.lemmas.Result.{err_from_is_err_and}
use Rattle.rules.specs.Refusals.{accepted}
use Rattle.listing.specs.Printed.{deck_fits}
use Rattle.listing.proofs.PrintedLaws.{file-small}
use Rattle.program_parts.proofs.FilterLaws.{filter-none, filter-some, none-err}
use Rattle.program_parts.proofs.FileLaws.{deck_file-refused, deck_file-fit}
use Rattle.program_parts.proofs.deck_words.Goals as goal
use Rattle.program_parts.proofs.deck_words.Goals.{In_ok-bytes}

abbrev fits : Bor (List ℕ) → Bool
fits bytes = deck_fits (some bytes.now)

kept : (c : In_ok-bytes) → (c.args.file ≡ Some c.in_ok-bytes.bytes) × (fits c.in_ok-bytes.bytes ≡ true)
kept c = filter-some fits (λ x b g. search rules) _ _ c.filter.ensures c.in_ok-bytes.bytes c.in_ok-bytes.ensures.ok_part

pub returns-in_err-bytes : goal.returns-in_err-bytes
returns-in_err-bytes c =
    let p = err_from_is_err_and c.from_residual.result c.from_residual.ensures.1 in
    let n = c.in_err-bytes.ensures.ok_part in
    rw (p.1, p.2, none-err _ _ _ n c.in_err-bytes.ensures.value) (deck_file-refused _ (filter-none fits (λ x b g. search rules) _ _ c.filter.ensures n))

pub words_of-requires : goal.words_of-requires
words_of-requires c = let k = kept (goal.at.words_of-requires c).In_ok-bytes in omega (arith, file-small c.in_ok-bytes.bytes.now k.1, c.told-words)

pub returns : goal.returns
returns c =
    let k = kept (goal.at.returns c).In_ok-bytes in
    rw k.0 (deck_file-fit c.in_ok-bytes.bytes.now k.1 ∙ ap accepted (sym c.words_of.ensures))
