-- The deck's words are read, and their levels told. Assumes nothing.
use Rattle.std.proofs.Common.{ℕ, rules}
use Rattle.std.proofs.lemmas.Result.{err_from_is_err_and}
use lib.ListN.{length-replicate}
use Rattle.listing.specs.Printed.{file_of}
use Rattle.ranks_program.specs.LevelsProgram.{no_deck}
use Rattle.ranks_program.proofs.LevelsLaws.{told-refused, told-levels}
use Rattle.ranks_program.proofs.told.Goals as goal

pub returns-in_err-words : goal.returns-in_err-words
returns-in_err-words c =
    let p = err_from_is_err_and c.from_residual.result c.from_residual.ensures.1 in
    rw (p.1, p.2) (no_deck c.in_err-words.ensures, search rules)

pub returns-in_err-named : goal.returns-in_err-named
returns-in_err-named c =
    let p = err_from_is_err_and c.from_residual-in_err-named.result c.from_residual-in_err-named.ensures.1 in
    rw (p.1, p.2) (told-refused (file_of c.args.file) c.in_ok-words.words.now _ _ c.in_ok-words.ensures (length-replicate {A = ℕ} 4096 0) c.in_err-named.field-0.0 c.in_err-named.ensures, search rules)

pub returns : goal.returns
returns c =
    told-levels (file_of c.args.file) c.in_ok-words.words.now _ _ c.in_ok-words.ensures (length-replicate {A = ℕ} 4096 0) c.in_ok-named.named _ _ _ c.in_ok-named.ensures c.put_levels.ensures
