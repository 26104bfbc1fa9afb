-- The deck's words are read, and written as text.
use Rattle.std.proofs.Common.{rules}
use Rattle.std.proofs.lemmas.Result.{err_from_is_err_and}
use Rattle.listing.specs.Printed.{file_of}
use Rattle.text_program.proofs.WriteLaws.{write_run-unread, write_run-words, Wrote-prints}
use Rattle.text_program.proofs.written.Goals as goal

pub returns-in_err-words : goal.returns-in_err-words
returns-in_err-words c =
    let p = err_from_is_err_and c.from_residual.result c.from_residual.ensures.1 in
    rw (p.1, p.2) (write_run-unread (file_of c.args.file) _ c.in_err-words.ensures, search rules)

pub returns : goal.returns
returns c =
    rw (write_run-words (file_of c.args.file) _ c.in_ok-words.ensures) (Wrote-prints c.in_ok-words.words.now c.args.out.now c.write_text.result _ c.told-out c.write_text.ensures)
