-- What is said of a text that may be in the grammar.
use Rattle.std.specs.Prelude.{ℕ, ◌≡◌, List, Result, Ok, Err}
use Rattle.std.proofs.Math.Option.{some}
use Rattle.text_rules.specs.Text.{text_unread, place_of}
use Rattle.text.specs.declared.readable.Readable.{Readable}

-- The text itself, which is in the grammar by its type; or the place that `text_unread` tells.
abbrev pub ReadsText : List ℕ → Result Readable ℕ → Type 0
ReadsText text (Ok r) = r.text.now ≡ text
ReadsText text (Err place) = place_of text (text_unread text) ≡ some place
