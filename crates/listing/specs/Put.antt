-- What a function that writes bytes promises.
use Rattle.std.specs.Prelude.{ℕ, ◌+◌, ◌≤◌, ◌≡◌, List, length}
use Rattle.std.proofs.lemmas.List.Edits.{sets}
use Rattle.listing.specs.declared.output.Output.{Output}

-- The text stands in the output from a place on, and the place after it is returned.
pub record Put (out : List ℕ) (at : ℕ) (text : List ℕ) (end : ℕ) (after : List ℕ) : Type 0 where
  pub place : end ≡ at + length text
  pub bytes : after ≡ sets out at text

-- There is room for a text.
abbrev pub Fits : Output → List ℕ → Type 0
Fits out text = out.at + length text ≤ length out.bytes.now

-- The text is added to what was written, and the bytes after it are as they were.
pub record Adds (before : Output) (text : List ℕ) (after : Output) : Type 0 where
  pub put : Put before.bytes.now before.at text after.at after.bytes.now
  pub same_reference : after.bytes.ghost_name ≡ before.bytes.ghost_name
